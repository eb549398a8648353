-- The goals of the functions that put statements in, one function after another; what falls along their calls is in Invariants.antt.
-- An if: its own delay, its switches, P, Q, and the 35 of their finishes. Assumes nothing.
-- A loop: the 35 of start and its delay, P, the delay that P's finish feeds, and the ors of its exits. Assumes nothing.
-- A parallel: P and Q from the same start, and their merge. Assumes nothing.
-- A repeat: its switches, the 35 of start and its 37, P, and the delay that P's finish feeds. Assumes nothing.
-- A sequence: P, and from its finish on Q. Assumes nothing.
-- A node: its statement by its kind. Assumes nothing.
-- A while: its switches, P, the 35 of start and P's finish, and the delay that it feeds. Assumes nothing.
use mathlib.Core.Logic.{inl}
use Prim.Native.Nat.{◌+◌, ◌≤◌}
use Rattle.model.specs.Program.{ok, tick, assign, assign_elem, loop, exit, call, stmt_at}
use native.Mathlib.Omega.{arith}
use mathlib.Core.Path.{◌∙◌, ◌≡◌, refl}
use Rattle.model.specs.Numbering.{walk_count, delay_count, exit_count, exit_wires}
use Rattle.compiler.proofs.Stmts.{if-done, loop-done, par-done, repeat-done, seq-done, ok-done, tick-done, exit-done, call-done, while-done}
use Rattle.compiler.proofs.Exits.{if-opened, loop-opened, par-opened, repeat-opened, seq-opened, opened-none, while-opened}
use Rattle.compiler.proofs.Parts.{switch-low, if-switches, if-first, if-second, if-merge, delays-fit, loop-merge, loop-body, loop-waits, loop-exits, par-first, par-second, par-merge, repeat-switches, repeat-body, seq-first, seq-second, call_fits, while-switches, while-body, while-merge}
use Rattle.compiler.specs.Walk.{all_exits}
use Rattle.laws.specs.Program.Trees.{at_tick, at-loop, at_exit, at_call}
use Rattle.program.specs.Ends.{past-later}
use Rattle.program.proofs.Children.{last-kind, second-later, assign-read, assign-elem-read, seq-read, par-read, ite-read, while-read, repeat_read}
use Rattle.compiler.proofs.Reading.{inner-stmt}
use Rattle.compiler.proofs.walk.+put_if_put_loop_put_par_put_repeat_put_seq_put_stmt_put_while.Goals as goal

pub put_if-put_own-own-requires : goal.put_if-put_own-own-requires
unfolding walk_count
put_if-put_own-own-requires t c =
    let ready = c.requires.1 in
    (omega (arith, ready.apart, ready.room, ready.small), omega (arith, ready.apart, ready.room))

pub put_if-put_switches-switch-requires : goal.put_if-put_switches-switch-requires
put_if-put_switches-switch-requires t c =
    let pre = c.requires in
    rw c.put_own-own.auto.cells (pre.0, if-switches pre.1, inl tt)

pub put_if-overflow_add-when_true : goal.put_if-overflow_add-when_true
put_if-overflow_add-when_true t c =
    let low : c.put_switches-switch.result + 2 ≤ 7043 = switch-low (if-switches c.requires.1) (c.put_switches-switch.ensures _ refl) in
    omega (arith, low)

pub put_if-overflow_add-when_true-2 : goal.put_if-overflow_add-when_true-2
put_if-overflow_add-when_true-2 t c =
    let low : c.put_switches-switch.result + 2 ≤ 7043 = switch-low (if-switches c.requires.1) (c.put_switches-switch.ensures _ refl) in
    omega (arith, low)

pub put_if-put_stmt-p-requires : goal.put_if-put_stmt-p-requires
put_if-put_stmt-p-requires t c =
    let pre = c.requires in
    rw (c.put_switches-switch.auto.cells, c.put_own-own.auto.cells)
    (omega arith, (pre.0, if-first pre.1 c.put_own-own.ensures (c.put_switches-switch.ensures _ refl), pre.3))

pub put_if-overflow_add-when_false : goal.put_if-overflow_add-when_false
put_if-overflow_add-when_false t c =
    let low : c.put_switches-switch.result + 2 ≤ 7043 = switch-low (if-switches c.requires.1) (c.put_switches-switch.ensures _ refl) in
    omega (arith, low)

pub put_if-put_stmt-q-requires : goal.put_if-put_stmt-q-requires
put_if-put_stmt-q-requires t c =
    let pre = c.requires in
    rw (c.put_stmt-p.auto.cells, c.put_switches-switch.auto.cells, c.put_own-own.auto.cells)
    (omega (arith, pre.2), (pre.0, if-second pre.1 c.put_own-own.ensures (c.put_switches-switch.ensures _ refl) c.put_stmt-p.ensures.done, c.put_stmt-p.ensures.outs.same ∙ pre.3))

pub put_if-put-requires : goal.put_if-put-requires
put_if-put-requires t c =
    let ready = c.requires.1 in
    rw (c.put_stmt-q.auto.cells, c.put_stmt-p.auto.cells, c.put_switches-switch.auto.cells, c.put_own-own.auto.cells)
    (if-merge ready c.put_own-own.ensures (c.put_switches-switch.ensures _ refl) c.put_stmt-p.ensures.done c.put_stmt-q.ensures.done)

pub put_if-overflow_add-result : goal.put_if-overflow_add-result
put_if-overflow_add-result t c =
    let ready = c.requires.1 in
    omega (arith, ready.small, if-merge ready c.put_own-own.ensures (c.put_switches-switch.ensures _ refl) c.put_stmt-p.ensures.done c.put_stmt-q.ensures.done)

pub put_if-shape_of-cells : goal.put_if-shape_of-cells
put_if-shape_of-cells t c =
    c.put.auto.cells ∙ c.put_stmt-q.auto.cells ∙ c.put_stmt-p.auto.cells ∙ c.put_switches-switch.auto.cells ∙ c.put_own-own.auto.cells

pub put_if-returns : goal.put_if-returns
put_if-returns t c =
    let ready = c.requires.1 in
    let o = c.put_own-own.ensures in
    let s = (c.put_switches-switch.ensures _ refl) in
    let u = c.put_stmt-p.ensures in
    let v = c.put_stmt-q.ensures in
    record { done = if-done ready.apart o s u.done v.done c.put.ensures; outs = if-opened o s u.done u.outs v.outs }

pub put_loop-put-requires : goal.put_loop-put-requires
put_loop-put-requires t c = loop-merge c.requires.1

pub put_loop-overflow_add-body-2 : goal.put_loop-overflow_add-body-2
put_loop-overflow_add-body-2 t c =
    let ready = c.requires.1 in
    omega (arith, ready.small, loop-merge ready)

pub put_loop-put_stmt-round-requires : goal.put_loop-put_stmt-round-requires
put_loop-put_stmt-round-requires t c =
    let pre = c.requires in
    rw c.put.auto.cells (omega arith, (pre.0, loop-body pre.1, pre.2))

pub put_loop-put-requires-2 : goal.put_loop-put-requires-2
unfolding delay_count
put_loop-put-requires-2 t c =
    let pre = c.requires in
    rw (c.put_stmt-round.auto.cells, c.put.auto.cells) (omega (arith, delays-fit pre.1))

pub put_loop-put_exits-joined-requires : goal.put_loop-put_exits-joined-requires
put_loop-put_exits-joined-requires t c =
    let pre = c.requires in
    let u = c.put_stmt-round.ensures in
    rw (c.put-2.auto.cells, c.put_stmt-round.auto.cells, c.put.auto.cells) (loop-exits pre.1 u.done u.outs pre.2)

pub put_loop-returns : goal.put_loop-returns
unfolding all_exits
put_loop-returns t c =
    let pre = c.requires in
    let ready = pre.1 in
    let u = c.put_stmt-round.ensures in
    let j = rw (loop-waits ready u.done u.outs pre.2) at c.put_exits-joined.ensures in
    record { done = loop-done ready.apart c.put.ensures u.done c.put-2.ensures j; outs = loop-opened (omega (arith, ready.outs, pre.2)) u.outs }

pub put_par-put_stmt-p-requires : goal.put_par-put_stmt-p-requires
put_par-put_stmt-p-requires t c =
    let pre = c.requires in
    (omega arith, (pre.0, par-first pre.1, pre.3))

pub put_par-put_stmt-q-requires : goal.put_par-put_stmt-q-requires
put_par-put_stmt-q-requires t c =
    let pre = c.requires in
    rw c.put_stmt-p.auto.cells (omega (arith, pre.2), (pre.0, par-second pre.1 c.put_stmt-p.ensures.done, c.put_stmt-p.ensures.outs.same ∙ pre.3))

pub put_par-put-requires : goal.put_par-put-requires
put_par-put-requires t c =
    let pre = c.requires in
    rw (c.put_stmt-q.auto.cells, c.put_stmt-p.auto.cells) (par-merge pre.1 c.put_stmt-p.ensures.done c.put_stmt-q.ensures.done)

pub put_par-overflow_add-result : goal.put_par-overflow_add-result
put_par-overflow_add-result t c =
    let ready = c.requires.1 in
    omega (arith, ready.small, par-merge ready c.put_stmt-p.ensures.done c.put_stmt-q.ensures.done)

pub put_par-returns : goal.put_par-returns
put_par-returns t c =
    let pre = c.requires in
    let u = c.put_stmt-p.ensures in
    let v = c.put_stmt-q.ensures in
    record { done = par-done pre.1.apart u.done v.done c.put.ensures; outs = par-opened u.done u.outs v.outs }

pub put_repeat-put_switches-switch-requires : goal.put_repeat-put_switches-switch-requires
put_repeat-put_switches-switch-requires t c =
    let pre = c.requires in
    (pre.0, repeat-switches pre.1, inl tt)

pub put_repeat-overflow_add-start : goal.put_repeat-overflow_add-start
put_repeat-overflow_add-start t c =
    let low : c.put_switches-switch.result + 2 ≤ 7043 = switch-low (repeat-switches c.requires.1) (c.put_switches-switch.ensures _ refl) in
    omega (arith, low)

pub put_repeat-overflow_add-start-2 : goal.put_repeat-overflow_add-start-2
put_repeat-overflow_add-start-2 t c =
    let low : c.put_switches-switch.result + 2 ≤ 7043 = switch-low (repeat-switches c.requires.1) (c.put_switches-switch.ensures _ refl) in
    omega (arith, low)

pub put_repeat-overflow_add-switch : goal.put_repeat-overflow_add-switch
put_repeat-overflow_add-switch t c =
    let low : c.put_switches-switch.result + 2 ≤ 7043 = switch-low (repeat-switches c.requires.1) (c.put_switches-switch.ensures _ refl) in
    omega (arith, low)

pub put_repeat-put-requires : goal.put_repeat-put-requires
put_repeat-put-requires t c =
    let body = repeat-body c.requires.1 (c.put_switches-switch.ensures _ refl) in
    rw c.put_switches-switch.auto.cells (omega (arith, body.room))

pub put_repeat-overflow_add-body-2 : goal.put_repeat-overflow_add-body-2
put_repeat-overflow_add-body-2 t c =
    let low : c.put_switches-switch.result + 2 ≤ 7043 = switch-low (repeat-switches c.requires.1) (c.put_switches-switch.ensures _ refl) in
    omega (arith, low)

pub put_repeat-put_stmt-p-requires : goal.put_repeat-put_stmt-p-requires
put_repeat-put_stmt-p-requires t c =
    let pre = c.requires in
    rw (c.put.auto.cells, c.put_switches-switch.auto.cells) (omega arith, (pre.0, repeat-body pre.1 (c.put_switches-switch.ensures _ refl), pre.2))

pub put_repeat-put-requires-2 : goal.put_repeat-put-requires-2
unfolding delay_count
put_repeat-put-requires-2 t c =
    let pre = c.requires in
    rw (c.put_stmt-p.auto.cells, c.put.auto.cells, c.put_switches-switch.auto.cells) (omega (arith, delays-fit pre.1))

pub put_repeat-returns : goal.put_repeat-returns
put_repeat-returns t c =
    let pre = c.requires in
    let s = (c.put_switches-switch.ensures _ refl) in
    let u = c.put_stmt-p.ensures in
    record { done = repeat-done pre.1.apart s c.put.ensures u.done c.put-2.ensures; outs = repeat-opened s u.outs }

pub put_seq-put_stmt-p-requires : goal.put_seq-put_stmt-p-requires
put_seq-put_stmt-p-requires t c =
    let pre = c.requires in
    (omega arith, (pre.0, seq-first pre.1, pre.3))

pub put_seq-put_stmt-requires : goal.put_seq-put_stmt-requires
put_seq-put_stmt-requires t c =
    let pre = c.requires in
    rw c.put_stmt-p.auto.cells (omega (arith, pre.2), (pre.0, seq-second pre.1 c.put_stmt-p.ensures.done, c.put_stmt-p.ensures.outs.same ∙ pre.3))

pub put_seq-returns : goal.put_seq-returns
put_seq-returns t c =
    let pre = c.requires in
    let u = c.put_stmt-p.ensures in
    let v = c.put_stmt.ensures in
    record { done = seq-done pre.1.apart u.done v.done; outs = seq-opened u.done u.outs v.outs }

pub put_stmt-returns-then-kind-eq16 : goal.put_stmt-returns-then-kind-eq16
unfolding exit_count exit_wires
put_stmt-returns-then-kind-eq16 t c = record { done = rw (c.stmt_node-node.ensures.nothing c.if-kind-eq16.true) ok-done; outs = rw (c.stmt_node-node.ensures.nothing c.if-kind-eq16.true) (opened-none ok refl refl) }

pub put_stmt-put_tick-requires : goal.put_stmt-put_tick-requires
unfolding delay_count
put_stmt-put_tick-requires t c =
    let here = c.stmt_node-node.ensures.here c.if-kind-eq16.false in
    let tick-of : stmt_at c.args.known.now.tree.program.now c.args.i ≡ tick c.stmt_node-node.result.delay = at_tick _ _ here.0 _ here.2 c.if-kind-eq17.true in
    let ready = rw tick-of at c.requires.1 in
    (omega (arith, ready.small, delays-fit ready), omega (arith, delays-fit ready))

pub put_stmt-returns-then-kind-eq17 : goal.put_stmt-returns-then-kind-eq17
unfolding exit_count exit_wires
put_stmt-returns-then-kind-eq17 t c =
    let here = c.stmt_node-node.ensures.here c.if-kind-eq16.false in
    let tick-of : stmt_at c.args.known.now.tree.program.now c.args.i ≡ tick c.stmt_node-node.result.delay = at_tick _ _ here.0 _ here.2 c.if-kind-eq17.true in
    let ready = rw tick-of at c.requires.1 in
    let u = c.put_tick.ensures in
    record { done = rw tick-of (tick-done ready.apart u.cells u.place); outs = rw tick-of (opened-none (tick _) refl refl) }

pub put_stmt-overflow_add-first : goal.put_stmt-overflow_add-first
put_stmt-overflow_add-first t c =
    let here = c.stmt_node-node.ensures.here c.if-kind-eq16.false in
    omega (arith, here.0, c.requires.0.short)

pub put_stmt-next-second-requires : goal.put_stmt-next-second-requires
put_stmt-next-second-requires t c = omega (arith, c.requires.0.short)

pub put_stmt-put_assign-requires : goal.put_stmt-put_assign-requires
put_stmt-put_assign-requires t c =
    let n = inner-stmt c.requires.0 c.stmt_node-node.ensures c.if-kind-eq16.false c.next-second.ensures in
    let pre = c.requires in
    (pre.0, rw (assign-read n c.in-18.is) at pre.1)

pub put_stmt-put_seq-requires : goal.put_stmt-put_seq-requires
put_stmt-put_seq-requires t c =
    let n = inner-stmt c.requires.0 c.stmt_node-node.ensures c.if-kind-eq16.false c.next-second.ensures in
    let pre = c.requires in
    (omega (arith, n.here), (pre.0, rw (seq-read n c.in-19.is) at pre.1, second-later n, pre.2))

pub put_stmt-put_par-requires : goal.put_stmt-put_par-requires
put_stmt-put_par-requires t c =
    let n = inner-stmt c.requires.0 c.stmt_node-node.ensures c.if-kind-eq16.false c.next-second.ensures in
    let pre = c.requires in
    (omega (arith, n.here), (pre.0, rw (par-read n c.in-20.is) at pre.1, second-later n, pre.2))

pub put_stmt-next-third-requires : goal.put_stmt-next-third-requires
put_stmt-next-third-requires t c = omega (arith, c.requires.0.short)

pub put_stmt-put_if-requires : goal.put_stmt-put_if-requires
put_stmt-put_if-requires t c =
    let n = inner-stmt c.requires.0 c.stmt_node-node.ensures c.if-kind-eq16.false c.next-second.ensures in
    let pre = c.requires in
    (omega (arith, n.here, second-later n), (pre.0, rw (ite-read n _ c.next-third.ensures c.in-21.is) at pre.1, past-later _ _ _ (n.laid.each _) _ c.next-third.ensures, pre.2))

pub put_stmt-put_while-requires : goal.put_stmt-put_while-requires
put_stmt-put_while-requires t c =
    let n = inner-stmt c.requires.0 c.stmt_node-node.ensures c.if-kind-eq16.false c.next-second.ensures in
    let pre = c.requires in
    (omega (arith, n.here, second-later n), (pre.0, rw (while-read n c.in-22.is) at pre.1, pre.2))

pub put_stmt-put_element-requires : goal.put_stmt-put_element-requires
put_stmt-put_element-requires t c =
    let n = inner-stmt c.requires.0 c.stmt_node-node.ensures c.if-kind-eq16.false c.next-second.ensures in
    let pre = c.requires in
    (pre.0, rw (assign-elem-read n c.in-24.is) at pre.1)

pub put_stmt-put_loop-requires : goal.put_stmt-put_loop-requires
put_stmt-put_loop-requires t c =
    let n = inner-stmt c.requires.0 c.stmt_node-node.ensures c.if-kind-eq16.false c.next-second.ensures in
    let loop-of : stmt_at c.args.known.now.tree.program.now c.args.i ≡ loop c.stmt_node-node.result.delay (stmt_at c.args.known.now.tree.program.now (c.args.i + 1)) = at-loop _ _ n.here _ n.node c.in-25.is in
    let pre = c.requires in
    (omega (arith, n.here), (pre.0, rw loop-of at pre.1, pre.2))

pub put_stmt-put_exit-requires : goal.put_stmt-put_exit-requires
unfolding all_exits
put_stmt-put_exit-requires t c =
    let n = inner-stmt c.requires.0 c.stmt_node-node.ensures c.if-kind-eq16.false c.next-second.ensures in
    let exit-of : stmt_at c.args.known.now.tree.program.now c.args.i ≡ exit = at_exit _ _ n.here _ n.node c.in-26.is in
    let pre = c.requires in
    let ready = rw exit-of at pre.1 in
    (ready.outs, pre.2)

pub put_stmt-put_call-requires : goal.put_stmt-put_call-requires
put_stmt-put_call-requires t c =
    let n = inner-stmt c.requires.0 c.stmt_node-node.ensures c.if-kind-eq16.false c.next-second.ensures in
    let call-of : stmt_at c.args.known.now.tree.program.now c.args.i ≡ call c.stmt_node-node.result.delay c.stmt_node-node.result.n = at_call _ _ n.here _ n.node c.in-27.is in
    call_fits (rw call-of at c.requires.1)

pub put_stmt-put_repeat-requires : goal.put_stmt-put_repeat-requires
put_stmt-put_repeat-requires t c =
    let here = c.stmt_node-node.ensures.here c.if-kind-eq16.false in
    let n = inner-stmt c.requires.0 c.stmt_node-node.ensures c.if-kind-eq16.false c.next-second.ensures in
    let last_of : 23 ≤ c.stmt_node-node.result.kind = last-kind (omega (arith, here.1, c.if-kind-eq17.false)) c.in_default.in_default-own.rest.0.0.0.0 in
    let pre = c.requires in
    (omega (arith, n.here, second-later n), (pre.0, rw (repeat_read n last_of c.in_default.in_default-own.rest.0.0.0.1 c.in_default.in_default-own.rest.0.0.1 c.in_default.in_default-own.rest.0.1 c.in_default.in_default-own.rest.1) at pre.1, pre.2))

pub put_stmt-returns-in-18 : goal.put_stmt-returns-in-18
unfolding exit_count exit_wires
put_stmt-returns-in-18 t c =
    let n = inner-stmt c.requires.0 c.stmt_node-node.ensures c.if-kind-eq16.false c.next-second.ensures in
    record { done = rw (assign-read n c.in-18.is) (c.put_assign.ensures _); outs = rw (assign-read n c.in-18.is) (opened-none (assign _ _ _) refl refl) }

pub put_stmt-returns-in-19 : goal.put_stmt-returns-in-19
put_stmt-returns-in-19 t c =
    let n = inner-stmt c.requires.0 c.stmt_node-node.ensures c.if-kind-eq16.false c.next-second.ensures in
    record { done = rw (seq-read n c.in-19.is) c.put_seq.ensures.done; outs = rw (seq-read n c.in-19.is) c.put_seq.ensures.outs }

pub put_stmt-returns-in-20 : goal.put_stmt-returns-in-20
put_stmt-returns-in-20 t c =
    let n = inner-stmt c.requires.0 c.stmt_node-node.ensures c.if-kind-eq16.false c.next-second.ensures in
    record { done = rw (par-read n c.in-20.is) c.put_par.ensures.done; outs = rw (par-read n c.in-20.is) c.put_par.ensures.outs }

pub put_stmt-returns-in-21 : goal.put_stmt-returns-in-21
put_stmt-returns-in-21 t c =
    let n = inner-stmt c.requires.0 c.stmt_node-node.ensures c.if-kind-eq16.false c.next-second.ensures in
    record { done = rw (ite-read n _ c.next-third.ensures c.in-21.is) c.put_if.ensures.done; outs = rw (ite-read n _ c.next-third.ensures c.in-21.is) c.put_if.ensures.outs }

pub put_stmt-returns-in-22 : goal.put_stmt-returns-in-22
put_stmt-returns-in-22 t c =
    let n = inner-stmt c.requires.0 c.stmt_node-node.ensures c.if-kind-eq16.false c.next-second.ensures in
    record { done = rw (while-read n c.in-22.is) c.put_while.ensures.done; outs = rw (while-read n c.in-22.is) c.put_while.ensures.outs }

pub put_stmt-returns-in-24 : goal.put_stmt-returns-in-24
unfolding exit_count exit_wires
put_stmt-returns-in-24 t c =
    let n = inner-stmt c.requires.0 c.stmt_node-node.ensures c.if-kind-eq16.false c.next-second.ensures in
    record { done = rw (assign-elem-read n c.in-24.is) (c.put_element.ensures _); outs = rw (assign-elem-read n c.in-24.is) (opened-none (assign_elem _ _ _ _) refl refl) }

pub put_stmt-returns-in-25 : goal.put_stmt-returns-in-25
put_stmt-returns-in-25 t c =
    let n = inner-stmt c.requires.0 c.stmt_node-node.ensures c.if-kind-eq16.false c.next-second.ensures in
    let loop-of : stmt_at c.args.known.now.tree.program.now c.args.i ≡ loop c.stmt_node-node.result.delay (stmt_at c.args.known.now.tree.program.now (c.args.i + 1)) = at-loop _ _ n.here _ n.node c.in-25.is in
    record { done = rw loop-of c.put_loop.ensures.done; outs = rw loop-of c.put_loop.ensures.outs }

pub put_stmt-returns-in-26 : goal.put_stmt-returns-in-26
put_stmt-returns-in-26 t c =
    let n = inner-stmt c.requires.0 c.stmt_node-node.ensures c.if-kind-eq16.false c.next-second.ensures in
    let exit-of : stmt_at c.args.known.now.tree.program.now c.args.i ≡ exit = at_exit _ _ n.here _ n.node c.in-26.is in
    let u = c.put_exit.ensures in
    record { done = rw exit-of (exit-done u.place); outs = rw exit-of u.outs }

pub put_stmt-returns-in-27 : goal.put_stmt-returns-in-27
unfolding exit_count exit_wires
put_stmt-returns-in-27 t c =
    let n = inner-stmt c.requires.0 c.stmt_node-node.ensures c.if-kind-eq16.false c.next-second.ensures in
    let call-of : stmt_at c.args.known.now.tree.program.now c.args.i ≡ call c.stmt_node-node.result.delay c.stmt_node-node.result.n = at_call _ _ n.here _ n.node c.in-27.is in
    let ready = rw call-of at c.requires.1 in
    let u = c.put_call.ensures in
    record { done = rw call-of (call-done ready.apart u.cells u.marks u.place); outs = rw call-of (opened-none (call _ _) refl refl) }

pub put_stmt-returns-in_default : goal.put_stmt-returns-in_default
put_stmt-returns-in_default t c =
    let here = c.stmt_node-node.ensures.here c.if-kind-eq16.false in
    let n = inner-stmt c.requires.0 c.stmt_node-node.ensures c.if-kind-eq16.false c.next-second.ensures in
    let last_of : 23 ≤ c.stmt_node-node.result.kind = last-kind (omega (arith, here.1, c.if-kind-eq17.false)) c.in_default.in_default-own.rest.0.0.0.0 in
    record { done = rw (repeat_read n last_of c.in_default.in_default-own.rest.0.0.0.1 c.in_default.in_default-own.rest.0.0.1 c.in_default.in_default-own.rest.0.1 c.in_default.in_default-own.rest.1) c.put_repeat.ensures.done; outs = rw (repeat_read n last_of c.in_default.in_default-own.rest.0.0.0.1 c.in_default.in_default-own.rest.0.0.1 c.in_default.in_default-own.rest.0.1 c.in_default.in_default-own.rest.1) c.put_repeat.ensures.outs }

pub put_while-put_switches-switch-requires : goal.put_while-put_switches-switch-requires
put_while-put_switches-switch-requires t c =
    let pre = c.requires in
    (pre.0, while-switches pre.1, inl tt)

pub put_while-overflow_add-body-2 : goal.put_while-overflow_add-body-2
put_while-overflow_add-body-2 t c =
    let low : c.put_switches-switch.result + 2 ≤ 7043 = switch-low (while-switches c.requires.1) (c.put_switches-switch.ensures _ refl) in
    omega (arith, low)

pub put_while-overflow_add-body-3 : goal.put_while-overflow_add-body-3
put_while-overflow_add-body-3 t c =
    let low : c.put_switches-switch.result + 2 ≤ 7043 = switch-low (while-switches c.requires.1) (c.put_switches-switch.ensures _ refl) in
    omega (arith, low)

pub put_while-put_stmt-p-requires : goal.put_while-put_stmt-p-requires
put_while-put_stmt-p-requires t c =
    let pre = c.requires in
    rw c.put_switches-switch.auto.cells (omega arith, (pre.0, while-body pre.1 (c.put_switches-switch.ensures _ refl), pre.2))

pub put_while-put-requires : goal.put_while-put-requires
put_while-put-requires t c =
    let pre = c.requires in
    rw (c.put_stmt-p.auto.cells, c.put_switches-switch.auto.cells) (while-merge pre.1 (c.put_switches-switch.ensures _ refl) c.put_stmt-p.ensures.done)

pub put_while-put-requires-2 : goal.put_while-put-requires-2
unfolding delay_count
put_while-put-requires-2 t c =
    let pre = c.requires in
    rw (c.put.auto.cells, c.put_stmt-p.auto.cells, c.put_switches-switch.auto.cells) (omega (arith, delays-fit pre.1))

pub put_while-overflow_add-result : goal.put_while-overflow_add-result
put_while-overflow_add-result t c =
    let low : c.put_switches-switch.result + 2 ≤ 7043 = switch-low (while-switches c.requires.1) (c.put_switches-switch.ensures _ refl) in
    omega (arith, low)

pub put_while-overflow_add-result-2 : goal.put_while-overflow_add-result-2
put_while-overflow_add-result-2 t c =
    let ready = c.requires.1 in
    omega (arith, ready.small, while-merge ready (c.put_switches-switch.ensures _ refl) c.put_stmt-p.ensures.done)

pub put_while-returns : goal.put_while-returns
put_while-returns t c =
    let pre = c.requires in
    let s = (c.put_switches-switch.ensures _ refl) in
    let u = c.put_stmt-p.ensures in
    record { done = while-done pre.1.apart s u.done c.put.ensures c.put-2.ensures; outs = while-opened s u.outs }
