-- The goals of the functions that put statements in, one function after another; what falls along their calls is in Invariants.antt. Assumes nothing.
-- An if: its expression, its own delay, its switches, P, Q, and the end of both.
-- A parallel: P and Q from the same start and the same words, and their merge; each side's words are those that it writes.
-- A repeat: its latches and delays, P, its switches, and the words that another round loads.
-- A sequence: P, and from its finish on Q, with the words that P hands on.
-- A node: its statement by its kind.
-- A while: its latches and delays, its switches, P, and the words that another round loads.
use mathlib.Core.Logic.{inr}
use Prim.Native.Nat.{◌+◌, ◌*◌, ◌≤◌}
use Rattle.model.specs.Program.{expr_at, writes, tick, repeat, stmt_at}
use mathlib.Core.Path.{◌≡◌, refl, ◌∙◌}
use native.Mathlib.Omega.{arith}
use Rattle.model.specs.Numbering.{expr_count, if_delay_count}
use Rattle.functional.specs.Sets.{has}
use Rattle.functional.proofs.Bits.{many-set}
use Rattle.functional.proofs.Branches.{if-room, if-expr, if-first, if-second, if-done}
use lib.ListN.{length}
use Rattle.functional.proofs.Parts.{par-first, par-second, par-room, par-done, seq-first, seq-second, seq-done, ok-done, tick-room, tick-done}
use Rattle.model.specs.Functional.{many}
use Rattle.functional.specs.Walk.{plain_at}
use Rattle.functional.proofs.Loops.{many-told, repeat-room, repeat-body, repeat-switches, repeat-done, while-room, while-switches, while-body, while-done}
use Rattle.laws.specs.Program.Trees.{at_tick}
use Rattle.program.specs.Ends.{past-later}
use Rattle.program.proofs.Children.{last-kind, second-later, assign-read, seq-read, par-read, ite-read, while-read, repeat_read}
use Rattle.functional.proofs.Writing.{basic-kind}
use Rattle.compiler.proofs.Reading.{inner-stmt}
use Rattle.functional.proofs.walk.+put_if_put_par_put_repeat_put_seq_put_stmt_put_while.Goals as goal

pub put_if-put_expr-e-requires : goal.put_if-put_expr-e-requires
put_if-put_expr-e-requires t c =
    (c.requires.0, if-expr c.requires.1, inr c.requires.1.basic.0)

pub put_if-put_own-own-requires : goal.put_if-put_own-own-requires
put_if-put_own-own-requires t c =
    let e = (c.put_expr-e.ensures _ (λ x h. refl)).cell in
    let room = if-room c.requires.1 in
    (omega (arith, room, e, c.requires.1.small), omega (arith, room, e, c.put_expr-e.auto.cells))

pub put_if-put-requires : goal.put_if-put-requires
put_if-put-requires t c =
    let true_of : c.put_own-own.result.cell ≡ c.args.at.cell + expr_count (expr_at c.args.tree.now.program.now c.args.parent.first) + if_delay_count c.args.parent.node.delay = omega (arith, c.put_own-own.ensures.cell, (c.put_expr-e.ensures _ (λ x h. refl)).cell) in
    omega (arith, if-room c.requires.1, true_of, c.put_own-own.auto.cells, c.put_expr-e.auto.cells)

pub put_if-overflow_add-switch : goal.put_if-overflow_add-switch
put_if-overflow_add-switch t c =
    let true_of : c.put_own-own.result.cell ≡ c.args.at.cell + expr_count (expr_at c.args.tree.now.program.now c.args.parent.first) + if_delay_count c.args.parent.node.delay = omega (arith, c.put_own-own.ensures.cell, (c.put_expr-e.ensures _ (λ x h. refl)).cell) in
    let low_of : c.put_own-own.result.cell + 2 ≤ 7043 = omega (arith, if-room c.requires.1, true_of, c.requires.1.small) in
    omega (arith, low_of)

pub put_if-put-requires-2 : goal.put_if-put-requires-2
put_if-put-requires-2 t c =
    let true_of : c.put_own-own.result.cell ≡ c.args.at.cell + expr_count (expr_at c.args.tree.now.program.now c.args.parent.first) + if_delay_count c.args.parent.node.delay = omega (arith, c.put_own-own.ensures.cell, (c.put_expr-e.ensures _ (λ x h. refl)).cell) in
    omega (arith, if-room c.requires.1, true_of, c.put.auto.cells, c.put_own-own.auto.cells, c.put_expr-e.auto.cells)

pub put_if-overflow_add-when_true : goal.put_if-overflow_add-when_true
put_if-overflow_add-when_true t c =
    let true_of : c.put_own-own.result.cell ≡ c.args.at.cell + expr_count (expr_at c.args.tree.now.program.now c.args.parent.first) + if_delay_count c.args.parent.node.delay = omega (arith, c.put_own-own.ensures.cell, (c.put_expr-e.ensures _ (λ x h. refl)).cell) in
    let low_of : c.put_own-own.result.cell + 2 ≤ 7043 = omega (arith, if-room c.requires.1, true_of, c.requires.1.small) in
    omega (arith, low_of)

pub put_if-overflow_add-when_true-2 : goal.put_if-overflow_add-when_true-2
put_if-overflow_add-when_true-2 t c =
    let true_of : c.put_own-own.result.cell ≡ c.args.at.cell + expr_count (expr_at c.args.tree.now.program.now c.args.parent.first) + if_delay_count c.args.parent.node.delay = omega (arith, c.put_own-own.ensures.cell, (c.put_expr-e.ensures _ (λ x h. refl)).cell) in
    let low_of : c.put_own-own.result.cell + 2 ≤ 7043 = omega (arith, if-room c.requires.1, true_of, c.requires.1.small) in
    omega (arith, low_of)

pub put_if-put_stmt-p-requires : goal.put_if-put_stmt-p-requires
put_if-put_stmt-p-requires t c =
    let true_of : c.put_own-own.result.cell ≡ c.args.at.cell + expr_count (expr_at c.args.tree.now.program.now c.args.parent.first) + if_delay_count c.args.parent.node.delay = omega (arith, c.put_own-own.ensures.cell, (c.put_expr-e.ensures _ (λ x h. refl)).cell) in
    rw (c.put-2.auto.cells, c.put.auto.cells, c.put_own-own.auto.cells, c.put_expr-e.auto.cells)
    (omega arith, (c.requires.0, if-first c.requires.1 true_of))

pub put_if-overflow_add-when_false : goal.put_if-overflow_add-when_false
put_if-overflow_add-when_false t c =
    let true_of : c.put_own-own.result.cell ≡ c.args.at.cell + expr_count (expr_at c.args.tree.now.program.now c.args.parent.first) + if_delay_count c.args.parent.node.delay = omega (arith, c.put_own-own.ensures.cell, (c.put_expr-e.ensures _ (λ x h. refl)).cell) in
    let low_of : c.put_own-own.result.cell + 2 ≤ 7043 = omega (arith, if-room c.requires.1, true_of, c.requires.1.small) in
    omega (arith, low_of)

pub put_if-put_stmt-q-requires : goal.put_if-put_stmt-q-requires
put_if-put_stmt-q-requires t c =
    let true_of : c.put_own-own.result.cell ≡ c.args.at.cell + expr_count (expr_at c.args.tree.now.program.now c.args.parent.first) + if_delay_count c.args.parent.node.delay = omega (arith, c.put_own-own.ensures.cell, (c.put_expr-e.ensures _ (λ x h. refl)).cell) in
    rw (c.put_stmt-p.auto.cells, c.put-2.auto.cells, c.put.auto.cells, c.put_own-own.auto.cells, c.put_expr-e.auto.cells)
    (omega (arith, c.requires.2), (c.requires.0, if-second c.requires.1 true_of (c.put_stmt-p.ensures _ (λ x h. refl)).cell))

pub put_if-both-set-requires : goal.put_if-both-set-requires
put_if-both-set-requires t c =
    (c.requires.0, c.requires.1.basic.1, c.requires.1.basic.2)

pub put_if-put_end-requires : goal.put_if-put_end-requires
put_if-put_end-requires t c =
    let true_of : c.put_own-own.result.cell ≡ c.args.at.cell + expr_count (expr_at c.args.tree.now.program.now c.args.parent.first) + if_delay_count c.args.parent.node.delay = omega (arith, c.put_own-own.ensures.cell, (c.put_expr-e.ensures _ (λ x h. refl)).cell) in
    let told = many-set (has c.both-set.result) _ c.both-set.ensures in
    let u = (c.put_stmt-p.ensures _ (λ x h. refl)).cell in
    let v = (c.put_stmt-q.ensures _ (λ x h. refl)).cell in
    rw (c.put_stmt-q.auto.cells, c.put_stmt-p.auto.cells, c.put-2.auto.cells, c.put.auto.cells, c.put_own-own.auto.cells, c.put_expr-e.auto.cells)
    (record { room = omega (arith, if-room c.requires.1, true_of, u, v, told); small = c.requires.1.small })

pub put_if-shape_of-cells : goal.put_if-shape_of-cells
put_if-shape_of-cells t c =
    c.put_end.auto.cells
    ∙ c.put_stmt-q.auto.cells
    ∙ c.put_stmt-p.auto.cells
    ∙ c.put-2.auto.cells
    ∙ c.put.auto.cells
    ∙ c.put_own-own.auto.cells
    ∙ c.put_expr-e.auto.cells

pub put_if-returns : goal.put_if-returns
put_if-returns t c =
    λ us same.
    if-done _ _ _ _ _ us c.both-set.result same (c.put_expr-e.ensures us same) c.put_own-own.ensures c.put.ensures c.put-2.ensures
    (c.put_stmt-p.ensures us same) (c.put_stmt-q.ensures us same) c.both-set.ensures c.put_end.ensures

pub put_par-put_stmt-p-requires : goal.put_par-put_stmt-p-requires
put_par-put_stmt-p-requires t c =
    (omega arith, (c.requires.0, par-first c.requires.1))

pub put_par-put_stmt-q-requires : goal.put_par-put_stmt-q-requires
put_par-put_stmt-q-requires t c =
    rw (c.put_stmt-p.auto.cells, (c.put_stmt-p.ensures _ (λ x h. refl)).cell)
    (omega (arith, c.requires.2), (c.requires.0, par-second c.requires.1))

pub put_par-put-requires : goal.put_par-put-requires
put_par-put-requires t c =
    let merge_of : 6 * c.put_stmt-q.result.cell + 6 ≤ length c.args.cells.now = omega (arith, par-room c.requires.1, (c.put_stmt-p.ensures _ (λ x h. refl)).cell, (c.put_stmt-q.ensures _ (λ x h. refl)).cell) in
    omega (arith, merge_of, c.put_stmt-q.auto.cells, c.put_stmt-p.auto.cells)

pub put_par-written-of_p-requires : goal.put_par-written-of_p-requires
put_par-written-of_p-requires t c =
    (c.requires.0, c.requires.1.basic.0)

pub put_par-written-of_q-requires : goal.put_par-written-of_q-requires
put_par-written-of_q-requires t c =
    (c.requires.0, c.requires.1.basic.1)

pub put_par-overflow_add-result : goal.put_par-overflow_add-result
put_par-overflow_add-result t c =
    let merge_of : 6 * c.put_stmt-q.result.cell + 6 ≤ length c.args.cells.now = omega (arith, par-room c.requires.1, (c.put_stmt-p.ensures _ (λ x h. refl)).cell, (c.put_stmt-q.ensures _ (λ x h. refl)).cell) in
    omega (arith, merge_of, c.requires.1.small)

pub put_par-returns : goal.put_par-returns
put_par-returns t c =
    λ us same.
    par-done _ _ _ _ _ us c.chosen.result c.written-of_p.result c.written-of_q.result (c.put_stmt-p.ensures us same) (c.put_stmt-q.ensures us same) c.put.ensures same
    c.written-of_p.ensures c.written-of_q.ensures (λ y l. c.chosen.ensures y l ∙ rw (c.chosen-right.ensures y l) refl)

pub put_repeat-written-set-requires : goal.put_repeat-written-set-requires
put_repeat-written-set-requires t c =
    (c.requires.0, c.requires.1.basic.1)

pub put_repeat-placed-latches-requires : goal.put_repeat-placed-latches-requires
put_repeat-placed-latches-requires t c =
    omega (arith, c.requires.1.room, c.requires.1.small)

pub put_repeat-overflow_add-waits : goal.put_repeat-overflow_add-waits
put_repeat-overflow_add-waits t c =
    let told_of : c.many-n.result ≡ many (writes (plain_at c.args.tree.now.program.now c.args.parent.second)) = many-told _ _ c.written-set.ensures c.many-n.ensures in
    let low_of : c.args.at.cell + c.many-n.result + 1 ≤ 7043 = omega (arith, repeat-room c.requires.1 told_of, c.requires.1.small) in
    omega (arith, low_of)

pub put_repeat-overflow_add-body : goal.put_repeat-overflow_add-body
put_repeat-overflow_add-body t c =
    let told_of : c.many-n.result ≡ many (writes (plain_at c.args.tree.now.program.now c.args.parent.second)) = many-told _ _ c.written-set.ensures c.many-n.ensures in
    let low_of : c.args.at.cell + c.many-n.result + 1 ≤ 7043 = omega (arith, repeat-room c.requires.1 told_of, c.requires.1.small) in
    omega (arith, low_of)

pub put_repeat-put_stmt-p-requires : goal.put_repeat-put_stmt-p-requires
put_repeat-put_stmt-p-requires t c =
    let told_of : c.many-n.result ≡ many (writes (plain_at c.args.tree.now.program.now c.args.parent.second)) = many-told _ _ c.written-set.ensures c.many-n.ensures in
    (omega arith, (c.requires.0, repeat-body c.requires.1 told_of))

pub put_repeat-put-requires : goal.put_repeat-put-requires
put_repeat-put-requires t c =
    let told_of : c.many-n.result ≡ many (writes (plain_at c.args.tree.now.program.now c.args.parent.second)) = many-told _ _ c.written-set.ensures c.many-n.ensures in
    omega (arith, repeat-room c.requires.1 told_of, (c.put_stmt-p.ensures _ (λ x h. refl)).cell, c.put_stmt-p.auto.cells)

pub put_repeat-overflow_add-p : goal.put_repeat-overflow_add-p
put_repeat-overflow_add-p t c =
    let told_of : c.many-n.result ≡ many (writes (plain_at c.args.tree.now.program.now c.args.parent.second)) = many-told _ _ c.written-set.ensures c.many-n.ensures in
    omega (arith, repeat-room c.requires.1 told_of, c.requires.1.small, (c.put_stmt-p.ensures _ (λ x h. refl)).cell)

pub put_repeat-put_switches-switch-requires : goal.put_repeat-put_switches-switch-requires
put_repeat-put_switches-switch-requires t c =
    let told_of : c.many-n.result ≡ many (writes (plain_at c.args.tree.now.program.now c.args.parent.second)) = many-told _ _ c.written-set.ensures c.many-n.ensures in
    let p = (c.put_stmt-p.ensures _ (λ x h. refl)).cell in
    rw (c.put.auto.cells, c.put_stmt-p.auto.cells) (c.requires.0, repeat-switches c.requires.1 told_of p, inr c.requires.1.basic.0)

pub put_repeat-overflow_add-switch : goal.put_repeat-overflow_add-switch
put_repeat-overflow_add-switch t c =
    let told_of : c.many-n.result ≡ many (writes (plain_at c.args.tree.now.program.now c.args.parent.second)) = many-told _ _ c.written-set.ensures c.many-n.ensures in
    let switch-of : c.put_switches-switch.result + 2 ≤ 7043 = omega (
      arith,
      repeat-room c.requires.1 told_of,
      c.requires.1.small,
      (c.put_stmt-p.ensures _ (λ x h. refl)).cell,
      (c.put_switches-switch.ensures _ (λ x h. refl)).switch,
    ) in
    omega (arith, switch-of)

pub put_repeat-overflow_add-switch-2 : goal.put_repeat-overflow_add-switch-2
put_repeat-overflow_add-switch-2 t c =
    let told_of : c.many-n.result ≡ many (writes (plain_at c.args.tree.now.program.now c.args.parent.second)) = many-told _ _ c.written-set.ensures c.many-n.ensures in
    let switch-of : c.put_switches-switch.result + 2 ≤ 7043 = omega (
      arith,
      repeat-room c.requires.1 told_of,
      c.requires.1.small,
      (c.put_stmt-p.ensures _ (λ x h. refl)).cell,
      (c.put_switches-switch.ensures _ (λ x h. refl)).switch,
    ) in
    omega (arith, switch-of)

pub put_repeat-put_round-end-requires : goal.put_repeat-put_round-end-requires
put_repeat-put_round-end-requires t c =
    let told_of : c.many-n.result ≡ many (writes (plain_at c.args.tree.now.program.now c.args.parent.second)) = many-told _ _ c.written-set.ensures c.many-n.ensures in
    let room = repeat-room c.requires.1 told_of in
    let p = (c.put_stmt-p.ensures _ (λ x h. refl)).cell in
    let e = (c.put_switches-switch.ensures _ (λ x h. refl)).switch in
    rw (c.put_switches-switch.auto.cells, c.put.auto.cells, c.put_stmt-p.auto.cells)
    (record { before = omega (arith, p, e, c.many-n.ensures); room = omega (arith, room, p, e, c.many-n.ensures); small = c.requires.1.small })

pub put_repeat-returns : goal.put_repeat-returns
put_repeat-returns t c =
    λ us same.
    repeat-done _ _ _ _ us c.written-set.result c.many-n.result c.placed-latches.result same c.written-set.ensures c.many-n.ensures c.placed-latches.ensures
    c.put_stmt-p.ensures c.put.ensures c.put_switches-switch.ensures c.put_round-end.ensures

pub put_seq-put_stmt-p-requires : goal.put_seq-put_stmt-p-requires
put_seq-put_stmt-p-requires t c =
    (omega arith, (c.requires.0, seq-first c.requires.1))

pub put_seq-put_stmt-requires : goal.put_seq-put_stmt-requires
put_seq-put_stmt-requires t c =
    rw (c.put_stmt-p.auto.cells, (c.put_stmt-p.ensures _ (λ x h. refl)).cell)
    (omega (arith, c.requires.2), (c.requires.0, seq-second c.requires.1))

pub put_seq-returns : goal.put_seq-returns
put_seq-returns t c =
    λ us same.
    let u = c.put_stmt-p.ensures us same in
    seq-done _ _ _ _ _ us u (c.put_stmt.ensures _ u.words)

pub put_stmt-returns-then-kind-eq16 : goal.put_stmt-returns-then-kind-eq16
put_stmt-returns-then-kind-eq16 t c =
    λ us same. rw (c.stmt_node-node.ensures.nothing c.if-kind-eq16.true) (ok-done same)

pub put_stmt-put_tick-requires : goal.put_stmt-put_tick-requires
put_stmt-put_tick-requires t c =
    let here = c.stmt_node-node.ensures.here c.if-kind-eq16.false in
    let tick-of : stmt_at c.args.tree.now.program.now c.args.i ≡ tick c.stmt_node-node.result.delay = at_tick _ _ here.0 _ here.2 c.if-kind-eq17.true in
    tick-room (rw tick-of at c.requires.1)

pub put_stmt-returns-then-kind-eq17 : goal.put_stmt-returns-then-kind-eq17
put_stmt-returns-then-kind-eq17 t c =
    let here = c.stmt_node-node.ensures.here c.if-kind-eq16.false in
    let tick-of : stmt_at c.args.tree.now.program.now c.args.i ≡ tick c.stmt_node-node.result.delay = at_tick _ _ here.0 _ here.2 c.if-kind-eq17.true in
    λ us same.
    rw tick-of (tick-done _ same c.put_tick.ensures.cells c.put_tick.ensures.place)

pub put_stmt-overflow_add-first : goal.put_stmt-overflow_add-first
put_stmt-overflow_add-first t c =
    let here = c.stmt_node-node.ensures.here c.if-kind-eq16.false in
    omega (arith, here.0, c.requires.0.short)

pub put_stmt-next-second-requires : goal.put_stmt-next-second-requires
put_stmt-next-second-requires t c = omega (arith, c.requires.0.short)

pub put_stmt-put_assign-requires : goal.put_stmt-put_assign-requires
put_stmt-put_assign-requires t c =
    let n = inner-stmt c.requires.0 c.stmt_node-node.ensures c.if-kind-eq16.false c.next-second.ensures in
    (c.requires.0, rw (assign-read n c.in-18.is) at c.requires.1)

pub put_stmt-put_seq-requires : goal.put_stmt-put_seq-requires
put_stmt-put_seq-requires t c =
    let n = inner-stmt c.requires.0 c.stmt_node-node.ensures c.if-kind-eq16.false c.next-second.ensures in
    (omega (arith, n.here), (c.requires.0, rw (seq-read n c.in-19.is) at c.requires.1, second-later n))

pub put_stmt-put_par-requires : goal.put_stmt-put_par-requires
put_stmt-put_par-requires t c =
    let n = inner-stmt c.requires.0 c.stmt_node-node.ensures c.if-kind-eq16.false c.next-second.ensures in
    (omega (arith, n.here), (c.requires.0, rw (par-read n c.in-20.is) at c.requires.1, second-later n))

pub put_stmt-next-third-requires : goal.put_stmt-next-third-requires
put_stmt-next-third-requires t c = omega (arith, c.requires.0.short)

pub put_stmt-put_if-requires : goal.put_stmt-put_if-requires
put_stmt-put_if-requires t c =
    let n = inner-stmt c.requires.0 c.stmt_node-node.ensures c.if-kind-eq16.false c.next-second.ensures in (
      omega (arith, n.here, second-later n),
      (c.requires.0, rw (ite-read n _ c.next-third.ensures c.in-21.is) at c.requires.1, past-later _ _ _ (n.laid.each _) _ c.next-third.ensures),
    )

pub put_stmt-put_while-requires : goal.put_stmt-put_while-requires
put_stmt-put_while-requires t c =
    let n = inner-stmt c.requires.0 c.stmt_node-node.ensures c.if-kind-eq16.false c.next-second.ensures in
    (omega (arith, n.here, second-later n), (c.requires.0, rw (while-read n c.in-22.is) at c.requires.1))

pub put_stmt-put_repeat-requires : goal.put_stmt-put_repeat-requires
put_stmt-put_repeat-requires t c =
    let here = c.stmt_node-node.ensures.here c.if-kind-eq16.false in
    let n = inner-stmt c.requires.0 c.stmt_node-node.ensures c.if-kind-eq16.false c.next-second.ensures in
    let repeat-of : stmt_at c.args.tree.now.program.now c.args.i ≡ repeat c.stmt_node-node.result.delay (expr_at c.args.tree.now.program.now (c.args.i + 1)) (stmt_at c.args.tree.now.program.now c.next-second.result) = let n = n in
    let k = basic-kind n c.requires.1.basic in
    repeat_read n (last-kind (omega (arith, here.1, c.if-kind-eq17.false)) c.in_default.in_default-own.rest) k.0 k.1 k.2 k.3 in
    (omega (arith, n.here, second-later n), (c.requires.0, rw repeat-of at c.requires.1))

pub put_stmt-returns-in-18 : goal.put_stmt-returns-in-18
put_stmt-returns-in-18 t c =
    let n = inner-stmt c.requires.0 c.stmt_node-node.ensures c.if-kind-eq16.false c.next-second.ensures in
    λ us same.
    rw (assign-read n c.in-18.is) (c.put_assign.ensures us same)

pub put_stmt-returns-in-19 : goal.put_stmt-returns-in-19
put_stmt-returns-in-19 t c =
    let n = inner-stmt c.requires.0 c.stmt_node-node.ensures c.if-kind-eq16.false c.next-second.ensures in
    λ us same.
    rw (seq-read n c.in-19.is) (c.put_seq.ensures us same)

pub put_stmt-returns-in-20 : goal.put_stmt-returns-in-20
put_stmt-returns-in-20 t c =
    let n = inner-stmt c.requires.0 c.stmt_node-node.ensures c.if-kind-eq16.false c.next-second.ensures in
    λ us same.
    rw (par-read n c.in-20.is) (c.put_par.ensures us same)

pub put_stmt-returns-in-21 : goal.put_stmt-returns-in-21
put_stmt-returns-in-21 t c =
    let n = inner-stmt c.requires.0 c.stmt_node-node.ensures c.if-kind-eq16.false c.next-second.ensures in
    λ us same.
    rw (ite-read n _ c.next-third.ensures c.in-21.is) (c.put_if.ensures us same)

pub put_stmt-returns-in-22 : goal.put_stmt-returns-in-22
put_stmt-returns-in-22 t c =
    let n = inner-stmt c.requires.0 c.stmt_node-node.ensures c.if-kind-eq16.false c.next-second.ensures in
    λ us same.
    rw (while-read n c.in-22.is) (c.put_while.ensures us same)

pub put_stmt-returns-in_default : goal.put_stmt-returns-in_default
put_stmt-returns-in_default t c =
    let here = c.stmt_node-node.ensures.here c.if-kind-eq16.false in
    let n = inner-stmt c.requires.0 c.stmt_node-node.ensures c.if-kind-eq16.false c.next-second.ensures in
    let repeat-of : stmt_at c.args.tree.now.program.now c.args.i ≡ repeat c.stmt_node-node.result.delay (expr_at c.args.tree.now.program.now (c.args.i + 1)) (stmt_at c.args.tree.now.program.now c.next-second.result) = let n = n in
    let k = basic-kind n c.requires.1.basic in
    repeat_read n (last-kind (omega (arith, here.1, c.if-kind-eq17.false)) c.in_default.in_default-own.rest) k.0 k.1 k.2 k.3 in
    λ us same.
    rw repeat-of (c.put_repeat.ensures us same)

pub put_while-written-set-requires : goal.put_while-written-set-requires
put_while-written-set-requires t c =
    (c.requires.0, c.requires.1.basic.1)

pub put_while-placed-latches-requires : goal.put_while-placed-latches-requires
put_while-placed-latches-requires t c =
    omega (arith, c.requires.1.room, c.requires.1.small)

pub put_while-overflow_add-waits : goal.put_while-overflow_add-waits
put_while-overflow_add-waits t c =
    let told_of : c.many-n.result ≡ many (writes (plain_at c.args.tree.now.program.now c.args.parent.second)) = many-told _ _ c.written-set.ensures c.many-n.ensures in
    let low_of : c.args.at.cell + c.many-n.result + 2 ≤ 7043 = omega (arith, while-room c.requires.1 told_of, c.requires.1.small) in
    omega (arith, low_of)

pub put_while-overflow_add-waits-2 : goal.put_while-overflow_add-waits-2
put_while-overflow_add-waits-2 t c =
    let told_of : c.many-n.result ≡ many (writes (plain_at c.args.tree.now.program.now c.args.parent.second)) = many-told _ _ c.written-set.ensures c.many-n.ensures in
    let low_of : c.args.at.cell + c.many-n.result + 2 ≤ 7043 = omega (arith, while-room c.requires.1 told_of, c.requires.1.small) in
    omega (arith, low_of)

pub put_while-put-requires : goal.put_while-put-requires
put_while-put-requires t c =
    let told_of : c.many-n.result ≡ many (writes (plain_at c.args.tree.now.program.now c.args.parent.second)) = many-told _ _ c.written-set.ensures c.many-n.ensures in
    omega (arith, while-room c.requires.1 told_of)

pub put_while-overflow_add-waits-3 : goal.put_while-overflow_add-waits-3
put_while-overflow_add-waits-3 t c =
    let told_of : c.many-n.result ≡ many (writes (plain_at c.args.tree.now.program.now c.args.parent.second)) = many-told _ _ c.written-set.ensures c.many-n.ensures in
    let low_of : c.args.at.cell + c.many-n.result + 2 ≤ 7043 = omega (arith, while-room c.requires.1 told_of, c.requires.1.small) in
    omega (arith, low_of)

pub put_while-overflow_add-waits-4 : goal.put_while-overflow_add-waits-4
put_while-overflow_add-waits-4 t c =
    let told_of : c.many-n.result ≡ many (writes (plain_at c.args.tree.now.program.now c.args.parent.second)) = many-told _ _ c.written-set.ensures c.many-n.ensures in
    let low_of : c.args.at.cell + c.many-n.result + 2 ≤ 7043 = omega (arith, while-room c.requires.1 told_of, c.requires.1.small) in
    omega (arith, low_of)

pub put_while-put_switches-switch-requires : goal.put_while-put_switches-switch-requires
put_while-put_switches-switch-requires t c =
    let told_of : c.many-n.result ≡ many (writes (plain_at c.args.tree.now.program.now c.args.parent.second)) = many-told _ _ c.written-set.ensures c.many-n.ensures in
    rw c.put.auto.cells (c.requires.0, while-switches c.requires.1 told_of, inr c.requires.1.basic.0)

pub put_while-overflow_add-body : goal.put_while-overflow_add-body
put_while-overflow_add-body t c =
    let told_of : c.many-n.result ≡ many (writes (plain_at c.args.tree.now.program.now c.args.parent.second)) = many-told _ _ c.written-set.ensures c.many-n.ensures in
    let switch-of : c.put_switches-switch.result + 2 ≤ 7043 = omega (arith, while-room c.requires.1 told_of, c.requires.1.small, (c.put_switches-switch.ensures _ (λ x h. refl)).switch) in
    omega (arith, switch-of)

pub put_while-overflow_add-body-2 : goal.put_while-overflow_add-body-2
put_while-overflow_add-body-2 t c =
    let told_of : c.many-n.result ≡ many (writes (plain_at c.args.tree.now.program.now c.args.parent.second)) = many-told _ _ c.written-set.ensures c.many-n.ensures in
    let switch-of : c.put_switches-switch.result + 2 ≤ 7043 = omega (arith, while-room c.requires.1 told_of, c.requires.1.small, (c.put_switches-switch.ensures _ (λ x h. refl)).switch) in
    omega (arith, switch-of)

pub put_while-put_stmt-p-requires : goal.put_while-put_stmt-p-requires
put_while-put_stmt-p-requires t c =
    let told_of : c.many-n.result ≡ many (writes (plain_at c.args.tree.now.program.now c.args.parent.second)) = many-told _ _ c.written-set.ensures c.many-n.ensures in
    rw (c.put_switches-switch.auto.cells, c.put.auto.cells)
    (omega arith, (c.requires.0, while-body c.requires.1 told_of (c.put_switches-switch.ensures _ (λ x h. refl)).switch))

pub put_while-put_round-end-requires : goal.put_while-put_round-end-requires
put_while-put_round-end-requires t c =
    let told_of : c.many-n.result ≡ many (writes (plain_at c.args.tree.now.program.now c.args.parent.second)) = many-told _ _ c.written-set.ensures c.many-n.ensures in
    let room = while-room c.requires.1 told_of in
    let p = (c.put_stmt-p.ensures _ (λ x h. refl)).cell in
    let e = (c.put_switches-switch.ensures _ (λ x h. refl)).switch in
    rw (c.put_stmt-p.auto.cells, c.put_switches-switch.auto.cells, c.put.auto.cells)
    (record { before = omega (arith, p, e, c.many-n.ensures); room = omega (arith, room, p, e, c.many-n.ensures); small = c.requires.1.small })

pub put_while-overflow_add-result : goal.put_while-overflow_add-result
put_while-overflow_add-result t c =
    let told_of : c.many-n.result ≡ many (writes (plain_at c.args.tree.now.program.now c.args.parent.second)) = many-told _ _ c.written-set.ensures c.many-n.ensures in
    let switch-of : c.put_switches-switch.result + 2 ≤ 7043 = omega (arith, while-room c.requires.1 told_of, c.requires.1.small, (c.put_switches-switch.ensures _ (λ x h. refl)).switch) in
    omega (arith, switch-of)

pub put_while-returns : goal.put_while-returns
put_while-returns t c =
    λ us same.
    while-done _ _ _ _ us c.written-set.result c.many-n.result c.placed-latches.result same c.written-set.ensures c.many-n.ensures c.placed-latches.ensures
    c.put.ensures c.put_switches-switch.ensures c.put_stmt-p.ensures c.put_round-end.ensures
