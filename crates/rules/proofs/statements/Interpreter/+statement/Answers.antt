-- The functions that run statements, closed over their cycle of calls.
-- Assumes nothing.
use Prim.Native.Nat.{ℕ, ◌≤◌}
use native.Mathlib.Omega.{arith}
use Rattle.model.specs.Rules.{run}
use Rattle.model.specs.Procedures.{inline}
use Rattle.laws.specs.Program.Trees.{stmt-none, at_tick, at-loop, at_exit, at_call}
use Rattle.program.specs.Ends.{past-later}
use Rattle.program.proofs.Children.{Inner, second-later, assign-read, assign-elem-read, seq-read, par-read, ite-read, while-read, repeat_read}
use Rattle.rules.specs.Ran.{costs_of}
use Rattle.rules.proofs.Runs.{stands-as, run_ok, call-still, call-on, if-still, if-then, if-else, par-ends, par-second-still, par-still, run-exit, seq-ends, seq-unended}
use Rattle.rules.proofs.Procedures.{called-none, called-body, body-ready, node-runs, node-ready}
use Rattle.rules.proofs.Parts.{loop-delay, repeat-delay, while-delay}
use Rattle.rules.proofs.Loops.{loop-unended, loop-out, loop-on, going_start, going-still, going-caught, going_on, repeat-late, repeat-unended, repeat-out, repeat-end, repeat-on, going-unended, going_end, while-out, while-end, while-unended, while-on}
use Rattle.rules.proofs.Nodes.{low_ok}
use Rattle.rules.proofs.statements.Interpreter.+statement.Goals as goal
use Rattle.rules.proofs.statements.Interpreter.+statement.Goals.{run_at-After-next-i2, run_at-In_default, if_at-then-value-eq0, if_at-else-value-eq0}

-- A body: none, or the root of its number, with fewer procedures to call.

pub body_at-returns-then-self-p : goal.body_at-returns-then-self-p
body_at-returns-then-self-p t c =
    stands-as _ _ _ _ _ (called-none _ _ c.requires.enough _ c.if-self-p.true) (run_ok _ _ _)

pub body_at-run_at-requires : goal.body_at-run_at-requires
body_at-run_at-requires t c =
    let pre = c.requires in
    let less = c.if-self-p.false in
    (omega (arith, less, pre.fit.laid.short), body-ready _ _ _ _ pre less _ c.skip-body.ensures)

pub body_at-returns : goal.body_at-returns
body_at-returns t c =
    let pre = c.requires in
    let is = called-body _ _ pre.fit.laid _ pre.enough _ c.if-self-p.false _ c.skip-body.ensures in
    stands-as _ _ _ _ _ is c.run_at.ensures

-- A call: its delay, and then the body.

pub call_at-returns-then-budget-d : goal.call_at-returns-then-budget-d
call_at-returns-then-budget-d t c =
    call-still _ _ _ _ _ _ c.if-budget-d.true

pub call_at-returns : goal.call_at-returns
call_at-returns t c =
    call-on _ _ _ _ _ _ c.if-budget-d.false _ _ (c.later.ensures _) c.body_at.ensures

-- An if: its wait, and then the branch that its test picks.

pub if_at-returns-then-budget-d : goal.if_at-returns-then-budget-d
if_at-returns-then-budget-d t c =
    if-still _ _ _ _ _ _ _ c.if-budget-d.true _

pub if_at-returns : goal.if_at-returns
if_at-returns t c =
    let enough = c.if-budget-d.false in
    let value = c.eval_at-value.ensures in
    let by = c.later.ensures _ in
    elim c.if-value-eq0.branch [
      | if_at-then-value-eq0 w ↦ if-else _ _ _ _ _ _ _ enough _ value _ _ _ by w.if-value-eq0.true (rw w.branch'-is at c.run_at.ensures)
      | if_at-else-value-eq0 w ↦ if-then _ _ _ _ _ _ _ enough _ value _ _ _ by w.if-value-eq0.false (rw w.branch'-is at c.run_at.ensures)
    ]

-- A loop: as a repeat without a test; its last turn is one that comes to an exit.

pub loop_at-loop-time-init : goal.loop_at-loop-time-init
loop_at-loop-time-init t c =
    going_start _ _

pub loop_at-returns-in_default : goal.loop_at-returns-in_default
loop_at-returns-in_default t c =
    let going = c.loop-time.invariant in
    let turn = c.run_at-turn.ensures in
    let last = loop-unended (costs_of c.args.self.now.costs) _ _ _ _ _ _ turn c.in_default.not-Ended in
    going-caught going _ _ last _ (omega (arith, going.within)) turn.within _ (c.later.ensures _) _ (c.caught.ensures _)

pub loop_at-returns-then-rest-d : goal.loop_at-returns-then-rest-d
loop_at-returns-then-rest-d t c =
    going-still c.loop-time.invariant _ (loop-out (costs_of c.args.self.now.costs) _ _ _ _ _ _ c.in-Ended.ensures c.if-rest-d.true)

pub loop_at-loop-time-preserved : goal.loop_at-loop-time-preserved
loop_at-loop-time-preserved t c =
    let turn = c.in-Ended.ensures in
    let on = loop-on (costs_of c.args.self.now.costs) _ _ _ _ _ _ turn c.if-rest-d.false (loop-delay c.requires) in
    going_on c.loop-time.invariant _ _ on _ (omega (arith, turn.within))

-- A parallel: the first side, and from its last words the second.

pub par_at-returns-in_default : goal.par_at-returns-in_default
par_at-returns-in_default t c =
    par-still _ _ _ _ _ _ _ c.run_at.ensures c.in_default.not-Ended _

pub par_at-returns-in_default-run_at : goal.par_at-returns-in_default-run_at
par_at-returns-in_default-run_at t c =
    let fit = c.requires.0.fit in
    par-second-still _ _ _ _ _ fit.formed fit.separate _ _ c.in-Ended.ensures _ _ c.run_at-2.ensures c.in_default-run_at.not-Ended _

pub par_at-returns : goal.par_at-returns
par_at-returns t c =
    let fit = c.requires.0.fit in
    par-ends _ _ _ _ _ fit.formed fit.separate _ _ c.in-Ended.ensures _ _ c.in-Ended-run_at.ensures _ c.max.ensures

-- A repeat: as a while, with the test after the turn, and before it the latching.

pub repeat_at-loop-left-init : goal.repeat_at-loop-left-init
repeat_at-loop-left-init t c =
    going_start _ _

pub repeat_at-returns-in_default : goal.repeat_at-returns-in_default
repeat_at-returns-in_default t c =
    let going = c.loop-left.invariant in
    let turn = c.run_at-turn.ensures in
    let last = repeat-unended (costs_of c.args.self.now.costs) _ _ _ _ _ c.loop-left-test.true _ _ turn c.in_default.not-Ended in
    going-unended going _ _ _ last _ (omega (arith, going.within)) (omega (arith, turn.within)) _ (c.later.ensures _)

pub repeat_at-returns-then-rest-d : goal.repeat_at-returns-then-rest-d
repeat_at-returns-then-rest-d t c =
    going-still c.loop-left.invariant _ (repeat-out (costs_of c.args.self.now.costs) _ _ _ _ _ c.loop-left-test.true _ _ c.in-Ended.ensures c.if-rest-d.true)

pub repeat_at-returns-then-eval_at-ne0 : goal.repeat_at-returns-then-eval_at-ne0
repeat_at-returns-then-eval_at-ne0 t c =
    let going = c.loop-left.invariant in
    let turn = c.in-Ended.ensures in
    let end = repeat-end (costs_of c.args.self.now.costs) _ _ _ _ _ c.loop-left-test.true _ _ turn c.if-rest-d.false _ c.eval_at.ensures c.if-eval_at-ne0.true in
    going_end going _ _ end _ (omega (arith, going.within, turn.within)) (omega (arith, turn.within))

pub repeat_at-loop-left-preserved : goal.repeat_at-loop-left-preserved
repeat_at-loop-left-preserved t c =
    let turn = c.in-Ended.ensures in
    let on = repeat-on (costs_of c.args.self.now.costs) _ _ _ _ _ c.loop-left-test.true _ _ turn c.if-rest-d.false _ c.eval_at.ensures c.if-eval_at-ne0.false (repeat-delay c.requires) in
    going_on c.loop-left.invariant _ _ on _ (omega (arith, turn.within))

pub repeat_at-returns : goal.repeat_at-returns
repeat_at-returns t c =
    going-still c.loop-left.invariant _ (repeat-late (costs_of c.args.self.now.costs) _ _ _ _ _ c.loop-left-test.false)

-- A node: its statement by its kind.

inner_of : (t : ℕ) (w : run_at-After-next-i2 t)
    → let args = w.args in
    Inner args.self.now.tree.program.now args.self.now.tree.ends.now args.i w.read_node-node.result w.next-i2.result
inner_of t w =
    record { laid = w.requires.fit.laid; here = w.if-count-i.false; node = w.read_node-node.ensures; next = w.next-i2.ensures }

last_of : (t : ℕ) (w : run_at-In_default t) → 23 ≤ w.read_node-node.result.kind
last_of t w = omega arith

pub run_at-returns-then-count-i : goal.run_at-returns-then-count-i
unfolding inline
run_at-returns-then-count-i t c =
    node-runs _ _ _ (stmt-none _ _ c.if-count-i.true) _ _ _ _ _ (run_ok _ _ _)

pub run_at-returns-then-kind-le16 : goal.run_at-returns-then-kind-le16
unfolding inline
run_at-returns-then-kind-le16 t c =
    node-runs _ _ _ (low_ok _ _ c.if-count-i.false _ c.read_node-node.ensures c.if-kind-le16.true) _ _ _ _ _ (run_ok _ _ _)

pub run_at-assign_at-requires : goal.run_at-assign_at-requires
unfolding inline
run_at-assign_at-requires t c =
    ((node-ready _ _ _ (assign-read (inner_of t (goal.at.run_at-assign_at-requires t c).After-next-i2) c.in-18.is) c.requires).fit, omega arith)

pub run_at-seq_at-requires : goal.run_at-seq_at-requires
unfolding inline
run_at-seq_at-requires t c =
    let n = inner_of t (goal.at.run_at-seq_at-requires t c).After-next-i2 in
    (omega (arith, n.here), (node-ready _ _ _ (seq-read n c.in-19.is) c.requires, second-later n))

pub run_at-par_at-requires : goal.run_at-par_at-requires
unfolding inline
run_at-par_at-requires t c =
    let n = inner_of t (goal.at.run_at-par_at-requires t c).After-next-i2 in
    (omega (arith, n.here), (node-ready _ _ _ (par-read n c.in-20.is) c.requires, second-later n))

pub run_at-if_at-requires : goal.run_at-if_at-requires
unfolding inline
run_at-if_at-requires t c =
    let n = inner_of t (goal.at.run_at-if_at-requires t c).After-next-i2 in
    let third = c.next-i3.ensures in
    (omega (arith, n.here, second-later n), (node-ready _ _ _ (ite-read n _ third c.in-21.is) c.requires, past-later _ _ _ (n.laid.each _) _ third))

pub run_at-while_at-requires : goal.run_at-while_at-requires
unfolding inline
run_at-while_at-requires t c =
    let n = inner_of t (goal.at.run_at-while_at-requires t c).After-next-i2 in
    (omega (arith, n.here, second-later n), (node-ready _ _ _ (while-read n c.in-22.is) c.requires, omega arith))

pub run_at-assign_elem_at-requires : goal.run_at-assign_elem_at-requires
unfolding inline
run_at-assign_elem_at-requires t c =
    ((node-ready _ _ _ (assign-elem-read (inner_of t (goal.at.run_at-assign_elem_at-requires t c).After-next-i2) c.in-24.is) c.requires).fit, omega arith)

pub run_at-loop_at-requires : goal.run_at-loop_at-requires
unfolding inline
run_at-loop_at-requires t c =
    let n = inner_of t (goal.at.run_at-loop_at-requires t c).After-next-i2 in
    (omega (arith, n.here), node-ready _ _ _ (at-loop _ _ n.here _ n.node c.in-25.is) c.requires)

pub run_at-call_at-requires : goal.run_at-call_at-requires
unfolding inline
run_at-call_at-requires t c =
    let n = inner_of t (goal.at.run_at-call_at-requires t c).After-next-i2 in
    (omega (arith, n.here), node-ready _ _ _ (at_call _ _ n.here _ n.node c.in-27.is) c.requires)

pub run_at-repeat_at-requires : goal.run_at-repeat_at-requires
unfolding inline
run_at-repeat_at-requires t c =
    let n = inner_of t (goal.at.run_at-repeat_at-requires t c).After-next-i2 in
    let is = repeat_read n (last_of t (goal.at.run_at-repeat_at-requires t c).In_default) (omega arith) (omega arith) (omega arith) (omega arith) in
    (omega (arith, n.here, second-later n), node-ready _ _ _ is c.requires)

pub run_at-returns-in-17 : goal.run_at-returns-in-17
unfolding run inline
run_at-returns-in-17 t c =
    let n = inner_of t (goal.at.run_at-returns-in-17 t c).After-next-i2 in
    node-runs _ _ _ (at_tick _ _ n.here _ n.node c.in-17.is) _ _ _ _ _ (c.pause.ensures _)

pub run_at-returns-in-18 : goal.run_at-returns-in-18
unfolding inline
run_at-returns-in-18 t c =
    node-runs _ _ _ (assign-read (inner_of t (goal.at.run_at-returns-in-18 t c).After-next-i2) c.in-18.is) _ _ _ _ _ c.assign_at.ensures

pub run_at-returns-in-19 : goal.run_at-returns-in-19
unfolding inline
run_at-returns-in-19 t c =
    node-runs _ _ _ (seq-read (inner_of t (goal.at.run_at-returns-in-19 t c).After-next-i2) c.in-19.is) _ _ _ _ _ c.seq_at.ensures

pub run_at-returns-in-20 : goal.run_at-returns-in-20
unfolding inline
run_at-returns-in-20 t c =
    node-runs _ _ _ (par-read (inner_of t (goal.at.run_at-returns-in-20 t c).After-next-i2) c.in-20.is) _ _ _ _ _ c.par_at.ensures

pub run_at-returns-in-21 : goal.run_at-returns-in-21
unfolding inline
run_at-returns-in-21 t c =
    node-runs _ _ _ (ite-read (inner_of t (goal.at.run_at-returns-in-21 t c).After-next-i2) _ c.next-i3.ensures c.in-21.is) _ _ _ _ _ c.if_at.ensures

pub run_at-returns-in-22 : goal.run_at-returns-in-22
unfolding inline
run_at-returns-in-22 t c =
    node-runs _ _ _ (while-read (inner_of t (goal.at.run_at-returns-in-22 t c).After-next-i2) c.in-22.is) _ _ _ _ _ c.while_at.ensures

pub run_at-returns-in-24 : goal.run_at-returns-in-24
unfolding inline
run_at-returns-in-24 t c =
    node-runs _ _ _ (assign-elem-read (inner_of t (goal.at.run_at-returns-in-24 t c).After-next-i2) c.in-24.is) _ _ _ _ _ c.assign_elem_at.ensures

pub run_at-returns-in-25 : goal.run_at-returns-in-25
unfolding inline
run_at-returns-in-25 t c =
    let n = inner_of t (goal.at.run_at-returns-in-25 t c).After-next-i2 in
    node-runs _ _ _ (at-loop _ _ n.here _ n.node c.in-25.is) _ _ _ _ _ c.loop_at.ensures

pub run_at-returns-in-26 : goal.run_at-returns-in-26
unfolding inline
run_at-returns-in-26 t c =
    let n = inner_of t (goal.at.run_at-returns-in-26 t c).After-next-i2 in
    node-runs _ _ _ (at_exit _ _ n.here _ n.node c.in-26.is) _ _ _ _ _ (run-exit _ _ _)

pub run_at-returns-in-27 : goal.run_at-returns-in-27
unfolding inline
run_at-returns-in-27 t c =
    let n = inner_of t (goal.at.run_at-returns-in-27 t c).After-next-i2 in
    node-runs _ _ _ (at_call _ _ n.here _ n.node c.in-27.is) _ _ _ _ _ c.call_at.ensures

pub run_at-returns-in_default : goal.run_at-returns-in_default
unfolding inline
run_at-returns-in_default t c =
    let is = repeat_read (inner_of t (goal.at.run_at-returns-in_default t c).After-next-i2) (last_of t (goal.at.run_at-returns-in_default t c).In_default) (omega arith) (omega arith) (omega arith) (omega arith) in
    node-runs _ _ _ is _ _ _ _ _ c.repeat_at.ensures

-- A sequence: the first part, and from its last words the second.

pub seq_at-returns-in_default : goal.seq_at-returns-in_default
seq_at-returns-in_default t c =
    seq-unended _ _ _ _ _ _ _ c.run_at-first.ensures c.in_default.not-Ended

pub seq_at-returns : goal.seq_at-returns
seq_at-returns t c =
    seq-ends _ _ _ _ _ _ _ c.in-Ended.ensures _ _ _ c.run_at.ensures (c.later.ensures _)

-- A while: the run with the whole budget is, after each turn, the run from the words at hand with what is left (`Going`).

pub while_at-loop-left-init : goal.while_at-loop-left-init
while_at-loop-left-init t c =
    going_start _ _

pub while_at-returns-then-eval_at-eq0 : goal.while_at-returns-then-eval_at-eq0
while_at-returns-then-eval_at-eq0 t c =
    let going = c.loop-left.invariant in
    let enough = c.loop-left-test.true in
    let end = while-end (costs_of c.args.self.now.costs) _ _ _ _ _ enough _ c.eval_at.ensures c.if-eval_at-eq0.true in
    going_end going _ _ end _ (omega (arith, going.within)) enough

pub while_at-returns-in_default : goal.while_at-returns-in_default
while_at-returns-in_default t c =
    let going = c.loop-left.invariant in
    let turn = c.run_at-turn.ensures in
    let last = while-unended (costs_of c.args.self.now.costs) _ _ _ _ _ c.loop-left-test.true _ c.eval_at.ensures c.if-eval_at-eq0.false _ _ turn c.in_default.not-Ended in
    going-unended going _ _ _ last _ (omega (arith, going.within)) (omega (arith, turn.within)) _ (c.later.ensures _)

pub while_at-loop-left-preserved : goal.while_at-loop-left-preserved
while_at-loop-left-preserved t c =
    let turn = c.in-Ended.ensures in
    let on = while-on (costs_of c.args.self.now.costs) _ _ _ _ _ c.loop-left-test.true _ c.eval_at.ensures c.if-eval_at-eq0.false _ _ turn (while-delay c.requires.0) in
    going_on c.loop-left.invariant _ _ on _ (omega (arith, turn.within))

pub while_at-returns : goal.while_at-returns
while_at-returns t c =
    going-still c.loop-left.invariant _ (while-out (costs_of c.args.self.now.costs) _ _ _ _ _ c.loop-left-test.false)
