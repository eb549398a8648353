-- What falls along the calls from statement to statement: the number of procedures that may be called, and then the nodes from a child on, of which
-- there are at most 200. A node's own call stands above its kind's. And what each loop keeps: the run with the whole budget is the run from the words at
-- hand with what is left of it (`Going`).
-- Assumes nothing: measures and invariants.
use Prim.Native.Nat.{◌+◌, ◌-◌, ◌*◌}
use Rattle.model.specs.Program.{node_count, loop, repeat, expr_at, while}
use Rattle.model.specs.Rules.{run}
use Rattle.rules.specs.Ran.{costs_of, store_of, meant_at}
use Rattle.rules.proofs.Loops.{Going}
use Rattle.rules.proofs.statements.Interpreter.+statement.Given as goal

abbrev pub decreases-call_at : goal.decreases-call_at
decreases-call_at l = 403 * l.self.now.procedures + 1

abbrev pub decreases-body_at : goal.decreases-body_at
decreases-body_at l = 403 * l.self.now.procedures

abbrev pub decreases-seq_at : goal.decreases-seq_at
decreases-seq_at l = 403 * l.self.now.procedures + (2 * (node_count l.self.now.tree.program.now - l.p) + 2)

abbrev pub decreases-par_at : goal.decreases-par_at
decreases-par_at l = 403 * l.self.now.procedures + (2 * (node_count l.self.now.tree.program.now - l.p) + 2)

abbrev pub decreases-if_at : goal.decreases-if_at
decreases-if_at l = 403 * l.self.now.procedures + (2 * (node_count l.self.now.tree.program.now - l.p) + 2)

abbrev pub decreases-while_at : goal.decreases-while_at
decreases-while_at l = 403 * l.self.now.procedures + (2 * (node_count l.self.now.tree.program.now - l.p) + 2)

abbrev pub decreases-repeat_at : goal.decreases-repeat_at
decreases-repeat_at l = 403 * l.self.now.procedures + (2 * (node_count l.self.now.tree.program.now - l.p) + 2)

abbrev pub decreases-loop_at : goal.decreases-loop_at
decreases-loop_at l = 403 * l.self.now.procedures + (2 * (node_count l.self.now.tree.program.now - l.p) + 2)

abbrev pub decreases-run_at : goal.decreases-run_at
decreases-run_at l = 403 * l.self.now.procedures + (2 * (node_count l.self.now.tree.program.now - l.i) + 1)

abbrev pub invariant-loop_at-loop-time : goal.invariant-loop_at-loop-time
invariant-loop_at-loop-time l =
    let P = loop l.d (meant_at l.self.procedures l.self.tree.program.now l.p) in
    Going l.budget l.left (run (costs_of l.self.costs) l.budget P (store_of l.initial.words)) (run (costs_of l.self.costs) l.left P (store_of l.words))

abbrev pub decreases-loop_at-loop-time : goal.decreases-loop_at-loop-time
decreases-loop_at-loop-time l = l.left

abbrev pub invariant-repeat_at-loop-left : goal.invariant-repeat_at-loop-left
invariant-repeat_at-loop-left l =
    let P = repeat l.d (expr_at l.self.tree.program.now l.e) (meant_at l.self.procedures l.self.tree.program.now l.p) in
    Going l.budget l.left (run (costs_of l.self.costs) l.budget P (store_of l.initial.words)) (run (costs_of l.self.costs) l.left P (store_of l.words))

abbrev pub decreases-repeat_at-loop-left : goal.decreases-repeat_at-loop-left
decreases-repeat_at-loop-left l = l.left

abbrev pub invariant-while_at-loop-left : goal.invariant-while_at-loop-left
invariant-while_at-loop-left l =
    let P = while l.d (expr_at l.self.tree.program.now l.e) (meant_at l.self.procedures l.self.tree.program.now l.p) in
    Going l.budget l.left (run (costs_of l.self.costs) l.budget P (store_of l.initial.words)) (run (costs_of l.self.costs) l.left P (store_of l.words))

abbrev pub decreases-while_at-loop-left : goal.decreases-while_at-loop-left
decreases-while_at-loop-left l = l.left
