-- Refusal 8 or 25: the answer from node 0 is the answer from node i; at a parallel node, the sides cross on no number below x.
use Prim.Native.Nat.{◌+◌, ◌-◌}
use Rattle.model.specs.Program.{node_count, stmt_at, program_of}
use Rattle.laws.specs.Refusals.Search.{Searched}
use Rattle.program.specs.Roots.{clash_fault}
use Rattle.program.proofs.Crossing.{none_below}
use Rattle.program.proofs.clashes.first_clash.Given as goal

abbrev pub invariant-loop-x : goal.invariant-loop-x
invariant-loop-x l =
    none_below (program_of 1 l.procedures l.tree.program.now).bodies l.shared (stmt_at l.tree.program.now (l.i + 1)) (stmt_at l.tree.program.now l.second) l.x

abbrev pub invariant-nodes : goal.invariant-nodes
invariant-nodes l =
    Searched (clash_fault (program_of 1 l.procedures l.tree.program.now).bodies l.shared l.tree.program.now) (node_count l.tree.program.now) l.i

abbrev pub decreases-nodes : goal.decreases-nodes
decreases-nodes l = l.count - l.i
