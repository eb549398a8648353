-- What a statement does: whether its nodes do it is whether those from node k on do.
use mathlib.Core.Path.{◌≡◌}
use mathlib.Core.Bool.{false}
use Prim.Native.Nat.{◌-◌}
use lib.ListN.{get_or}
use Rattle.model.specs.Program.{node_count, nodes_from}
use Rattle.program.specs.Ends.{past}
use Rattle.program.specs.Uses.{any_marked}
use Rattle.program.proofs.clashes.uses.Given as goal

abbrev pub invariant-loop-k : goal.invariant-loop-k
invariant-loop-k l =
    let s = l.tree.program.now in
    let e = past l.tree.ends.now (node_count s) l.i in
    let does = any_marked l.mark (λ p. get_or l.bodies p false) in
    does (nodes_from s l.i (e - l.i)) ≡ does (nodes_from s l.k (e - l.k))
