-- Refusal 24 in a root: the answer from its first node is the answer from node i + k, and the nodes from there on are left.
use mathlib.Core.Path.{◌≡◌}
use Prim.Native.Nat.{◌+◌, ◌-◌}
use Rattle.model.specs.Program.{node_count, nodes_from}
use Rattle.program.specs.Ends.{past}
use Rattle.program.specs.Parts.{part}
use Rattle.word.proofs.Chunks.{Cut}
use Rattle.program.proofs.Late.{late_nodes}
use Rattle.program.proofs.roots.first_late.Given as goal

abbrev pub invariant-loop-k : goal.invariant-loop-k
invariant-loop-k l =
    let s = l.tree.program.now in
    let e = past l.tree.ends.now (node_count s) l.i in
    let at = l.k-iterator in
    Cut 4 (part s l.i e) at.count at.iter
    × (late_nodes l.r (nodes_from s l.i (e - l.i)) l.i ≡ late_nodes l.r (nodes_from s (l.i + at.count) (e - (l.i + at.count))) (l.i + at.count))
