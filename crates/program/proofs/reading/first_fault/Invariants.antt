-- Refusals 2 to 4: the answer from node 0 is the answer from node i, and the nodes from there on are left.
use Prim.Native.Nat.{ℕ}
use Rattle.model.specs.Program.{node_at, node_count}
use Rattle.model.specs.ProgramChecks.{node_fault}
use Rattle.laws.specs.Refusals.Search.{Searched}
use Rattle.word.proofs.Chunks.{Cut}
use Rattle.program.proofs.reading.first_fault.Given as goal

abbrev pub invariant-loop-i : goal.invariant-loop-i
invariant-loop-i l =
    let at = l.i-iterator in
    Cut 4 l.program at.count at.iter × Searched (λ (j : ℕ). node_fault (node_at l.program j)) (node_count l.program) at.count
