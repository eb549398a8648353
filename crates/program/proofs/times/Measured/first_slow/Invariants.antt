-- Refusal 7: the answer from node 0 is the answer from node i, and the nodes from there on are left.
use Rattle.model.specs.Program.{node_count, time_in}
use Rattle.model.specs.ProgramChecks.{delay_fault}
use Rattle.laws.specs.Refusals.Search.{Searched}
use Rattle.word.proofs.Chunks.{Cut}
use Rattle.program.proofs.times.Measured.first_slow.Given as goal

abbrev pub invariant-loop-i : goal.invariant-loop-i
invariant-loop-i l =
    let at = l.i-iterator in
    let s = l.self.tree.program.now in
    Cut 4 s at.count at.iter × Searched (delay_fault (time_in l.self.operators.now) l.pulse s) (node_count s) at.count
