-- `gates::put_gates` meets its contract. The invariant: putting in the gates of the nodes that are left comes out as putting in all. Assumes nothing.
use Rattle.joiner.proofs.Gating.{Gated}
use Rattle.joiner.proofs.gates.put_gates.Given as goal

abbrev pub invariant-loop-bytes : goal.invariant-loop-bytes
invariant-loop-bytes l = Gated l.program l.initial.gates l.gates l.next l.bytes-iterator
