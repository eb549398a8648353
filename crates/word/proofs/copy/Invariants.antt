-- `copy` meets its contract. The invariant: putting the rest in comes out as the other list. Assumes nothing.
use Rattle.std.proofs.Common.{◌≡◌, length, drop}
use lib.Seq.{sets}
use Rattle.word.proofs.copy.Given as goal

abbrev pub invariant-loop-k : goal.invariant-loop-k
invariant-loop-k l = (length l.to ≡ length l.from) × (sets l.to l.k (drop l.k l.from) ≡ l.from)
