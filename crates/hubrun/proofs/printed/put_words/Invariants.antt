-- `printed::put_words` meets its contract. The invariant: putting in the line of the words that are left comes out as putting in the whole line.
-- Assumes nothing.
use mathlib.Core.Path.{◌≡◌}
use Prim.Native.Nat.{◌+◌}
use lib.ListN.{length}
use lib.Seq.{sets}
use Rattle.hubrun.proofs.Lines.{line_from}
use Rattle.hubrun.proofs.printed.put_words.Given as goal

abbrev pub invariant-loop-w : goal.invariant-loop-w
invariant-loop-w l =
    (l.at + length (line_from l.fn.words 0) ≡ l.next + length (line_from l.fn.words l.w-index))
    × (sets l.initial.out l.at (line_from l.fn.words 0) ≡ sets l.out l.next (line_from l.fn.words l.w-index))
