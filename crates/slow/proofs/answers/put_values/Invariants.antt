-- `put_values` meets its contract: those from cell k on are to come. Assumes nothing.
use Prim.Native.Nat.{◌-◌, ◌*◌}
use mathlib.Core.Path.{◌≡◌}
use lib.ListN.{length}
use lib.Seq.{sets}
use Rattle.model.specs.Gates.{value_bytes}
use Rattle.slow.specs.Ring.{word_in}
use Rattle.slow.proofs.answers.put_values.Given as goal

abbrev pub invariant-loop-k : goal.invariant-loop-k
invariant-loop-k l =
    (length l.values ≡ length l.initial.values)
    × (sets l.values (2 * l.k) (value_bytes (λ j. word_in l.work j l.t) l.k (l.n - l.k)) ≡ sets l.initial.values 0 (value_bytes (λ j. word_in l.work j l.t) 0 l.n))
