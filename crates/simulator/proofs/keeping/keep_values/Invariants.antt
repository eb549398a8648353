-- `keep_values` meets its contract: the values of the cells below k are kept so far. Assumes nothing.
use mathlib.Core.Path.{◌≡◌}
use Prim.Native.Nat.{ℕ, ◌+◌, ◌*◌, ◌<◌, ◌≤◌}
use lib.ListN.{length}
use Rattle.model.specs.Word.{get16}
use Rattle.model.specs.State.{before_at}
use Rattle.simulator.proofs.keeping.keep_values.Given as goal

abbrev pub invariant-loop-k : goal.invariant-loop-k
invariant-loop-k l = (l.k ≤ l.n) × (length l.kept ≡ length l.initial.kept) × ((m : ℕ) → m < l.k → get16 l.kept (512 + 2 * m) ≡ before_at l.format l.state m)
