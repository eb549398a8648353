-- Cells one after another, and where they stand in a state. Assumes nothing.
use mathlib.Core.List.{List, ◌∷◌}
use mathlib.Core.Path.{◌≡◌}
use Prim.Native.Nat.{ℕ, ◌+◌, ◌*◌, ◌<◌, ◌≤◌}
use native.Mathlib.Omega.{arith}
use native.Mathlib.Numerals.{add-one}
use lib.ListN.{length, drop}
use lib.Seq.{drop-cons}
use Rattle.model.specs.declared.Cell.{Cell}
use Rattle.model.specs.declared.Format.{Format}
use Rattle.model.specs.declared.Format.TheVariants.{Full, Compact}
use Rattle.model.specs.Circuit.{no_cell, cell_at}
use Rattle.model.specs.State.{cell_size, base}
use Rattle.model.specs.NetlistFile.{cell_limit}
use Rattle.laws.specs.State.Lines.{least, below}
use Rattle.state.specs.Stands.{Stands}

-- a list of cells from cell k on
pub cells-from : (net : List Cell) (k : ℕ) → k < length net → drop k net ≡ cell_at net k ∷ drop (k + 1) net
cells-from net k h = rw (add-one k) (drop-cons net k no_cell h)

-- where a cell can begin
pub place-low : (F : Format) (k : ℕ) → k ≤ cell_limit → cell_size F * k ≤ 40 * cell_limit
place-low Full k h = omega arith
place-low Compact k h = omega arith

-- cell k of n stands in a state that has room for them
pub stands-in : (F : Format) (s : List ℕ) (k n : ℕ) → k < n → n ≤ cell_limit → base F n ≤ length s → Stands F s k
stands-in F s k n h few room =
    record { few = omega arith; front = omega (arith, below F k n h, least F); room = omega (arith, below F k n h) }
