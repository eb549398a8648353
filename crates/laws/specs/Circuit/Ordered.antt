-- The rules of a cell as facts: what its fields may be by their uses, and so what it may look at, which is lower cells and the past; and where
-- the arrays' cells stand.
-- Assumes nothing: definitions.
use Rattle.std.specs.Prelude.{Bool, true, not, ◌||◌, List, ◌≡◌, ℕ, ◌+◌, ◌<◌, ◌≤◌, eqb, length, get_or}
use Rattle.model.specs.declared.Cell.{Cell}
use Rattle.model.specs.declared.kinds.CellRow.{CellRow}
use Rattle.model.specs.declared.kinds.Use.{Use}
use Rattle.model.specs.declared.kinds.Use.TheVariants.{Unknown, Unused, Value, Positive, ControlBelow, ControlAny, WordBelow, WordAny, ArrayBelow}
use Rattle.model.specs.Circuit.{no_cell, cell_at, control, cell_row, array_at}
use Rattle.model.specs.NetlistFile.{of_array}

-- a word wire that shows one, by kind, and an array
unfoldable pub word : ℕ → Bool
unfolding control
word k = not (control k || of_array k)

abbrev pub array : ℕ → Bool
array k = eqb k 42

-- an input names a wire below lim, of the right sort; K j is the kind of cell j
abbrev pub In : (ℕ → Bool) → (ℕ → ℕ) → ℕ → ℕ → Type 0
In sort K lim j = (j < lim) × (sort (K j) ≡ true)

-- what a field of cell k of n may be by its use
abbrev pub Meets : Use → (ℕ → ℕ) → ℕ → ℕ → ℕ → Type 0
Meets Unknown K n k v = ⊥
Meets Unused K n k v = v ≡ 0
Meets Value K n k v = Unit {0}
Meets Positive K n k v = (1 ≤ v) × (v ≤ 255)
Meets ControlBelow K n k v = In control K k v
Meets ControlAny K n k v = In control K n v
Meets WordBelow K n k v = In word K k v
Meets WordAny K n k v = In word K n v
Meets ArrayBelow K n k v = In array K k v

-- delay, a and b of cell k of n, which is c, by its row
abbrev pub Looks : CellRow → (ℕ → ℕ) → ℕ → ℕ → Cell → Type 0
Looks row K n k c = Meets row.delay K n k c.delay × Meets row.a K n k c.a × Meets row.b K n k c.b

abbrev pub kinds : List Cell → ℕ → ℕ
kinds net k = (get_or net k no_cell).kind

pub record Ordered (net : List Cell) : Type 0 where
  pub looks : (k : ℕ) → k < length net → Looks (cell_row (cell_at net k).kind) (kinds net) (length net) k (cell_at net k)
  -- array v has a 42 in its place, and next to it a 43
  pub arrays : (v : ℕ) → v < 4
      → (array_at net v + 1 < length net) × ((cell_at net (array_at net v)).kind ≡ 42) × ((cell_at net (array_at net v)).delay ≡ v)
      × ((cell_at net (array_at net v + 1)).kind ≡ 43)
  -- and there are no others
  pub stands : (k : ℕ) → k < length net → (cell_at net k).kind ≡ 42 → ((cell_at net k).delay < 4) × (k ≡ array_at net (cell_at net k).delay)
