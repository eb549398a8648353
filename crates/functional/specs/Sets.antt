-- Sets of variables as numbers, a bit for each, and arrays of wires. Assumes nothing: definitions.
use Rattle.std.specs.Prelude.{◌≡◌, Bool, List, ℕ, zero, suc, ◌/◌, ◌%◌, ◌<◌, eqb, get_or}
use Rattle.model.specs.declared.Cell.{Cell}
use Rattle.model.specs.Circuit.{cell}
use Rattle.model.specs.Numbering.{Wires}
use Rattle.functional.specs.declared.rows.Row.{Row}

-- variable x is in a set
unfoldable pub has : ℕ → ℕ → Bool
has n zero = eqb (n % 2) 1
has n (suc x) = has (n / 2) x

-- the wires that an array has
abbrev pub wired : List ℕ → Wires
wired l x = get_or l x 0

-- an array has the wires ws
abbrev pub Agrees : List ℕ → Wires → Type 0
Agrees l ws = (x : ℕ) → x < 16 → get_or l x 0 ≡ ws x

-- a set has the variables of b
abbrev pub Tells : ℕ → (ℕ → Bool) → Type 0
Tells set b = (x : ℕ) → x < 16 → has set x ≡ b x

-- a row's cell of variable x
abbrev pub row_cell : Row → ℕ → Cell
row_cell r x = cell r.kind 0 (wired r.a.of x) (wired r.b.of x)
