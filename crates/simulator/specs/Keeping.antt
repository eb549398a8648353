-- What an instant overwrites of a state before any line takes its input in, and taking the instant back. Assumes nothing: definitions.
use Rattle.std.specs.Prelude.{List, ◌≡◌, ℕ, ◌+◌, ◌*◌, ◌<◌, ◌≤◌, length, get_or}
use Rattle.model.specs.declared.Format.{Format}
use Rattle.model.specs.NetlistFile.{cell_limit}
use Rattle.model.specs.Word.{get16, put16}
use Rattle.model.specs.State.{base, before_at}

-- a list with room for the elements and for a word of each cell of any netlist
abbrev pub Roomy : List ℕ → Type 0
Roomy kept = 512 + 2 * cell_limit ≤ length kept

-- kept has the elements of a state of n cells, and what its cells showed an instant ago
pub record Kept (F : Format) (n : ℕ) (s kept : List ℕ) : Type 0 where
  pub elements : (j : ℕ) → j < 512 → get_or kept j 0 ≡ get_or s (base F n + j) 0
  pub values : (k : ℕ) → k < n → get16 kept (512 + 2 * k) ≡ before_at F s k

-- cell k shows what it showed an instant ago, and an instant before that what is kept
unfoldable pub taken_back : Format → List ℕ → List ℕ → ℕ → List ℕ
taken_back F kept s k = put16 (put16 s (base F k) (before_at F s k)) (base F k + 2) (get16 kept (512 + 2 * k))
