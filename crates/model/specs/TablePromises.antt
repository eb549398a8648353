-- What is promised of tables of operator times, as a type: a file of bytes loads exactly if it is the file of times in range, and its times are those.
-- "Clubs buy gate parts of different speeds. A one-block file gives the times".
-- Assumes nothing: definitions.
use Rattle.model.specs.Refusals.{Accepted}
use Rattle.std.specs.Prelude.{◌≡◌, List, ◌∷◌, ◌++◌, ℕ, ◌≤◌, replicate}
use Rattle.model.specs.NetlistFile.{block_with}
use Rattle.model.specs.TimeTables.{given, beside, load}
use Rattle.model.specs.Calls.{listed}
use Rattle.model.specs.Word.{Bytes}

-- the file of the times τ: "block number 0, 9 in bytes 2–3, zero in 4–5, the usual check, then nine bytes for kinds 1 to 9, the rest zero",
-- with "a tenth byte, and 10 in bytes 2–3"
unfoldable pub table_file : (ℕ → ℕ) → List ℕ
table_file τ = block_with 0 10 0 (listed τ 1 10 ++ replicate 494 0)

-- "Constant and variable are 0, the others 1 to 200."
abbrev pub InRange : (ℕ → ℕ) → Type 0
InRange τ = (τ 1 ≡ 0) × (τ 2 ≡ 0) × ((k : ℕ) → 3 ≤ k → k ≤ 10 → (1 ≤ τ k) × (τ k ≤ 200))

pub record Tables : Type 0 where
  pub loads : (τ : ℕ → ℕ) (k w : ℕ) → InRange τ
      → load (beside (given (table_file τ)) k w) ≡ record { checked = Accepted; times = 0 ∷ listed τ 1 10; procedures = k; pulse = w }
  pub only : (file : List ℕ) (k w : ℕ) → Bytes file → (load (beside (given file) k w)).checked ≡ Accepted → (τ : ℕ → ℕ) × InRange τ × (file ≡ table_file τ)
