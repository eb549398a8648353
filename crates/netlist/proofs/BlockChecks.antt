-- Refusals 10 and 11: a block's bytes as they are looked through, its header, its faults.
-- Assumes nothing.
use Rattle.std.proofs.Common.{◌≡◌, ℕ, ◌+◌, ◌-◌, ◌*◌, ◌%◌, Bool, true, false, ◌&&◌, eqb, List, [], ◌∷◌, drop, refl, ne_eqb}
use Rattle.std.specs.List.{list_all}
use Rattle.model.specs.Word.{get16}
use Rattle.model.specs.NetlistFile.{first_number, pulse_of, word_sum, block_at, count_of, finish_of, all_zero, header_right, sum_fault, header_fault}

-- Bytes of a block ---------------------------------------------------------------------------------------------------------------------

pub zeros_all : (s : List ℕ) → all_zero s ≡ list_all (λ b. eqb b 0) s
unfolding all_zero
zeros_all [] = refl
zeros_all (x ∷ s) = rw (zeros_all s) refl

-- the header and the unused bytes of block b, which is B
pub headed-is : (w count finish b : ℕ) (B : List ℕ) {first number c f : ℕ} {z : Bool} → first ≡ first_number w → number ≡ get16 B 0 → c ≡ get16 B 2 → f ≡ get16 B 4
    → z ≡ all_zero (drop (8 + 6 * (count - 84 * b)) B) → (eqb number (first + b) && (eqb c count && (eqb f finish && z))) ≡ header_right w count finish b B
unfolding header_right
headed-is w count finish b B d e₀ e₂ e₄ e = rw (← d, ← e₀, ← e₂, ← e₄, ← e) refl

-- Faults of block b ----------------------------------------------------------------------------------------------------------------------

module _ (s : List ℕ) (b : ℕ) where
  pub sum-wrong : {sum : ℕ} → sum ≡ word_sum (block_at s b) % 65536 → (sum ≡ 0 → ⊥) → sum_fault s b ≡ 10
  unfolding sum_fault
  sum-wrong e n = rw (← e, ne_eqb _ _ n) refl

  pub sum-right : {sum : ℕ} → sum ≡ word_sum (block_at s b) % 65536 → sum ≡ 0 → sum_fault s b ≡ 0
  unfolding sum_fault
  sum-right e n = rw (← e, n) refl

  module _ {w count finish : ℕ} (ew : w ≡ pulse_of s) (en : count ≡ count_of s) (ef : finish ≡ finish_of s) where
    pub header-wrong : header_right w count finish b (block_at s b) ≡ false → header_fault s b ≡ 11
    unfolding header_fault
    header-wrong e = rw (← ew, ← en, ← ef, e) refl

    pub header-right : header_right w count finish b (block_at s b) ≡ true → header_fault s b ≡ 0
    unfolding header_fault
    header-right e = rw (← ew, ← en, ← ef, e) refl
