-- The sum of the words of a list, word by word. Assumes nothing.
use Rattle.std.proofs.Common.{◌≡◌, ℕ, ◌+◌, ◌%◌, ◌<◌, List, [], ◌∷◌, ◌++◌, length, refl, arith}
use Rattle.model.specs.Word.{get16}
use Rattle.model.specs.NetlistFile.{word_sum}

-- a list whose first word is the two bytes of w
pub first-word : {s : List ℕ} (w t : List ℕ) → s ≡ w ++ t → length w ≡ 2 → (word_sum s ≡ get16 w 0 + word_sum t) × (length s ≡ 2 + length t)
unfolding word_sum get16
first-word [] t e l = absurd (omega arith)
first-word (x ∷ []) t e l = absurd (omega arith)
first-word (x ∷ (y ∷ [])) t e l = rw e (refl, omega arith)
first-word (x ∷ (y ∷ (z ∷ w))) t e l = absurd (omega arith)

-- bytes too few for a word, where no byte is left over
pub no-word : (s : List ℕ) → length s < 2 → length s % 2 ≡ 0 → word_sum s ≡ 0
unfolding word_sum
no-word [] h e = refl
no-word (x ∷ []) h e = absurd (omega arith)
no-word (x ∷ (y ∷ s)) h e = absurd (omega arith)
