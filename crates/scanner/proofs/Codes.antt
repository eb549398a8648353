-- The code of a word by its length and its letters. Assumes nothing.
use Rattle.std.proofs.Common.{◌≡◌, ℕ, ◌<◌, ◌≤◌, List, [], ◌∷◌, ◌&&◌, length, get_or, eqb, refl, arith}
use Rattle.std.proofs.Math.Bool.{and-false, and-true}
use Rattle.model.specs.Word.{pick}
use Rattle.model.specs.Text.{same, word_code}

pub code_of_none : (w : List ℕ) → length w < 2 → word_code w ≡ 0
unfolding word_code same
code_of_none [] h = refl
code_of_none (a ∷ []) h = simp and-false refl
code_of_none (a ∷ (b ∷ w)) h = absurd (omega arith)

pub code_of_two : (w : List ℕ) → length w ≡ 2
    → word_code w
    ≡ pick (eqb (get_or w 0 0) 111 && eqb (get_or w 1 0) 107) 16
    (pick (eqb (get_or w 0 0) 105 && eqb (get_or w 1 0) 102) 21
    (pick (eqb (get_or w 0 0) 100 && eqb (get_or w 1 0) 111) 34 0))
unfolding word_code same
code_of_two (a ∷ (b ∷ [])) h = simp (and-false, and-true) refl
code_of_two w h = absurd (omega arith)

pub code_of_three : (w : List ℕ) → length w ≡ 3
    → word_code w
    ≡ pick (eqb (get_or w 0 0) 101 && (eqb (get_or w 1 0) 110 && eqb (get_or w 2 0) 100)) 36 0
unfolding word_code same
code_of_three (a ∷ (b ∷ (c ∷ []))) h = simp (and-false, and-true) refl
code_of_three w h = absurd (omega arith)

pub code_of_four : (w : List ℕ) → length w ≡ 4
    → word_code w
    ≡ pick (eqb (get_or w 0 0) 116 && (eqb (get_or w 1 0) 105 && (eqb (get_or w 2 0) 99 && eqb (get_or w 3 0) 107))) 17
    (pick (eqb (get_or w 0 0) 116 && (eqb (get_or w 1 0) 104 && (eqb (get_or w 2 0) 101 && eqb (get_or w 3 0) 110))) 32
    (pick (eqb (get_or w 0 0) 101 && (eqb (get_or w 1 0) 108 && (eqb (get_or w 2 0) 115 && eqb (get_or w 3 0) 101))) 33 0))
unfolding word_code same
code_of_four (a ∷ (b ∷ (c ∷ (d ∷ [])))) h = simp (and-false, and-true) refl
code_of_four w h = absurd (omega arith)

pub code_of_five : (w : List ℕ) → length w ≡ 5
    → word_code w
    ≡ pick (eqb (get_or w 0 0) 119 && (eqb (get_or w 1 0) 104 && (eqb (get_or w 2 0) 105 && (eqb (get_or w 3 0) 108 && eqb (get_or w 4 0) 101)))) 22
    (pick (eqb (get_or w 0 0) 117 && (eqb (get_or w 1 0) 110 && (eqb (get_or w 2 0) 116 && (eqb (get_or w 3 0) 105 && eqb (get_or w 4 0) 108)))) 35 0)
unfolding word_code same
code_of_five (a ∷ (b ∷ (c ∷ (d ∷ (e ∷ []))))) h = simp (and-false, and-true) refl
code_of_five w h = absurd (omega arith)

pub code_of_six : (w : List ℕ) → length w ≡ 6
    → word_code w
    ≡ pick (eqb (get_or w 0 0) 114 && (eqb (get_or w 1 0) 101 && (eqb (get_or w 2 0) 112 && (eqb (get_or w 3 0) 101 && (eqb (get_or w 4 0) 97 && eqb (get_or w 5 0) 116))))) 23 0
unfolding word_code same
code_of_six (a ∷ (b ∷ (c ∷ (d ∷ (e ∷ (f ∷ [])))))) h = simp (and-false, and-true) refl
code_of_six w h = absurd (omega arith)

pub code_of_many : (w : List ℕ) → 7 ≤ length w → word_code w ≡ 0
unfolding word_code same
code_of_many (a ∷ (b ∷ (c ∷ (d ∷ (e ∷ (f ∷ (g ∷ w))))))) h = simp and-false refl
code_of_many w h = absurd (omega arith)

pub ruleset by_length = (code_of_none, code_of_two, code_of_three, code_of_four, code_of_five, code_of_six, code_of_many)
