-- Words and what they belong to: a variable has one word, an array sixty-four.
-- Assumes nothing.
use Rattle.std.specs.Prelude.{◌≡◌, false, ℕ, ◌+◌, ◌-◌, ◌*◌, ◌/◌, ◌<◌, ◌≤◌, eqb}
use Rattle.std.proofs.Common.{sym, ◌∙◌, ap, arith, lt-ltb, le-ltb, ne_eqb}
use Rattle.std.proofs.lemmas.Bool.{eqb-false}
use Rattle.model.specs.Word.{index, element_word}
use Rattle.model.specs.Program.{array_var}
use Rattle.model.specs.Rules.{owner}
use Rattle.laws.specs.Refusals.Laws.{by_le}

pub owner-variable : (x : ℕ) → x < 16 → owner x ≡ x
unfolding owner
owner-variable x l = rw (lt-ltb x 16 l)

pub owner-later : (x : ℕ) → 16 ≤ x → owner x ≡ array_var ((x - 16) / 64)
unfolding owner
owner-later x l = rw (le-ltb x 16 l)

pub owner-element : (k w : ℕ) → owner (element_word k w) ≡ array_var k
unfolding element_word
owner-element k w = owner-later (16 + (64 * k + index w)) (omega arith) ∙ omega arith

-- a word that doesn't belong to a variable is not that variable's, and one that doesn't belong to an array is none of its elements
pub other-variable : (x y : ℕ) → y < 16 → eqb (owner x) y ≡ false → eqb x y ≡ false
other-variable x y l e = ne_eqb x y (λ q. eqb-false (owner x) y e (ap owner q ∙ owner-variable y l))

pub other-element : (x k w : ℕ) → eqb (owner x) (array_var k) ≡ false → eqb x (element_word k w) ≡ false
other-element x k w e = ne_eqb x (element_word k w) (λ q. eqb-false (owner x) (array_var k) e (ap owner q ∙ owner-element k w))

-- a word that belongs to a variable is that variable's
pub same-variable : (x y : ℕ) → y < 16 → owner x ≡ y → x ≡ y
same-variable x y l e =
    by_le 16 x (λ h. absurd (omega (arith, owner-later x h, e))) (λ h. sym (owner-variable x h) ∙ e)
