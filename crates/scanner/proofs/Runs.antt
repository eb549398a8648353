-- The token of a run.
-- Assumes nothing.
use mathlib.Core.Path.{◌≡◌, refl}
use mathlib.Core.Bool.{Bool, true, false, ◌||◌}
use mathlib.Core.List.{List}
use Prim.Native.Nat.{ℕ, ◌≤◌}
use native.Mathlib.Omega.{arith}
use lib.Dec.{eqb}
use Rattle.model.specs.Text.{c_at, numeral, name, sign, word_code, limit_after, run_token}
use Rattle.model.specs.Word.{pick}
use Rattle.std.specs.Prelude.{Option, Some, None, MatchOption}
use Rattle.model.specs.declared.texts.Token.{Token}
use Rattle.scanner.specs.Scanning.{number_of, name_of}
use Rattle.laws.specs.Refusals.Laws.{by_bool}

-- The token of a run -------------------------------------------------------------------------------------------------------------------

pub limit-small : (p : ℕ) → limit_after p ≤ 65535
unfolding limit_after
limit-small p = by_bool (eqb p c_at || eqb p 17) (λ z. rw z (omega arith)) (λ z. rw z (omega arith))

pub limit-large : (p : ℕ) → 255 ≤ limit_after p
unfolding limit_after
limit-large p = by_bool (eqb p c_at || eqb p 17) (λ z. rw z (omega arith)) (λ z. rw z (omega arith))

-- what an Option that stands under a test tells
picked : (b : Bool) (m : ℕ) {n : ℕ} → Some n ≡ pick b (Some m) None → (b ≡ true) × (n ≡ m)
picked true m e = (refl, cc)
picked false m e = cc

unpicked : (b : Bool) (m : ℕ) → None ≡ pick b (Some m) None → b ≡ false
unpicked true m e = cc
unpicked false m e = refl

-- a token without a value, of a code n where none stands for 0
pub sign-told : (r : Option ℕ) {t : Token} {n : ℕ} → MatchOption r (t ≡ sign 0) (λ c. t ≡ sign c) → MatchOption r (n ≡ 0) (λ c. c ≡ n) → t ≡ sign n
sign-told None a b = rw b a
sign-told (Some c) a b = rw (← b) a

module _ (p : ℕ) (w : List ℕ) where
  pub token-number : {n : ℕ} → Some n ≡ number_of (limit_after p) w → numeral n ≡ run_token p w
  unfolding run_token number_of
  token-number e = let f = picked _ _ e in rw (f.0, f.1) refl

  pub token-name : {n : ℕ} → None ≡ number_of (limit_after p) w → Some n ≡ name_of w → name n ≡ run_token p w
  unfolding run_token number_of name_of
  token-name e f = let g = picked _ _ f in rw (unpicked _ _ e, g.0, g.1) refl

  pub token-word : {n : ℕ} → None ≡ number_of (limit_after p) w → None ≡ name_of w → n ≡ word_code w → sign n ≡ run_token p w
  unfolding run_token number_of name_of
  token-word e f g = rw (unpicked _ _ e, unpicked _ _ f, g) refl
