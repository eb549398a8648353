-- Words: a run or a sign at a place, and the first word that is outside the language.
-- Assumes nothing.
use mathlib.Core.Path.{◌≡◌, refl, ◌∙◌, ap}
use mathlib.Core.Bool.{true}
use mathlib.Core.List.{List}
use Prim.Native.Nat.{ℕ, ◌+◌, ◌-◌, ◌≤◌, ◌<◌}
use native.Mathlib.Omega.{arith}
use lib.Dec.{ltb, eqb}
use lib.ListN.{length, get_or, take, drop, length-drop}
use lib.Seq.{get_or-drop}
use Rattle.std.proofs.lemmas.List.Sums.{prefix_len-le-length}
use Rattle.std.specs.Prelude.{Some, None}
use borrow.Author.Tests.{eq-eqb, ne_eqb}
use Rattle.model.specs.declared.texts.Token.{Token}
use Rattle.model.specs.Refusals.{refuse, Accepted}
use Rattle.model.specs.Text.{sign, run_length, two_code, one_code, is_number, is_name, limit_after, run_token, token_at, size_at, words_from, outside}
use Rattle.laws.specs.Refusals.Laws.{by_bool}
use Rattle.scanner.specs.declared.Scanned.{Scanned}
use Rattle.scanner.specs.Scanning.{after_blanks, a_word, word_here, words_ahead, next_word, Next}
use Rattle.scanner.specs.ScanningLaws.{in_run, run-front}
use Rattle.scanner.proofs.Numbers.{number-known, name-known}
use Rattle.scanner.proofs.Runs.{limit-large}

-- A word at a place --------------------------------------------------------------------------------------------------------------------

module _ (text : List ℕ) (i : ℕ) {e : ℕ} (run : e ≡ i + run_length (drop i text)) where
  pub run-within : i ≤ length text → e ≤ length text
  run-within h =
      let l : run_length (drop i text) ≤ length text - i = rw (← length-drop i text, run-front (drop i text)) (prefix_len-le-length in_run (drop i text)) in
      omega arith

  pub run-here : (p : ℕ) {t : Token} → i < e → t ≡ run_token p (take (e - i) (drop i text)) → a_word t i e ≡ word_here p i text
  unfolding word_here token_at size_at
  run-here p h f =
      let s = drop i text in
      let n : e - i ≡ run_length s = omega arith in
      rw (f, n, run, ne_eqb (run_length s) 0 (omega arith)) refl

  module _ (p : ℕ) (none : e ≤ i) where
    no_run : eqb (run_length (drop i text)) 0 ≡ true
    no_run = eq-eqb (run_length (drop i text)) 0 (omega arith)

    pub two_here : {two : ℕ} → 0 < two → two ≡ two_code (get_or (drop i text) 0 0) (get_or (drop i text) 1 0) → a_word (sign two) i (i + 2) ≡ word_here p i text
    unfolding word_here token_at size_at
    two_here {two} h k = rw (no_run, ← k, ne_eqb two 0 (omega arith)) refl

    pub one-here : {one : ℕ} → two_code (get_or (drop i text) 0 0) (get_or (drop i text) 1 0) ≡ 0 → one ≡ one_code (get_or text i 0)
        → a_word (sign one) i (i + 1) ≡ word_here p i text
    unfolding word_here token_at size_at
    one-here h o =
        let first : get_or (drop i text) 0 0 ≡ get_or text i 0 = let z : i + 0 ≡ i = omega arith in rw (get_or-drop i text 0 0, z) refl in
        rw (no_run, eq-eqb _ 0 h, first, o) refl

some-inj : {a b : Scanned} → Some a ≡ Some b → a ≡ b
some-inj e = cc

some-none : {a : Scanned} → Some a ≡ None → ⊥
some-none e = cc

-- How large values are ----------------------------------------------------------------------------------------------------------------

module _ (p : ℕ) where
  run_small : (w : List ℕ) → (run_token p w).value ≤ limit_after p
  unfolding run_token
  run_small w =
      by_bool (is_number (limit_after p) w)
      (λ z. rw z (number-known (limit_after p) w z).small)
      (λ z. by_bool (is_name w)
      (λ y. rw (z, y) (omega (arith, (name-known w y).small, limit-large p)))
      (λ y. rw (z, y) (omega arith)))

  token-small : (s : List ℕ) → (token_at p s).value ≤ limit_after p
  unfolding token_at
  token-small s =
      by_bool (eqb (run_length s) 0)
      (λ z. by_bool (eqb (two_code (get_or s 0 0) (get_or s 1 0)) 0) (λ y. rw (z, y) (omega arith)) (λ y. rw (z, y) (omega arith)))
      (λ z. rw z (run_small (take (run_length s) s)))

  -- of a number that is right after `@` or `tick`, a byte
  pub value-limited : (from : ℕ) (text : List ℕ) {w : Scanned} → Some w ≡ next_word p from text → w.token.value ≤ limit_after p
  unfolding next_word word_here
  value-limited from text {w} e =
      let place = after_blanks from text in
      by_bool (ltb place (length text))
      (λ z. let is : w ≡ word_here p place text = some-inj (rw z at e) in rw is (token-small (drop place text)))
      (λ z. absurd (some-none (rw z at e)))

-- The first word outside the language --------------------------------------------------------------------------------------------------

module _ (text : List ℕ) (at p : ℕ) where
  pub outside-none : Next text at p None → outside (words_from 0 p at (drop at text)) ≡ Accepted
  unfolding outside words_ahead
  outside-none n = ap outside n.words

  module _ {w : Scanned} (n : Next text at p (Some w)) where
    pub outside-here : w.token.code ≡ 0 → outside (words_from 0 p at (drop at text)) ≡ refuse 17 w.place
    unfolding outside words_ahead
    outside-here z = ap outside n.words ∙ rw (eq-eqb w.token.code 0 z) refl

    pub outside-next : (w.token.code ≡ 0 → ⊥)
        → outside (words_from 0 p at (drop at text)) ≡ outside (words_from 0 w.token.code w.end (drop w.end text))
    unfolding outside words_ahead
    outside-next z = ap outside n.words ∙ rw (ne_eqb w.token.code 0 z) refl
