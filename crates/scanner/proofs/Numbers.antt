-- Numbers and names: digits and their value from a place on, and what the tests say.
-- Assumes nothing.
use mathlib.Core.Path.{◌≡◌, refl}
use mathlib.Core.Bool.{Bool, true, false, not, ◌&&◌, ◌||◌, or-true}
use mathlib.Core.List.{List, [], ◌∷◌}
use Prim.Native.Nat.{ℕ, zero, suc, ◌+◌, ◌-◌, ◌*◌, ◌≤◌, ◌<◌}
use native.Mathlib.Omega.{arith}
use native.Mathlib.Numerals.{add-one}
use lib.Dec.{leb, ltb, eqb}
use lib.ListN.{length, get_or, take, drop, length-drop, drop_of_length-le}
use lib.Seq.{drop-cons, take_all}
use Rattle.std.specs.List.{list_all}
use borrow.Author.Tests.{leb-true, le-leb, ltb-true, ltb-false, le-ltb, eqb-false, eq-eqb, ne_eqb}
use Rattle.model.specs.Text.{digit, all_digits, value_from, is_number, is_name}
use Rattle.std.specs.Prelude.{Option, Some, None}
use Rattle.scanner.specs.Scanning.{number_of, name_of}
use Rattle.laws.specs.Refusals.Laws.{by_bool, not-both, and-true, and-of, or-false}

-- Digits -------------------------------------------------------------------------------------------------------------------------------

pub digit-range : (c : ℕ) → digit c ≡ true → (48 ≤ c) × (c ≤ 57)
unfolding digit
digit-range c e =
    let both = and-true (leb 48 c) (leb c 57) e in
    (leb-true 48 c both.0, leb-true c 57 both.1)

pub digits_all : (w : List ℕ) → all_digits w ≡ list_all digit w
unfolding all_digits
digits_all [] = refl
digits_all (c ∷ w) = rw (digits_all w) refl

pub digit_at : (w : List ℕ) (i : ℕ) → all_digits w ≡ true → i < length w → digit (get_or w i 0) ≡ true
unfolding all_digits
digit_at [] i e h = absurd (omega arith)
digit_at (c ∷ w) zero e h = (and-true (digit c) (all_digits w) e).0
digit_at (c ∷ w) (suc i) e h = digit_at w i (and-true (digit c) (all_digits w) e).1 (omega arith)

-- Their value --------------------------------------------------------------------------------------------------------------------------

module _ (w : List ℕ) (v : ℕ) {i : ℕ} where
  pub value-more : i < length w → value_from v (drop i w) ≡ value_from (10 * v + (get_or w i 0 - 48)) (drop (i + 1) w)
  unfolding value_from
  value-more h = rw (add-one i, drop-cons w i 0 h) refl

  pub value-end : length w ≤ i → value_from v (drop i w) ≡ v
  unfolding value_from
  value-end h = rw (drop_of_length-le w h) refl

-- it does not fall
pub value_grows : (v : ℕ) (w : List ℕ) → v ≤ value_from v w
unfolding value_from
value_grows v [] = omega arith
value_grows v (c ∷ w) = omega (arith, value_grows (10 * v + (c - 48)) w)

-- so many nines after v
nines : ℕ → ℕ → ℕ
nines v zero = v
nines v (suc n) = nines (10 * v + 9) n

value-nines : (v u : ℕ) (w : List ℕ) → v ≤ u → all_digits w ≡ true → value_from v w ≤ nines u (length w)
unfolding value_from nines all_digits
value-nines v u [] h e = h
value-nines v u (c ∷ w) h e =
    let both = and-true (digit c) (all_digits w) e in
    value-nines (10 * v + (c - 48)) (10 * u + 9) w (omega (arith, digit-range c both.0)) both.1

five-nines : (n : ℕ) → n ≤ 5 → nines 0 n ≤ 99999
unfolding nines
five-nines zero h = omega arith
five-nines (suc zero) h = omega arith
five-nines (suc (suc zero)) h = omega arith
five-nines (suc (suc (suc zero))) h = omega arith
five-nines (suc (suc (suc (suc zero)))) h = omega arith
five-nines (suc (suc (suc (suc (suc zero))))) h = omega arith
five-nines (suc (suc (suc (suc (suc (suc n)))))) h = absurd (omega arith)

pub value-small : (w : List ℕ) → length w ≤ 5 → all_digits w ≡ true → value_from 0 w ≤ 99999
value-small w h e = omega (arith, value-nines 0 0 w (omega arith) e, five-nines (length w) h)

-- The test of a number --------------------------------------------------------------------------------------------------------------

-- what a number is known by
pub record Number (limit : ℕ) (w : List ℕ) : Type 0 where
  pub some : 1 ≤ length w
  pub short : length w ≤ 5
  pub digits : all_digits w ≡ true
  pub first : (eqb (length w) 1 || not (eqb (get_or w 0 0) 48)) ≡ true
  pub small : value_from 0 w ≤ limit

all_true : {a b c d : Bool} → a ≡ true → b ≡ true → c ≡ true → d ≡ (a && (b && (c && d)))
all_true e f g = rw (e, f, g) refl

module _ (limit : ℕ) (w : List ℕ) where
  pub number-known : is_number limit w ≡ true → Number limit w
  unfolding is_number
  number-known e =
      let both = and-true (leb 1 (length w) && leb (length w) 5) _ e in
      let size = and-true (leb 1 (length w)) (leb (length w) 5) both.0 in
      let rest = and-true (all_digits w) _ both.1 in
      let last = and-true (eqb (length w) 1 || not (eqb (get_or w 0 0) 48)) (leb (value_from 0 w) limit) rest.1 in
      record {
        some = leb-true _ _ size.0;
        short = leb-true _ _ size.1;
        digits = rest.0;
        first = last.0;
        small = leb-true _ _ last.1;
      }

  no_number : (Number limit w → ⊥) → is_number limit w ≡ false
  no_number f = by_bool (is_number limit w) (λ z. absurd (f (number-known z))) (λ z. z)

  pub size-wrong : (eqb (length w) 0 || ltb 5 (length w)) ≡ true → is_number limit w ≡ false
  size-wrong e =
      no_number (λ n. let f : (eqb (length w) 0 || ltb 5 (length w)) ≡ false = rw (ne_eqb (length w) 0 (omega arith), le-ltb 5 (length w) n.short) refl in
      not-both e f)

  pub digits-wrong : all_digits w ≡ false → is_number limit w ≡ false
  digits-wrong e = no_number (λ n. not-both n.digits e)

  pub first-wrong : (ltb 1 (length w) && eqb (get_or w 0 0) 48) ≡ true → is_number limit w ≡ false
  first-wrong e =
      let both = and-true (ltb 1 (length w)) (eqb (get_or w 0 0) 48) e in
      no_number (λ n. let f : (eqb (length w) 1 || not (eqb (get_or w 0 0) 48)) ≡ false =
      rw (ne_eqb (length w) 1 (omega (arith, ltb-true 1 (length w) both.0)), both.1) refl in
      not-both n.first f)

  pub size-right : (eqb (length w) 0 || ltb 5 (length w)) ≡ false → (1 ≤ length w) × (length w ≤ 5)
  size-right e =
      let both = or-false (eqb (length w) 0) (ltb 5 (length w)) e in
      (omega (arith, eqb-false (length w) 0 both.0), ltb-false 5 (length w) both.1)

  first-right : 1 ≤ length w → (ltb 1 (length w) && eqb (get_or w 0 0) 48) ≡ false → (eqb (length w) 1 || not (eqb (get_or w 0 0) 48)) ≡ true
  first-right h e =
      by_bool (ltb 1 (length w))
      (λ z. let f : eqb (get_or w 0 0) 48 ≡ false = rw z at e in rw f (or-true (eqb (length w) 1)))
      (λ z. rw (eq-eqb (length w) 1 (omega (arith, ltb-false 1 (length w) z))) refl)

  pub number-value : (eqb (length w) 0 || ltb 5 (length w)) ≡ false → all_digits w ≡ true
      → (ltb 1 (length w) && eqb (get_or w 0 0) 48) ≡ false → leb (value_from 0 w) limit ≡ is_number limit w
  unfolding is_number
  number-value e f g =
      let size = size-right e in
      all_true (and-of (le-leb 1 (length w) size.0) (le-leb (length w) 5 size.1)) f (first-right size.0 g)

  pub number-none : is_number limit w ≡ false → None ≡ number_of limit w
  unfolding number_of
  number-none e = rw e refl

  pub number-some : {n : ℕ} → is_number limit w ≡ true → n ≡ value_from 0 w → Some n ≡ number_of limit w
  unfolding number_of
  number-some e f = rw (e, f) refl

-- Names --------------------------------------------------------------------------------------------------------------------------------

module _ (w : List ℕ) where
  -- the part of w after its first byte, as it is lent
  pub after_first : take (length w - 1) (drop 1 w) ≡ drop 1 w
  after_first = take_all (length w - 1) (drop 1 w) (simp length-drop (omega arith))

  pub name-none : (get_or w 0 0 ≡ 120 → ⊥) → None ≡ name_of w
  unfolding name_of is_name
  name-none e = rw (ne_eqb (get_or w 0 0) 120 e) refl

  pub name-number : {n : Option ℕ} → get_or w 0 0 ≡ 120 → n ≡ number_of 15 (drop 1 w) → n ≡ name_of w
  unfolding name_of is_name number_of
  name-number e f = rw (eq-eqb (get_or w 0 0) 120 e) f

  pub name-known : is_name w ≡ true → Number 15 (drop 1 w)
  unfolding is_name
  name-known e = number-known 15 (drop 1 w) (and-true (eqb (get_or w 0 0) 120) (is_number 15 (drop 1 w)) e).1
