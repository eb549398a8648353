-- Numbers and names of a text: the runs that pass are the numerals of the numbers to the limit, and a numeral's value is its number.
-- Assumes nothing.
use Rattle.std.specs.Prelude.{◌≡◌, Bool, true, false, not, ◌||◌, ◌&&◌, List, [], ◌∷◌, ◌++◌, ℕ, zero, suc, ◌+◌, ◌-◌, ◌*◌, ◌/◌, ◌%◌, ◌^◌, ◌≤◌, ◌<◌, eqb, length, get_or}
use Rattle.std.proofs.Math.Path.{refl}
use Rattle.std.proofs.Common.{sym, ◌∙◌, ap, ap₂, append_assoc, append-nil, arith, add-zero, length-append}
use Rattle.std.proofs.Math.Bool.{or-true}
use Rattle.std.proofs.Math.Nat.{pow-succ'}
use Rattle.std.proofs.Math.Dec.{leb}
use Rattle.std.proofs.Math.ListN.{get_or-append}
use borrow.Author.Tests.{lt-ltb, le-ltb, leb-true, le-leb, eqb-true, eqb-false, ne_eqb}
use Rattle.model.specs.Text.{digit, all_digits, value_from, is_number, is_name}
use Rattle.model.specs.Hubrun.{digits, decimal}
use Rattle.model.specs.TextPromises.{Words}
use Rattle.laws.specs.Refusals.Laws.{by_bool, by_le, not-both, and-true, and-of}

-- Digits -------------------------------------------------------------------------------------------------------------------------------

digit-range : (c : ℕ) → digit c ≡ true → (48 ≤ c) × (c ≤ 57)
unfolding digit
digit-range c e =
    let both = and-true (leb 48 c) (leb c 57) e in
    (leb-true 48 c both.0, leb-true c 57 both.1)

digit-of : (n : ℕ) → n < 10 → digit (48 + n) ≡ true
unfolding digit
digit-of n h = and-of (le-leb 48 (48 + n) (omega arith)) (le-leb (48 + n) 57 (omega arith))

all_append : (w : List ℕ) (c : ℕ) → all_digits w ≡ true → digit c ≡ true → all_digits (w ++ (c ∷ [])) ≡ true
unfolding all_digits
all_append [] c h e = and-of e refl
all_append (d ∷ w) c h e =
    let both = and-true (digit d) (all_digits w) h in
    and-of both.0 (all_append w c both.1 e)

value-append : (v : ℕ) (w : List ℕ) (c : ℕ) → value_from v (w ++ (c ∷ [])) ≡ 10 * value_from v w + (c - 48)
unfolding value_from
value-append v [] c = refl
value-append v (d ∷ w) c = value-append (10 * v + (d - 48)) w c

module _ (m n : ℕ) where
  one-digit : n < 10 → digits (suc m) n ≡ (48 + n) ∷ []
  unfolding digits
  one-digit h = rw (digits, lt-ltb n 10 h) refl

  last-digit : 10 ≤ n → digits (suc m) n ≡ digits m (n / 10) ++ ((48 + n % 10) ∷ [])
  unfolding digits
  last-digit h = rw (digits, le-ltb n 10 h) refl

-- What passes is a numeral -------------------------------------------------------------------------------------------------------------

-- a zero stands in front only if it is alone
abbrev no_zero : List ℕ → Bool
no_zero w = eqb (length w) 1 || not (eqb (get_or w 0 0) 48)

-- digits behind a numeral that is not 0 make a numeral, with so much more room
digits-behind : (m v : ℕ) (w : List ℕ) → 1 ≤ v → all_digits w ≡ true → digits m v ++ w ≡ digits (m + length w) (value_from v w)
unfolding value_from all_digits
digits-behind m v [] h e = rw add-zero (append-nil (digits m v))
digits-behind m v (c ∷ w) h e =
    let both = and-true (digit c) (all_digits w) e in
    let range = digit-range c both.0 in
    let n = 10 * v + (c - 48) in
    let x : n / 10 ≡ v = omega arith in
    let y : 48 + n % 10 ≡ c = omega arith in
    let z : suc m + length w ≡ m + suc (length w) = omega arith in
    let next : digits (suc m) n ≡ digits m v ++ (c ∷ []) = last-digit m n (omega arith) ∙ ap₂ (λ (u d : ℕ). digits m u ++ (d ∷ [])) x y in
    sym (append_assoc (digits m v) (c ∷ []) w) ∙ ap (λ (ds : List ℕ). ds ++ w) (sym next) ∙ digits-behind (suc m) n w (omega arith) both.1
    ∙ ap (λ (k : ℕ). digits k (value_from n w)) z

run-decimal : (w : List ℕ) → 1 ≤ length w → length w ≤ 5 → all_digits w ≡ true → no_zero w ≡ true → w ≡ decimal (value_from 0 w)
unfolding value_from all_digits
run-decimal [] h l e f = absurd (omega arith)
run-decimal (c ∷ []) h l e f =
    let range = digit-range c (and-true (digit c) true e).0 in
    let x : 48 + (10 * 0 + (c - 48)) ≡ c = omega arith in
    sym (one-digit 19 (10 * 0 + (c - 48)) (omega arith) ∙ ap (λ (d : ℕ). d ∷ []) x)
run-decimal (c ∷ d ∷ w) h l e f =
    let both = and-true (digit c) (all_digits (d ∷ w)) e in
    let range = digit-range c both.0 in
    let v = 10 * 0 + (c - 48) in
    let m = 19 - length (d ∷ w) in
    let x : 48 + v ≡ c = omega arith in
    let y : suc m + length (d ∷ w) ≡ 20 = omega arith in
    let z : eqb c 48 ≡ false = by_bool (eqb c 48) (λ q. not-both f (rw (ne_eqb (length (c ∷ d ∷ w)) 1 (omega arith), q) refl)) (λ q. q) in
    ap (λ (b : ℕ). b ∷ d ∷ w) (sym x) ∙ ap (λ (ds : List ℕ). ds ++ (d ∷ w)) (sym (one-digit m v (omega arith)))
    ∙ digits-behind (suc m) v (d ∷ w) (omega (arith, eqb-false c 48 z)) both.1
    ∙ ap (λ (k : ℕ). digits k (value_from v (d ∷ w))) y

-- what a run that passes is known by
pub record Number (limit : ℕ) (w : List ℕ) : Type 0 where
  some : 1 ≤ length w
  short : length w ≤ 5
  all : all_digits w ≡ true
  leading : no_zero w ≡ true
  pub small : value_from 0 w ≤ limit

module _ (limit : ℕ) (w : List ℕ) (e : is_number limit w ≡ true) where
  pub number-known : Number limit w
  unfolding is_number
  number-known =
      let both = and-true (leb 1 (length w) && leb (length w) 5) _ e in
      let size = and-true (leb 1 (length w)) (leb (length w) 5) both.0 in
      let rest = and-true (all_digits w) _ both.1 in
      let last = and-true (no_zero w) (leb (value_from 0 w) limit) rest.1 in
      record {
        some = leb-true _ _ size.0;
        short = leb-true _ _ size.1;
        all = rest.0;
        leading = last.0;
        small = leb-true _ _ last.1;
      }

  number-decimal : (n : ℕ) × (n ≤ limit) × (w ≡ decimal n)
  number-decimal =
      let f = number-known in
      (value_from 0 w, f.small, run-decimal w f.some f.short f.all f.leading)

-- A numeral passes ---------------------------------------------------------------------------------------------------------------------

-- w is as the numeral of n, a number of at most k + 1 digits, is
record Numeral (k n : ℕ) (w : List ℕ) : Type 0 where
  value : value_from 0 w ≡ n
  all : all_digits w ≡ true
  some : 1 ≤ length w
  short : length w ≤ suc k
  front : 1 ≤ n → get_or w 0 0 ≡ 48 → ⊥
  leading : no_zero w ≡ true

short-numeral : (m k n : ℕ) → n < 10 → Numeral k n (digits (suc m) n)
unfolding value_from all_digits
short-numeral m k n h =
    rw (one-digit m n h)
    (record {
      value = omega arith;
      all = and-of (digit-of n h) refl;
      some = omega arith;
      short = omega arith;
      front = λ l e. absurd (omega arith);
      leading = refl;
    })

long-numeral : (m k n : ℕ) → 10 ≤ n → Numeral k (n / 10) (digits m (n / 10)) → Numeral (suc k) n (digits (suc m) n)
long-numeral m k n h f =
    let w = digits m (n / 10) in
    let c = 48 + n % 10 in
    let e : get_or (w ++ (c ∷ [])) 0 0 ≡ get_or w 0 0 = get_or-append w (c ∷ []) 0 0 (omega arith) in
    rw (last-digit m n h)
    (record {
      value = value-append 0 w c ∙ omega (arith, f.value);
      all = all_append w c f.all (digit-of (n % 10) (omega arith));
      some = simp length-append (omega arith);
      short = simp length-append (omega (arith, f.short));
      front = λ l z. f.front (omega arith) (sym e ∙ z);
      leading = rw (ne_eqb _ 48 (λ z. f.front (omega arith) (sym e ∙ z))) (or-true (eqb (length (w ++ (c ∷ []))) 1));
    })

numeral : (m k n : ℕ) → k ≤ m → n < 10 ^ suc k → Numeral k n (digits (suc m) n)
numeral m zero n l h = short-numeral m 0 n (omega (arith, pow-succ' 10 0))
numeral zero (suc k) n l h = absurd (omega arith)
numeral (suc m) (suc k) n l h =
    by_le 10 n
    (λ g. long-numeral (suc m) k n g (numeral m k (n / 10) (omega arith) (omega (arith, pow-succ' 10 (suc k)))))
    (λ g. short-numeral (suc m) (suc k) n g)

module _ (n : ℕ) (h : n ≤ 65535) where
  five-digits : Numeral 4 n (decimal n)
  five-digits = numeral 19 4 n (omega arith) (omega arith)

  decimal-passes : (limit : ℕ) → n ≤ limit → is_number limit (decimal n) ≡ true
  unfolding is_number
  decimal-passes limit l =
      let f = five-digits in
      and-of (and-of (le-leb 1 _ f.some) (le-leb _ 5 f.short))
      (and-of f.all (and-of f.leading (le-leb _ limit (omega (arith, f.value)))))

-- As model/TextPromises states it ------------------------------------------------------------------------------------------------------

name-decimal : (w : List ℕ) → is_name w ≡ true → (x : ℕ) × (x < 16) × (w ≡ 120 ∷ decimal x)
unfolding is_name
name-decimal [] e = not-both e refl
name-decimal (c ∷ w) e =
    let both = and-true (eqb c 120) _ e in
    let f = number-decimal _ w both.1 in
    (f.0, omega (arith, f.1), ap₂ ◌∷◌ (eqb-true c 120 both.0) f.2)

decimal-name : (x : ℕ) → x < 16 → is_name (120 ∷ decimal x) ≡ true
unfolding is_name
decimal-name x h = decimal-passes x (omega arith) _ (omega arith)

pub words : Words
words =
    record {
      numeral = λ limit n h l. decimal-passes n (omega arith) limit l;
      number = number-decimal;
      value = λ n h. (five-digits n h).value;
      name = decimal-name;
      named = name-decimal;
    }
