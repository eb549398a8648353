-- Sets of small numbers in words of 64 bits: digits of a word, one more member, the least member, the word without it.
-- Assumes nothing.
use Rattle.std.specs.Prelude.{List, ◌≡◌, refl, ℕ, zero, suc, ◌+◌, ◌-◌, ◌*◌, ◌/◌, ◌%◌, ◌^◌, max, ◌<◌, ◌≤◌, length, get_or, set}
use Rattle.std.proofs.Common.{sym, ◌∙◌, ap, div-one, pow-suc, lt_of_le_of_lt, arith, shr-shr, shl_exact, get_or-set_same, get_or-set_other}
use Rattle.std.proofs.Math.Nat.{zero-div}
use Rattle.std.proofs.Math.Decide.{ℕ_discrete, dec_lt}
use Rattle.std.proofs.Math.Arith.{digits_mod}
use Rattle.std.specs.Int.Bits.{bit_and, bit_or, and_step, or_step, and_self}
use Rattle.std.proofs.lemmas.Nat.{or_shr, shr_le}
use Rattle.std.specs.Int.Count.{count_trailing_zeros, under}

-- digit c of x
unfoldable pub digit : ℕ → ℕ → ℕ
digit x c = x / 2 ^ c % 2

-- number i in a set that is kept in words of 64 bits
unfoldable pub member : List ℕ → ℕ → ℕ
member s i = digit (get_or s (i / 64) 0) (i % 64)

-- Digits -----------------------------------------------------------------------------------------------------------------------------------

pub digit-zero : (x : ℕ) → digit x 0 ≡ x % 2
unfolding digit
digit-zero x = ap (λ (y : ℕ). y % 2) (div-one x)

pub digit-suc : (x c : ℕ) → digit x (suc c) ≡ digit (x / 2) c
unfolding digit
digit-suc x c =
    let e : 1 + c ≡ suc c = omega arith in
    ap (λ (n : ℕ). x / 2 ^ n % 2) (sym e) ∙ ap (λ (y : ℕ). y % 2) (sym (shr-shr x 1 c))

pub digit-none : (c : ℕ) → digit 0 c ≡ 0
unfolding digit
digit-none c = simp zero-div

or-low : (a b : ℕ) → bit_or a b % 2 ≡ max (a % 2) (b % 2)
or-low a b = ap (λ (x : ℕ). x % 2) (or_step a b) ∙ digits_mod (bit_or (a / 2) (b / 2)) (omega arith)

pub or-digit : (x y c : ℕ) → digit (bit_or x y) c ≡ max (digit x c) (digit y c)
unfolding digit
or-digit x y c = ap (λ (z : ℕ). z % 2) (or_shr x y c) ∙ or-low (x / 2 ^ c) (y / 2 ^ c)

pow-half : (b : ℕ) → 2 ^ suc b / 2 ≡ 2 ^ b
pow-half b = rw (pow-suc 2 b) (omega arith)

pub pow-digit : (b : ℕ) → digit (2 ^ b) b ≡ 1
pow-digit zero = digit-zero 1
pow-digit (suc b) = digit-suc (2 ^ suc b) b ∙ ap (λ (x : ℕ). digit x b) (pow-half b) ∙ pow-digit b

pub pow-other : (b c : ℕ) → (c ≡ b → ⊥) → digit (2 ^ b) c ≡ 0
pow-other zero zero n = absurd (n refl)
pow-other zero (suc c) n = digit-suc 1 c ∙ digit-none c
pow-other (suc b) zero n = digit-zero (2 ^ suc b) ∙ rw (pow-suc 2 b) (omega arith)
pow-other (suc b) (suc c) n = digit-suc (2 ^ suc b) c ∙ ap (λ (x : ℕ). digit x c) (pow-half b) ∙ pow-other b c (λ e. n (ap suc e))

pub digit_low : (x c : ℕ) → digit x c ≤ 1
unfolding digit
digit_low x c = omega arith

-- One more member ------------------------------------------------------------------------------------------------------------------------------

unfoldable pub inserted : List ℕ → ℕ → List ℕ
inserted s i = set s (i / 64) (bit_or (get_or s (i / 64) 0) (2 ^ (i % 64)))

pub put-here : (s : List ℕ) (i : ℕ) → i / 64 < length s → member (inserted s i) i ≡ 1
unfolding member inserted
put-here s i l =
    ap (λ (x : ℕ). digit x (i % 64)) (get_or-set_same s (i / 64) (bit_or (get_or s (i / 64) 0) (2 ^ (i % 64))) 0 l)
    ∙ or-digit (get_or s (i / 64) 0) (2 ^ (i % 64)) (i % 64)
    ∙ rw (pow-digit (i % 64)) (omega (arith, digit_low (get_or s (i / 64) 0) (i % 64)))

pub put_other : (s : List ℕ) (i j : ℕ) → i / 64 < length s → (j ≡ i → ⊥) → member (inserted s i) j ≡ member s j
unfolding member inserted
put_other s i j l n = go (ℕ_discrete (j / 64) (i / 64))
  where
    go : Dec (j / 64 ≡ i / 64)
        → digit (get_or (set s (i / 64) (bit_or (get_or s (i / 64) 0) (2 ^ (i % 64)))) (j / 64) 0) (j % 64) ≡ digit (get_or s (j / 64) 0) (j % 64)
    go (yes e) =
        let d : j % 64 ≡ i % 64 → ⊥ = λ q. n (omega arith) in
        rw (e, get_or-set_same s (i / 64) (bit_or (get_or s (i / 64) 0) (2 ^ (i % 64))) 0 l)
        (or-digit (get_or s (i / 64) 0) (2 ^ (i % 64)) (j % 64) ∙ rw (pow-other (i % 64) (j % 64) d) (omega arith))
    go (no d) = ap (λ (x : ℕ). digit x (j % 64)) (get_or-set_other s (i / 64) (j / 64) (bit_or (get_or s (i / 64) 0) (2 ^ (i % 64))) 0 (λ e. d e))

-- The least member, and the word without it ------------------------------------------------------------------------------------------------------

-- x without its least member
abbrev pub rest : ℕ → ℕ
rest x = bit_and x (x - 1)

rest-odd : (x : ℕ) → x % 2 ≡ 1 → rest x ≡ x - 1
rest-odd x o =
    let h : (x - 1) / 2 ≡ x / 2 = omega arith in
    let m : (x - 1) % 2 ≡ 0 = omega arith in
    and_step x (x - 1) ∙ rw (h, m, o, and_self (x / 2)) (omega arith)

rest-even : (x : ℕ) → 0 < x → x % 2 ≡ 0 → rest x ≡ rest (x / 2) * 2
rest-even x p o =
    let h : (x - 1) / 2 ≡ x / 2 - 1 = omega arith in
    and_step x (x - 1) ∙ rw (h, o) (omega arith)

-- what is said of x, where z is the number of zeros below its least member
pub record Least (x z : ℕ) : Type 0 where
  pub here : digit x z ≡ 1
  pub below : (c : ℕ) → c < z → digit x c ≡ 0
  pub gone : digit (rest x) z ≡ 0
  pub others : (c : ℕ) → (c ≡ z → ⊥) → digit (rest x) c ≡ digit x c

least-odd : (x : ℕ) → x % 2 ≡ 1 → Least x 0
least-odd x o =
    record {
      here = digit-zero x ∙ o;
      below = λ c l. absurd (omega arith);
      gone = ap (λ (y : ℕ). digit y 0) (rest-odd x o) ∙ digit-zero (x - 1) ∙ omega arith;
      others = other;
    }
  where
    other : (c : ℕ) → (c ≡ 0 → ⊥) → digit (rest x) c ≡ digit x c
    other zero n = absurd (n refl)
    other (suc c) n =
        let h : (x - 1) / 2 ≡ x / 2 = omega arith in
        ap (λ (y : ℕ). digit y (suc c)) (rest-odd x o) ∙ digit-suc (x - 1) c ∙ ap (λ (y : ℕ). digit y c) h ∙ sym (digit-suc x c)

least-even : (x z : ℕ) → 0 < x → x % 2 ≡ 0 → Least (x / 2) z → Least x (suc z)
least-even x z p o r =
    record {
      here = digit-suc x z ∙ r.here;
      below = low;
      gone = up z ∙ r.gone;
      others = other;
    }
  where
    up : (c : ℕ) → digit (rest x) (suc c) ≡ digit (rest (x / 2)) c
    up c =
        let h : rest (x / 2) * 2 / 2 ≡ rest (x / 2) = omega arith in
        ap (λ (y : ℕ). digit y (suc c)) (rest-even x p o) ∙ digit-suc (rest (x / 2) * 2) c ∙ ap (λ (y : ℕ). digit y c) h

    low : (c : ℕ) → c < suc z → digit x c ≡ 0
    low zero l = digit-zero x ∙ o
    low (suc c) l = digit-suc x c ∙ r.below c (omega arith)

    other : (c : ℕ) → (c ≡ suc z → ⊥) → digit (rest x) c ≡ digit x c
    other zero n = ap (λ (y : ℕ). digit y 0) (rest-even x p o) ∙ digit-zero (rest (x / 2) * 2) ∙ omega arith ∙ sym (digit-zero x ∙ o)
    other (suc c) n = up c ∙ r.others c (λ e. n (ap suc e)) ∙ sym (digit-suc x c)

-- of a word of k digits
pub least : (k x : ℕ) → 0 < x → x < 2 ^ k → Least x (count_trailing_zeros k x)
unfolding count_trailing_zeros
least zero x p l = absurd (omega arith)
least (suc k) x p l =
    let h : x < 2 ^ k * 2 = rw (pow-suc 2 k) at l in
    go (x % 2) refl (λ (e : x % 2 ≡ 0). least k (x / 2) (omega arith) (omega arith))
  where
    go : (r : ℕ) → x % 2 ≡ r → (x % 2 ≡ 0 → Least (x / 2) (count_trailing_zeros k (x / 2))) → Least x (under r (count_trailing_zeros k (x / 2)))
    go zero e ih = least-even x (count_trailing_zeros k (x / 2)) p e (ih e)
    go (suc r) e ih = least-odd x (omega arith)

-- a bit of a word is what `<<` makes
pub one_bit : (b : ℕ) → b < 64 → 1 * 2 ^ b % 18446744073709551616 ≡ 2 ^ b
one_bit b l = shl_exact {a = 1} 1 b 64 (omega arith) (omega arith) ∙ omega arith

-- Instants in a set of 256 -------------------------------------------------------------------------------------------------------------------

pub shifted-digit : (y p c : ℕ) → digit (y / 2 ^ p) c ≡ digit y (p + c)
unfolding digit
shifted-digit y p c = ap (λ (x : ℕ). x % 2) (shr-shr y p c)

-- no instant after t and before w is in the set
unfoldable pub Free : List ℕ → ℕ → ℕ → Type 0
Free s t w = (x : ℕ) → t < x → x < w → member s (x % 256) ≡ 0

-- the word of instant w, from w's own digit on
abbrev pub onward : List ℕ → ℕ → ℕ
onward s w = get_or s (w % 256 / 64) 0 / 2 ^ (w % 256 % 64)

-- where it begins with z zeros, as far as the word goes, so many more instants are free
pub free_more : (s : List ℕ) (t w z : ℕ) → Free s t w → w % 64 + z ≤ 64 → ((c : ℕ) → c < z → digit (onward s w) c ≡ 0) → Free s t (w + z)
unfolding Free member
free_more s t w z f l e x a b = go (dec_lt x w)
  where
    go : Dec (x < w) → digit (get_or s (x % 256 / 64) 0) (x % 256 % 64) ≡ 0
    go (yes h) = f x a h
    go (no h) =
        let c = x - w in
        let d : digit (onward s w) c ≡ 0 = e c (omega (arith, h)) in
        let q : x % 256 / 64 ≡ w % 256 / 64 = omega (arith, h) in
        let r : x % 256 % 64 ≡ w % 256 % 64 + c = omega (arith, h) in
        rw (q, r) (sym (shifted-digit (get_or s (w % 256 / 64) 0) (w % 256 % 64) c) ∙ d)

pub free-here : (s : List ℕ) (t : ℕ) → Free s t (t + 1)
unfolding Free
free-here s t x a b = absurd (omega arith)

digit-high : (k x c : ℕ) → x < 2 ^ k → k ≤ c → digit x c ≡ 0
digit-high zero x c l h = let e : x ≡ 0 = omega arith in rw e (digit-none c)
digit-high (suc k) x zero l h = absurd (omega arith)
digit-high (suc k) x (suc c) l h =
    let q : x < 2 ^ k * 2 = rw (pow-suc 2 k) at l in
    digit-suc x c ∙ digit-high k (x / 2) c (omega arith) (omega arith)

-- a member that is found lies in w's word
within : (s : List ℕ) (w : ℕ) → get_or s (w % 256 / 64) 0 < 2 ^ 64 → (z : ℕ) → digit (onward s w) z ≡ 1 → w % 64 + z < 64
within s w l z e = go (dec_lt (w % 64 + z) 64)
  where
    go : Dec (w % 64 + z < 64) → w % 64 + z < 64
    go (yes h) = h
    go (no h) =
        let q : w % 256 % 64 + z ≡ w % 64 + z = omega arith in
        let d : digit (onward s w) z ≡ 0 =
        shifted-digit (get_or s (w % 256 / 64) 0) (w % 256 % 64) z ∙ digit-high 64 (get_or s (w % 256 / 64) 0) (w % 256 % 64 + z) l (omega (arith, h)) in
        absurd (omega (arith, sym e ∙ d))

pub found : (s : List ℕ) (t w : ℕ) → Free s t w → get_or s (w % 256 / 64) 0 < 2 ^ 64 → 0 < onward s w → Free s t (w + count_trailing_zeros 64 (onward s w))
found s t w f l p =
    let b : onward s w < 2 ^ 64 = lt_of_le_of_lt (shr_le (get_or s (w % 256 / 64) 0) (w % 256 % 64)) l in
    let r = least 64 (onward s w) p b in
    free_more s t w (count_trailing_zeros 64 (onward s w)) f (omega (arith, within s w l (count_trailing_zeros 64 (onward s w)) r.here)) r.below

-- where nothing is left in w's word, the instants of the word are free
pub cleared : (s : List ℕ) (t w : ℕ) → Free s t w → onward s w ≡ 0 → Free s t (w + (64 - w % 64))
cleared s t w f e = free_more s t w (64 - w % 64) f (omega arith) (λ c l. rw e (digit-none c))

pub free-less : (s : List ℕ) (t u w : ℕ) → u ≤ w → Free s t w → Free s t u
unfolding Free
free-less s t u w l f x a b = f x a (omega arith)

-- and where 256 of them are free, all are
pub free-ever : (s : List ℕ) (t w : ℕ) → Free s t (t + 257) → Free s t w
unfolding Free
free-ever s t w f x a b =
    let y = t + 1 + (x - (t + 1)) % 256 in
    let q : y % 256 ≡ x % 256 = omega arith in
    ap (λ (i : ℕ). member s i) (sym q) ∙ f y (omega arith) (omega arith)
