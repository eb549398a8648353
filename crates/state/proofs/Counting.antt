-- The number in flight, counted from a state: the ones of a line, whole bytes first and then the low bits of one more,
-- and the sum over the cells.
-- Assumes nothing.
use mathlib.Core.Bool.{Bool, true, false, ◌&&◌}
use Rattle.std.specs.Int.{from_bool}
use mathlib.Core.List.{List}
use mathlib.Core.Path.{◌≡◌, refl, sym, ◌∙◌, ap}
use Prim.Native.Nat.{ℕ, zero, suc, ◌+◌, ◌-◌, ◌*◌, ◌/◌, ◌%◌, ◌^◌, ◌<◌, ◌≤◌}
use native.Mathlib.Nat.{add-suc, one-mul, mod-lt, mod-eq_of_lt}
use native.Mathlib.Omega.{arith}
use lib.Count.{ones as digits, ones_in, ones_cat, ones-le}
use lib.ListN.{length, get_or, drop, drop_of_length-le}
use lib.Pow.{pow_pos, pow-lt, mod-pow-add}
use lib.Dec.{eqb, leb, ltb}
use borrow.Author.Tests.{eq-eqb, ne_eqb, eqb-true, eqb-false, lt-ltb, le-ltb, le-leb, lt-leb}
use Rattle.model.specs.declared.Cell.{Cell}
use Rattle.model.specs.declared.Format.TheVariants.{Full, Compact}
use Rattle.model.specs.declared.Merge.{Merge}
use Rattle.model.specs.Circuit.{cell_at, merges}
use Rattle.model.specs.Word.{bit}
use Rattle.model.specs.State.{base, left_at, line_bit, ones, held_bits, in_flight, flight_in}
use Rattle.laws.specs.Refusals.Laws.{by_bool, by_le}
use Rattle.laws.specs.State.Flight.{ones-same}
use Rattle.state.proofs.Standing.{cells-from}

-- Lines ----------------------------------------------------------------------------------------------------------------------------------

digits-digit : (d : ℕ) → d < 2 → digits d ≡ d
unfolding digits ones_in
digits-digit zero h = refl
digits-digit (suc zero) h = refl
digits-digit (suc (suc d)) h = absurd (omega arith)

-- the low r bits of a byte
byte-ones : (b r : ℕ) → ones (λ i. b / 2 ^ i % 2) r ≡ digits (b % 2 ^ r)
unfolding ones
byte-ones b zero = let e : b % 2 ^ 0 ≡ 0 = omega arith in sym (ap digits e ∙ digits-digit 0 (omega arith))
byte-ones b (suc r) =
    let d = b / 2 ^ r % 2 in
    let n : suc r ≡ 1 + r = omega arith in
    let low : digits d ≡ d = digits-digit d (omega arith) in
    let split : digits (b % 2 ^ suc r) ≡ digits d + digits (b % 2 ^ r) =
    rw n (ap digits (mod-pow-add b 1 r) ∙ ones_cat r d (b % 2 ^ r) (mod-lt b (pow_pos r))) in
    omega (arith, byte-ones b r, split, low)

ones-more : (l : ℕ → ℕ) (m r : ℕ) → ones l (m + r) ≡ ones l m + ones (λ j. l (m + j)) r
unfolding ones
ones-more l m zero = let e : m + 0 ≡ m = omega arith in ap (ones l) e ∙ omega arith
ones-more l m (suc r) = ap (ones l) (add-suc m r) ∙ omega (arith, ones-more l m r)

module _ (s : List ℕ) (k d : ℕ) where
  byte-bit : (i j : ℕ) → j < 8 → line_bit Full s k d (8 * i + j) ≡ get_or s (base Full k + 8 + i) 0 / 2 ^ j % 2
  unfolding line_bit
  byte-bit i j h =
      let q : (8 * i + j) / 8 ≡ i = omega arith in
      let r : (8 * i + j) % 8 ≡ j = omega arith in
      rw (q, r) refl

  -- after i bytes, the low r bits of the next
  line-part : (i r : ℕ) → r ≤ 8 → ones (line_bit Full s k d) (8 * i + r) ≡ ones (line_bit Full s k d) (8 * i) + digits (get_or s (base Full k + 8 + i) 0 % 2 ^ r)
  line-part i r h =
      let b = get_or s (base Full k + 8 + i) 0 in
      ones-more (line_bit Full s k d) (8 * i) r
      ∙ ap (λ (x : ℕ). ones (line_bit Full s k d) (8 * i) + x)
      (ones-same (λ j. line_bit Full s k d (8 * i + j)) (λ j. b / 2 ^ j % 2) r (λ j l. byte-bit i j (omega arith)) ∙ byte-ones b r)

-- a byte has eight of the inputs
pub byte-few : (b : ℕ) → b < 256 → digits b ≤ 8
byte-few b h = ones-le 8 b h

-- the bits of a byte that are left
mask : {left : ℕ} → left < 8 → (1 * 2 ^ left) % 256 ≡ 2 ^ left
mask {left} low = ap (λ (x : ℕ). x % 256) (one-mul (2 ^ left)) ∙ mod-eq_of_lt (pow-lt low)

-- the ones so far, and those of byte i
module _ (s : List ℕ) (k d i : ℕ) {sum : ℕ} (f : sum ≡ ones (line_bit Full s k d) (8 * i)) where
  pub byte-more : get_or s (base Full k + 8 + i) 0 < 256
      → sum + digits (get_or s (base Full k + 8 + i) 0) ≡ ones (line_bit Full s k d) (8 * (i + 1))
  byte-more b =
      let whole : get_or s (base Full k + 8 + i) 0 % 2 ^ 8 ≡ get_or s (base Full k + 8 + i) 0 = mod-eq_of_lt b in
      let n : 8 * (i + 1) ≡ 8 * i + 8 = omega arith in
      rw (n, line-part s k d i 8 (omega arith), whole, f) refl

  pub rest-more : {left : ℕ} → left < 8 → 8 * i + left ≡ d
      → sum + digits (get_or s (base Full k + 8 + i) 0 % ((1 * 2 ^ left) % 256)) ≡ ones (line_bit Full s k d) d
  rest-more {left} low g =
      let more = line-part s k d i left (omega arith) in
      let end = rw g at more in
      rw (end, mask low, f) refl

-- a truth as a number, as the conversion gives it
pub truth : (b : Bool) → from_bool b ≡ bit b
unfolding bit
truth true = refl
truth false = refl

-- of a compact line: there is one where its number is in range
unfoldable pub one_left : ℕ → ℕ → ℕ
one_left left d = bit (ltb 0 left && leb left d)

left-ones : (left d m : ℕ) → ones (λ i. bit (eqb (left + i) d)) m ≡ bit (leb left d && ltb d (left + m))
unfolding ones bit
left-ones left d zero =
    by_le left d (λ h. rw (le-leb left d h, le-ltb d (left + 0) (omega arith)) refl) (λ h. rw (lt-leb left d h) refl)
left-ones left d (suc m) =
    rw (left-ones left d m)
    (by_le left d
    (λ h.
    rw (le-leb left d h)
    (by_le (left + m) d
    (λ g.
    by_le d (left + m) (λ f. rw (le-ltb d (left + m) g, eq-eqb (left + m) d (omega arith), lt-ltb d (left + suc m) (omega arith)) refl)
    (λ f. rw (le-ltb d (left + m) g, ne_eqb (left + m) d (λ e. omega arith), le-ltb d (left + suc m) (omega arith)) refl))
    (λ g. rw (lt-ltb d (left + m) g, ne_eqb (left + m) d (λ e. omega arith), lt-ltb d (left + suc m) (omega arith)) refl)))
    (λ h. rw (lt-leb left d h, ne_eqb (left + m) d (λ e. omega arith)) refl))

pub compact-ones : (s : List ℕ) (k d : ℕ) → ones (line_bit Compact s k d) d ≡ one_left (left_at Compact s k) d
unfolding line_bit one_left
compact-ones s k d =
    let left = left_at Compact s k in
    left-ones left d d
    ∙ by_le left d
    (λ h. by_le left 0 (λ g. rw (le-leb left d h, le-ltb 0 left g, le-ltb d (left + d) (omega arith)) refl) (λ g. rw (le-leb left d h, lt-ltb 0 left g, lt-ltb d (left + d) (omega arith)) refl))
    (λ h. rw (lt-leb left d h, lt-ltb 0 left (omega arith)) refl)

-- it puts its pulse out where one instant is left
pub compact-out : (s : List ℕ) (k d : ℕ) → 1 ≤ d → bit (eqb (left_at Compact s k) 1) ≡ line_bit Compact s k d (d - 1)
unfolding line_bit
compact-out s k d h =
    let left = left_at Compact s k in
    by_bool (eqb left 1) (λ e. rw (e, eq-eqb (left + (d - 1)) d (omega (arith, eqb-true left 1 e))) refl)
    (λ e. rw (e, ne_eqb (left + (d - 1)) d (λ z. eqb-false left 1 e (omega arith))) refl)

-- Cells ----------------------------------------------------------------------------------------------------------------------------------

module _ (l : ℕ → ℕ) (m : Merge) (r : ℕ) (c : Cell) where
  pub delay-flight : c.kind ≡ 34 → in_flight l m r c ≡ ones l c.delay
  unfolding in_flight
  delay-flight e = rw (eq-eqb _ _ e) refl

  pub merge-flight : (c.kind ≡ 34 → ⊥) → merges c.kind ≡ true → in_flight l m r c ≡ held_bits m
  unfolding in_flight
  merge-flight e f = rw (ne_eqb _ _ e, f) refl

  pub start-flight : c.kind ≡ 32 → in_flight l m r c ≡ r
  unfolding in_flight merges
  start-flight e = rw e refl

  pub none-flight : (c.kind ≡ 34 → ⊥) → merges c.kind ≡ false → (c.kind ≡ 32 → ⊥) → in_flight l m r c ≡ 0
  unfolding in_flight
  none-flight e f z = rw (ne_eqb _ _ e, f, ne_eqb _ _ z) refl

module _ (l : ℕ → ℕ → ℕ) (m : ℕ → Merge) (r : ℕ → ℕ) (net : List Cell) (k : ℕ) where
  pub flight-here : k < length net → (c : Cell) → cell_at net k ≡ c
      → flight_in l m r (drop k net) k ≡ in_flight (l k) (m k) (r k) c + flight_in l m r (drop (k + 1) net) (k + 1)
  unfolding flight_in
  flight-here h c e =
      ap (λ (cs : List Cell). flight_in l m r cs k) (cells-from net k h)
      ∙ ap (λ (d : Cell). in_flight (l k) (m k) (r k) d + flight_in l m r (drop (k + 1) net) (k + 1)) e

  pub flight-none : length net ≤ k → flight_in l m r (drop k net) k ≡ 0
  unfolding flight_in
  flight-none h = ap (λ (cs : List Cell). flight_in l m r cs k) (drop_of_length-le net {i = k} h)
