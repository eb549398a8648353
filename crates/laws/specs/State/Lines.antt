-- What a line keeps, in either format: which bytes tell it, and what taking an input in makes of it.
-- A line in which no pulse enters while another is on its way is one of which a number tells all.
-- Assumes nothing.
use Rattle.std.specs.Prelude.{Bool, true, false, not, List, ◌⊎◌, ◌≡◌, eqb, ltb, set, length}
use Rattle.std.proofs.Common.{inl, inr, ◌∙◌, add-zero}
use Rattle.std.proofs.Math.Path.{refl, sym, ap}
use Prim.Native.Nat.{ℕ, zero, suc, ◌+◌, ◌-◌, ◌*◌, ◌/◌, ◌%◌, ◌^◌, ◌<◌, ◌≤◌}
use native.Mathlib.Omega.{arith}
use Rattle.std.proofs.Math.Nat.{zero-div}
use Rattle.std.proofs.Math.Decide.{dec_lt}
use Rattle.std.proofs.Math.ListN.{get_or, length-set}
use Rattle.std.proofs.Math.Seq.{get_or-set_same, get_or-set_other}
use borrow.Author.Tests.{eq-eqb, ne_eqb, eqb-true, eqb-false, lt-ltb, le-ltb}
use Rattle.model.specs.declared.Format.{Format}
use Rattle.model.specs.declared.Format.TheVariants.{Full, Compact}
use Rattle.model.specs.Word.{pick, bit}
use Rattle.model.specs.State.{shifted_in, ones, cell_size, base, left_at, line_bit, taken_in, remaining_byte}
use Rattle.model.specs.CircuitPromises.{kept}
use Rattle.laws.specs.Refusals.Laws.{by_bool, by_le}
use Rattle.laws.specs.State.Bytes.{bit-lt}

-- Where cells stand --------------------------------------------------------------------------------------------------------------------

pub least : (F : Format) → 8 ≤ cell_size F
least Full = omega arith
least Compact = omega arith

pub below : (F : Format) (j k : ℕ) → j < k → base F j + cell_size F ≤ base F k
below Full j k h = omega arith
below Compact j k h = omega arith

pub behind : (F : Format) (j k : ℕ) → j < k → base F j + 8 ≤ base F k
behind F j k h = omega (arith, below F j k h, least F)

pub rising : (F : Format) (j k : ℕ) → j ≤ k → base F j ≤ base F k
rising Full j k h = omega arith
rising Compact j k h = omega arith

-- the start's byte is among those from 6 on
pub remaining-from : (F : Format) (k : ℕ) → base F k + 6 ≤ remaining_byte F k
unfolding remaining_byte
remaining-from Full k = omega arith
remaining-from Compact k = omega arith

pub remaining-within : (F : Format) (k : ℕ) → remaining_byte F k < base F k + cell_size F
unfolding remaining_byte
remaining-within Full k = omega arith
remaining-within Compact k = omega arith

-- a delay's last d inputs are kept
pub kept-all : (F : Format) (d : ℕ) → d ≤ 255 → d ≤ kept F d
kept-all Full d h = omega arith
kept-all Compact d h = omega arith

-- A line moved by a bit ----------------------------------------------------------------------------------------------------------------

pub shifted-frame : (m : ℕ) (s : List ℕ) (i x j : ℕ) → (j < i) ⊎ (i + m ≤ j) → get_or (shifted_in m s i x) j 0 ≡ get_or s j 0
unfolding shifted_in
shifted-frame zero s i x j h = refl
shifted-frame (suc m) s i x j (inl h) =
    shifted-frame m _ (i + 1) _ j (inl (omega arith)) ∙ get_or-set_other s i j _ 0 (λ e. omega arith)
shifted-frame (suc m) s i x j (inr h) =
    shifted-frame m _ (i + 1) _ j (inr (omega arith)) ∙ get_or-set_other s i j _ 0 (λ e. omega arith)

pub length-shifted : (m : ℕ) (s : List ℕ) (i x : ℕ) → length (shifted_in m s i x) ≡ length s
unfolding shifted_in
length-shifted zero s i x = refl
length-shifted (suc m) s i x = length-shifted m _ (i + 1) _ ∙ length-set s i _

shifted-first : (m : ℕ) (s : List ℕ) (i x : ℕ) → 0 < m → i < length s → get_or (shifted_in m s i x) i 0 ≡ (2 * get_or s i 0 + x) % 256
unfolding shifted_in
shifted-first zero s i x h g = absurd (omega arith)
shifted-first (suc m) s i x h g =
    shifted-frame m (set s i ((2 * get_or s i 0 + x) % 256)) (i + 1) ((2 * get_or s i 0 + x) / 256) i (inl (omega arith))
    ∙ get_or-set_same s i ((2 * get_or s i 0 + x) % 256) 0 g

shifted-later : (m : ℕ) (s : List ℕ) (i x j : ℕ) → x < 2 → ((p : ℕ) → i ≤ p → p < i + m → get_or s p 0 < 256) → i + m ≤ length s → i < j → j < i + m
    → get_or (shifted_in m s i x) j 0 ≡ (2 * get_or s j 0 + get_or s (j - 1) 0 / 128) % 256
unfolding shifted_in
shifted-later zero s i x j u w l h g = absurd (omega arith)
shifted-later (suc m) s i x j u w l h g = go (dec_lt (i + 1) j) (shifted-later m t (i + 1) y j)
  where
    y : ℕ
    y = (2 * get_or s i 0 + x) / 256

    t : List ℕ
    t = set s i ((2 * get_or s i 0 + x) % 256)

    other : (p : ℕ) → i < p → get_or t p 0 ≡ get_or s p 0
    other p q = get_or-set_other s i p ((2 * get_or s i 0 + x) % 256) 0 (λ e. omega arith)

    go : Dec (i + 1 < j)
        → (y < 2 → ((p : ℕ) → i + 1 ≤ p → p < i + 1 + m → get_or t p 0 < 256) → i + 1 + m ≤ length t → i + 1 < j → j < i + 1 + m
        → get_or (shifted_in m t (i + 1) y) j 0 ≡ (2 * get_or t j 0 + get_or t (j - 1) 0 / 128) % 256)
        → get_or (shifted_in m t (i + 1) y) j 0 ≡ (2 * get_or s j 0 + get_or s (j - 1) 0 / 128) % 256
    go (yes q) r =
        r (omega (arith, w i (omega arith) (omega arith)))
        (λ p a b. omega (arith, other p (omega arith), w p (omega arith) (omega arith))) (simp length-set (omega arith)) q (omega arith)
        ∙ rw (other j (omega arith), other (j - 1) (omega arith))
    go (no q) r =
        let e : j ≡ i + 1 = omega arith in
        let z : j - 1 ≡ i = omega arith in
        rw (z, e) (shifted-first m t (i + 1) y (omega arith) (simp length-set (omega arith)) ∙ omega (arith, other (i + 1) (omega arith), w i (omega arith) (omega arith)))

-- bit r + 1 of a byte moved by a bit is bit r of it
bit_up : (B C r : ℕ) → B < 256 → C < 2 → r < 7 → (2 * B + C) % 256 / 2 ^ (r + 1) % 2 ≡ B / 2 ^ r % 2
bit_up B C zero h g l = omega arith
bit_up B C (suc zero) h g l = omega arith
bit_up B C (suc (suc zero)) h g l = omega arith
bit_up B C (suc (suc (suc zero))) h g l = omega arith
bit_up B C (suc (suc (suc (suc zero)))) h g l = omega arith
bit_up B C (suc (suc (suc (suc (suc zero))))) h g l = omega arith
bit_up B C (suc (suc (suc (suc (suc (suc zero)))))) h g l = omega arith
bit_up B C (suc (suc (suc (suc (suc (suc (suc r))))))) h g l = absurd (omega arith)

-- bit i of a line from byte b on
unfoldable bit_at : List ℕ → ℕ → ℕ → ℕ
bit_at t b i = get_or t (b + i / 8) 0 / 2 ^ (i % 8) % 2

module _ (t : List ℕ) (b x : ℕ) (u : x < 2) (w : (p : ℕ) → b ≤ p → p < b + 32 → get_or t p 0 < 256) (l : b + 32 ≤ length t) where
  newest : bit_at (shifted_in 32 t b x) b 0 ≡ x
  unfolding bit_at
  newest = omega (arith, ap (λ (p : ℕ). get_or (shifted_in 32 t b x) p 0) (add-zero b), shifted-first 32 t b x (omega arith) (omega arith))

  -- each byte is moved, with a bit coming in
  moved : (j : ℕ) → b ≤ j → j < b + 32 → (C : ℕ) × (C < 2) × (get_or (shifted_in 32 t b x) j 0 ≡ (2 * get_or t j 0 + C) % 256)
  moved j h g = go (dec_lt b j)
    where
      go : Dec (b < j) → (C : ℕ) × (C < 2) × (get_or (shifted_in 32 t b x) j 0 ≡ (2 * get_or t j 0 + C) % 256)
      go (yes q) = (get_or t (j - 1) 0 / 128, omega (arith, w (j - 1) (omega arith) (omega arith)), shifted-later 32 t b x j u w l q g)
      go (no q) = let e : j ≡ b = omega arith in (x, u, rw e (shifted-first 32 t b x (omega arith) (omega arith)))

  older : (i : ℕ) → i < 255 → bit_at (shifted_in 32 t b x) b (i + 1) ≡ bit_at t b i
  unfolding bit_at
  older i h = go (dec_lt (i % 8) 7)
    where
      go : Dec (i % 8 < 7) → get_or (shifted_in 32 t b x) (b + (i + 1) / 8) 0 / 2 ^ ((i + 1) % 8) % 2 ≡ get_or t (b + i / 8) 0 / 2 ^ (i % 8) % 2
      go (yes q) =
          let e : (i + 1) / 8 ≡ i / 8 = omega arith in
          let f : (i + 1) % 8 ≡ i % 8 + 1 = omega arith in
          let m = moved (b + i / 8) (omega arith) (omega arith) in
          rw (e, f, m.2) (bit_up (get_or t (b + i / 8) 0) m.0 (i % 8) (w (b + i / 8) (omega arith) (omega arith)) m.1 q)
      go (no q) =
          let e : b + (i + 1) / 8 ≡ b + i / 8 + 1 = omega arith in
          let d : b + i / 8 + 1 - 1 ≡ b + i / 8 = omega arith in
          let f : (i + 1) % 8 ≡ 0 = omega arith in
          let g : i % 8 ≡ 7 = omega arith in
          let v : get_or t (b + i / 8) 0 < 256 = w (b + i / 8) (omega arith) (omega arith) in
          rw (e, f, g, shifted-later 32 t b x (b + i / 8 + 1) u w l (omega arith) (omega arith), d) (omega arith)

same_bit : (t u : List ℕ) (b i : ℕ) → ((j : ℕ) → b ≤ j → j < b + 32 → get_or t j 0 ≡ get_or u j 0) → i < 256 → bit_at t b i ≡ bit_at u b i
unfolding bit_at
same_bit t u b i h g = rw (h (b + i / 8) (omega arith) (omega arith))

-- What a line keeps --------------------------------------------------------------------------------------------------------------------

-- the bytes of a line are bytes, and a number is at most the delay
unfoldable pub Line : Format → List ℕ → ℕ → ℕ → Type 0
Line Full s k d = (j : ℕ) → base Full k + 8 ≤ j → j < base Full k + 8 + 32 → get_or s j 0 < 256
Line Compact s k d = left_at Compact s k ≤ d

-- byte j, of those from 6 on, is not of the line
abbrev pub Spare : Format → ℕ → ℕ → Type 0
Spare Full k j = j < base Full k + 8
Spare Compact k j = base Compact k + 7 ≤ j

-- a pulse that enters finds no other on its way, but for one that comes out now
unfoldable pub Vacant : Format → List ℕ → ℕ → Bool → Type 0
Vacant Full s k x = Unit {0}
Vacant Compact s k x = x ≡ true → left_at Compact s k ≤ 1

line-bits : (t : List ℕ) (k d i : ℕ) → line_bit Full t k d i ≡ bit_at t (base Full k + 8) i
unfolding line_bit bit_at
line-bits t k d i = refl

-- each input is 0 or 1
pub line_low : (s : List ℕ) (k d i : ℕ) (F : Format) → line_bit F s k d i ≤ 1
unfolding line_bit
line_low s k d i Full = omega arith
line_low s k d i Compact = omega (arith, bit-lt (eqb (left_at Compact s k + i) d))

module _ (s u : List ℕ) (k d : ℕ) where
  -- which bytes tell it
  pub line_same : (F : Format) → ((j : ℕ) → base F k + 6 ≤ j → j < base F k + cell_size F → get_or u j 0 ≡ get_or s j 0)
      → (i : ℕ) → i < kept F d → line_bit F u k d i ≡ line_bit F s k d i
  unfolding line_bit
  line_same Full same i l = rw (same (base Full k + 8 + i / 8) (omega arith) (omega arith))
  line_same Compact same i l = rw (same (base Compact k + 6) (omega arith) (omega arith))

  pub kept_same : (F : Format) → ((j : ℕ) → base F k + 6 ≤ j → j < base F k + cell_size F → get_or u j 0 ≡ get_or s j 0) → Line F s k d → Line F u k d
  unfolding Line
  kept_same Full same h = λ j x y. rw (same j (omega arith) (omega arith)) (h j x y)
  kept_same Compact same h = rw (same (base Compact k + 6) (omega arith) (omega arith)) h

  pub vacant-same : (F : Format) → ((j : ℕ) → base F k + 6 ≤ j → j < base F k + cell_size F → get_or u j 0 ≡ get_or s j 0)
      → (x : Bool) → Vacant F s k x → Vacant F u k x
  unfolding Vacant
  vacant-same Full same x h = h
  vacant-same Compact same x h = λ e. rw (same (base Compact k + 6) (omega arith) (omega arith)) (h e)

-- with nothing in it
module _ (s : List ℕ) (k d : ℕ) where
  pub line-empty : (F : Format) → ((j : ℕ) → base F k + 6 ≤ j → j < base F k + cell_size F → get_or s j 0 ≡ 0)
      → (i : ℕ) → i < kept F d → line_bit F s k d i ≡ 0
  unfolding line_bit bit
  line-empty Full none i l = rw (none (base Full k + 8 + i / 8) (omega arith) (omega arith)) (simp zero-div)
  line-empty Compact none i l = rw (none (base Compact k + 6) (omega arith) (omega arith), ne_eqb (0 + i) d (λ e. omega arith)) refl

  pub kept-empty : (F : Format) → ((j : ℕ) → base F k + 6 ≤ j → j < base F k + cell_size F → get_or s j 0 ≡ 0) → Line F s k d
  unfolding Line
  kept-empty Full none = λ j x y. omega (arith, none j (omega arith) (omega arith))
  kept-empty Compact none = omega (arith, none (base Compact k + 6) (omega arith) (omega arith))

  pub vacant-empty : (F : Format) → ((j : ℕ) → base F k + 6 ≤ j → j < base F k + cell_size F → get_or s j 0 ≡ 0) → (x : Bool) → Vacant F s k x
  unfolding Vacant
  vacant-empty Full none x = tt
  vacant-empty Compact none x = λ e. omega (arith, none (base Compact k + 6) (omega arith) (omega arith))

-- What a number tells, in the paper's words --------------------------------------------------------------------------------------------

-- "instants until its pulse comes out": a delay shows 1 next where 1 is left
pub left_out : (s : List ℕ) (k d : ℕ) → 1 ≤ d → line_bit Compact s k d (d - 1) ≡ bit (eqb (left_at Compact s k) 1)
unfolding line_bit
left_out s k d pos =
    by_bool (eqb (left_at Compact s k) 1)
    (λ e. rw (e, eq-eqb (left_at Compact s k + (d - 1)) d (omega (arith, eqb-true (left_at Compact s k) 1 e))) refl)
    (λ e. rw (e, ne_eqb (left_at Compact s k + (d - 1)) d (λ z. eqb-false (left_at Compact s k) 1 e (omega arith))) refl)

-- "0 for none": else one is in flight
ones-of : (n d m : ℕ) → n ≤ d → m ≤ d → ones (λ i. bit (eqb (n + i) d)) m ≡ bit (ltb d (n + m))
unfolding ones bit
ones-of n d zero h l = rw (le-ltb d (n + 0) (omega arith)) refl
ones-of n d (suc m) h l =
    let rest = ones-of n d m h (omega arith) in
    by_le (n + m) d
    (λ g.
    let low : ltb d (n + m) ≡ false = le-ltb d (n + m) g in
    by_bool (eqb (n + m) d)
    (λ e. rw (rest, low, e, lt-ltb d (n + suc m) (omega (arith, eqb-true (n + m) d e))) refl)
    (λ e. rw (rest, low, e, le-ltb d (n + suc m) (omega (arith, eqb-false (n + m) d e))) refl))
    (λ g. rw (rest, lt-ltb d (n + m) g, ne_eqb (n + m) d (λ z. omega arith), lt-ltb d (n + suc m) (omega arith)) refl)

pub left-counts : (s : List ℕ) (k d : ℕ) → left_at Compact s k ≤ d → ones (line_bit Compact s k d) d ≡ bit (not (eqb (left_at Compact s k) 0))
unfolding line_bit
left-counts s k d h =
    ones-of (left_at Compact s k) d d h (omega arith)
    ∙ by_bool (eqb (left_at Compact s k) 0)
    (λ e. rw (e, le-ltb d (left_at Compact s k + d) (omega (arith, eqb-true (left_at Compact s k) 0 e))) refl)
    (λ e. rw (e, lt-ltb d (left_at Compact s k + d) (omega (arith, eqb-false (left_at Compact s k) 0 e))) refl)

-- Taking an input in -------------------------------------------------------------------------------------------------------------------

module _ (s : List ℕ) (k d : ℕ) (x : Bool) where
  pub taken-frame : (F : Format) (j : ℕ) → (j < base F k + 6) ⊎ (base F k + cell_size F ≤ j) → get_or (taken_in F s k d x) j 0 ≡ get_or s j 0
  unfolding taken_in
  taken-frame Full j (inl h) = shifted-frame 32 s (base Full k + 8) _ j (inl (omega arith))
  taken-frame Full j (inr h) = shifted-frame 32 s (base Full k + 8) _ j (inr (omega arith))
  taken-frame Compact j (inl h) = get_or-set_other s (base Compact k + 6) j _ 0 (λ e. omega arith)
  taken-frame Compact j (inr h) = get_or-set_other s (base Compact k + 6) j _ 0 (λ e. omega arith)

  pub taken-spare : (F : Format) (j : ℕ) → Spare F k j → get_or (taken_in F s k d x) j 0 ≡ get_or s j 0
  unfolding taken_in
  taken-spare Full j h = shifted-frame 32 s (base Full k + 8) _ j (inl h)
  taken-spare Compact j h = get_or-set_other s (base Compact k + 6) j _ 0 (λ e. omega arith)

  pub length_taken : (F : Format) → length (taken_in F s k d x) ≡ length s
  unfolding taken_in
  length_taken Full = length-shifted 32 s (base Full k + 8) _
  length_taken Compact = length-set s (base Compact k + 6) _

  -- the number of a line after it
  left-taken : base Compact k + 8 ≤ length s → left_at Compact (taken_in Compact s k d x) k ≡ pick x d (left_at Compact s k - 1)
  unfolding taken_in
  left-taken r = get_or-set_same s (base Compact k + 6) (pick x d (left_at Compact s k - 1)) 0 (omega arith)

  pub taken-new : (F : Format) → 1 ≤ d → Line F s k d → base F k + cell_size F ≤ length s → line_bit F (taken_in F s k d x) k d 0 ≡ bit x
  unfolding Line
  taken-new Full pos h r = unfold taken_in in line-bits _ k d 0 ∙ newest s (base Full k + 8) (bit x) (bit-lt x) h (omega arith)
  taken-new Compact pos h r = unfold line_bit bit in
      rw (left-taken r)
      (by_bool x (λ e. rw (e, eq-eqb (d + 0) d (omega arith)) refl) (λ e. rw (e, ne_eqb (left_at Compact s k - 1 + 0) d (λ z. omega arith)) refl))

  -- each other input is one instant older
  pub taken-old : (F : Format) → Line F s k d → Vacant F s k x → base F k + cell_size F ≤ length s → (i : ℕ) → i + 1 < kept F d
      → line_bit F (taken_in F s k d x) k d (i + 1) ≡ line_bit F s k d i
  unfolding Line Vacant
  taken-old Full h v r i l = unfold taken_in in
      line-bits _ k d (i + 1) ∙ older s (base Full k + 8) (bit x) (bit-lt x) h (omega arith) i (omega arith) ∙ sym (line-bits s k d i)
  taken-old Compact h v r i l = unfold line_bit bit in
      rw (left-taken r)
      (by_bool x
      (λ e. rw (e, ne_eqb (d + (i + 1)) d (λ z. omega arith), ne_eqb (left_at Compact s k + i) d (λ z. omega (arith, v e))) refl)
      (λ e. rw e (nearer (left_at Compact s k) i l)))
    where
      nearer : (n i : ℕ) → i + 1 < d → bit (eqb (n - 1 + (i + 1)) d) ≡ bit (eqb (n + i) d)
      nearer zero i l = rw (ne_eqb (0 - 1 + (i + 1)) d (λ z. omega arith), ne_eqb (0 + i) d (λ z. omega arith)) refl
      nearer (suc n) i l = let e : suc n - 1 + (i + 1) ≡ suc n + i = omega arith in rw e refl

  pub taken-line : (F : Format) → Line F s k d → base F k + cell_size F ≤ length s → Line F (taken_in F s k d x) k d
  unfolding Line
  taken-line Full h r = unfold taken_in in λ j y z. omega (arith, (moved s (base Full k + 8) (bit x) (bit-lt x) h (omega arith) j y z).2)
  taken-line Compact h r =
      rw (left-taken r) (by_bool x (λ e. rw e (omega arith)) (λ e. rw e (omega arith)))
