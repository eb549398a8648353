-- The timing wheel: 512 rows of 4 words; the row of instant w is w % 512, and is empty unless its tag says w. What a pulse that enters does to it.
-- Assumes nothing.
use Rattle.std.specs.Prelude.{Bool, true, false, List, ◌≡◌, refl, ℕ, zero, suc, ◌+◌, ◌*◌, ◌/◌, ◌%◌, ◌<◌, ◌≤◌, eqb, length, get_or, set}
use Rattle.std.proofs.Common.{◌∙◌, arith, length-set, get_or-set_same, get_or-set_other}
use Rattle.std.proofs.Math.Path.{ap}
use Rattle.std.proofs.Math.Decide.{ℕ_discrete}
use borrow.Author.Tests.{eq-eqb, ne_eqb}
use Rattle.model.specs.Word.{pick}
use Rattle.laws.specs.Refusals.Laws.{by_bool}
use Rattle.engine_laws.specs.Sets.{digit, digit-none, digit_low, member, inserted, put-here, put_other}

-- how long the lists are; a bound of the wheel's length is for the code's sums
abbrev pub Rows : List ℕ → List ℕ → Type 0
Rows wheel tag = (2048 ≤ length wheel) × (length wheel ≤ 1000000) × (512 ≤ length tag)

-- whether delay r puts out at instant w
unfoldable pub puts_in : List ℕ → List ℕ → ℕ → ℕ → ℕ
puts_in wheel tag w r = pick (eqb (get_or tag (w % 512) 0) w) (member wheel (256 * (w % 512) + r)) 0

pub puts-there : (wheel tag : List ℕ) (w r : ℕ) → get_or tag (w % 512) 0 ≡ w → puts_in wheel tag w r ≡ member wheel (256 * (w % 512) + r)
unfolding puts_in
puts-there wheel tag w r e = rw (eq-eqb (get_or tag (w % 512) 0) w e) refl

pub puts_none : (wheel tag : List ℕ) (w r : ℕ) → (get_or tag (w % 512) 0 ≡ w → ⊥) → puts_in wheel tag w r ≡ 0
unfolding puts_in
puts_none wheel tag w r e = rw (ne_eqb (get_or tag (w % 512) 0) w e) refl

pub puts_low : (wheel tag : List ℕ) (w r : ℕ) → puts_in wheel tag w r ≤ 1
unfolding puts_in member
puts_low wheel tag w r = go (eqb (get_or tag (w % 512) 0) w)
  where
    go : (b : Bool) → pick b (digit (get_or wheel ((256 * (w % 512) + r) / 64) 0) ((256 * (w % 512) + r) % 64)) 0 ≤ 1
    go true = digit_low (get_or wheel ((256 * (w % 512) + r) / 64) 0) ((256 * (w % 512) + r) % 64)
    go false = omega arith

-- n entries from i on are 0
unfoldable pub zeroed : ℕ → List ℕ → ℕ → List ℕ
zeroed zero s i = s
zeroed (suc n) s i = set (zeroed n s i) (i + n) 0

-- the row of instant w is there, empty if it was not
unfoldable pub opened : List ℕ → List ℕ → ℕ → ℕ → List ℕ
opened wheel tag width w = pick (eqb (get_or tag (w % 512) 0) w) wheel (zeroed width wheel (4 * (w % 512)))

pub length-zeroed : (n : ℕ) (s : List ℕ) (i : ℕ) → length (zeroed n s i) ≡ length s
unfolding zeroed
length-zeroed zero s i = refl
length-zeroed (suc n) s i = length-set (zeroed n s i) (i + n) 0 ∙ length-zeroed n s i

pub length-opened : (wheel tag : List ℕ) (width w : ℕ) → length (opened wheel tag width w) ≡ length wheel
unfolding opened
length-opened wheel tag width w = by_bool (eqb (get_or tag (w % 512) 0) w) (λ e. rw e refl) (λ e. rw e (length-zeroed width wheel (4 * (w % 512))))

pub zeroed-more : (n : ℕ) (s : List ℕ) (i : ℕ) → zeroed (n + 1) s i ≡ set (zeroed n s i) (i + n) 0
unfolding zeroed
zeroed-more n s i = let e : n + 1 ≡ suc n = omega arith in rw e refl

-- a row that was there, and one that was not
pub opened-there : (wheel tag : List ℕ) (width w : ℕ) → get_or tag (w % 512) 0 ≡ w → opened wheel tag width w ≡ wheel
unfolding opened
opened-there wheel tag width w e = rw (eq-eqb (get_or tag (w % 512) 0) w e) refl

pub opened-new : (wheel tag : List ℕ) (width w : ℕ) → (get_or tag (w % 512) 0 ≡ w → ⊥) → opened wheel tag width w ≡ zeroed width wheel (4 * (w % 512))
unfolding opened
opened-new wheel tag width w e = rw (ne_eqb (get_or tag (w % 512) 0) w e) refl

zeroed-in : (n : ℕ) (s : List ℕ) (i j : ℕ) → i + n ≤ length s → i ≤ j → j < i + n → get_or (zeroed n s i) j 0 ≡ 0
unfolding zeroed
zeroed-in zero s i j l a b = absurd (omega arith)
zeroed-in (suc n) s i j l a b = go (ℕ_discrete j (i + n)) (λ h. zeroed-in n s i j (omega arith) a (omega (arith, h)))
  where
    go : Dec (j ≡ i + n) → ((j ≡ i + n → ⊥) → get_or (zeroed n s i) j 0 ≡ 0) → get_or (set (zeroed n s i) (i + n) 0) j 0 ≡ 0
    go (yes e) ih = rw e (get_or-set_same (zeroed n s i) (i + n) 0 0 (rw (length-zeroed n s i) (omega arith)))
    go (no h) ih = get_or-set_other (zeroed n s i) (i + n) j 0 0 h ∙ ih h

zeroed-out : (n : ℕ) (s : List ℕ) (i j : ℕ) → (i ≤ j → j < i + n → ⊥) → get_or (zeroed n s i) j 0 ≡ get_or s j 0
unfolding zeroed
zeroed-out zero s i j h = refl
zeroed-out (suc n) s i j h =
    get_or-set_other (zeroed n s i) (i + n) j 0 0 (λ e. h (omega arith) (omega arith)) ∙ zeroed-out n s i j (λ a b. h a (omega arith))

-- Opening a row changes nothing that is put out, but for instants whose row is taken over.
module _ (wheel tag : List ℕ) (width w : ℕ) (rows : 2048 ≤ length wheel) (tags : 512 ≤ length tag) (few : width ≤ 4) where
  same_row : (r : ℕ) → r < 64 * width → puts_in (opened wheel tag width w) (set tag (w % 512) w) w r ≡ puts_in wheel tag w r
  unfolding puts_in opened member
  same_row r l =
      rw (get_or-set_same tag (w % 512) w 0 (omega arith), eq-eqb w w refl)
      (by_bool (eqb (get_or tag (w % 512) 0) w) (λ e. rw e refl)
      (λ e.
      rw (e, zeroed-in width wheel (4 * (w % 512)) ((256 * (w % 512) + r) / 64) (omega arith) (omega arith) (omega arith))
      (digit-none ((256 * (w % 512) + r) % 64))))

  other_row : (x r : ℕ) → (x % 512 ≡ w % 512 → ⊥) → r < 256 → puts_in (opened wheel tag width w) (set tag (w % 512) w) x r ≡ puts_in wheel tag x r
  unfolding puts_in opened member
  other_row x r n l =
      rw (get_or-set_other tag (w % 512) (x % 512) w 0 n)
      (by_bool (eqb (get_or tag (w % 512) 0) w) (λ e. rw e refl)
      (λ e. rw (e, zeroed-out width wheel (4 * (w % 512)) ((256 * (x % 512) + r) / 64) (λ a b. n (omega arith))) refl))

  pub open-same : (x r : ℕ) → (x % 512 ≡ w % 512 → x ≡ w) → r < 64 * width → puts_in (opened wheel tag width w) (set tag (w % 512) w) x r ≡ puts_in wheel tag x r
  open-same x r near l = go (ℕ_discrete (x % 512) (w % 512))
    where
      go : Dec (x % 512 ≡ w % 512) → puts_in (opened wheel tag width w) (set tag (w % 512) w) x r ≡ puts_in wheel tag x r
      go (yes e) = rw (near e) (same_row r l)
      go (no e) = other_row x r e (omega arith)

  -- Delay r is entered to put out at w: it does so then, and else nothing changes.
  abbrev entered : ℕ → List ℕ
  entered r = inserted (opened wheel tag width w) (256 * (w % 512) + r)

  pub enter-here : (r : ℕ) → r < 64 * width → puts_in (entered r) (set tag (w % 512) w) w r ≡ 1
  unfolding puts_in
  enter-here r l =
      rw (get_or-set_same tag (w % 512) w 0 (omega arith), eq-eqb w w refl)
      (put-here (opened wheel tag width w) (256 * (w % 512) + r) (rw (length-opened wheel tag width w) (omega arith)))

  pub enter-other : (r x y : ℕ) → r < 64 * width → y < 64 * width → (x % 512 ≡ w % 512 → x ≡ w) → (x ≡ w → y ≡ r → ⊥)
      → puts_in (entered r) (set tag (w % 512) w) x y ≡ puts_in wheel tag x y
  enter-other r x y l g near n = keeps ∙ open-same x y near g
    where
      apart : 256 * (x % 512) + y ≡ 256 * (w % 512) + r → ⊥
      apart e = let q : x % 512 ≡ w % 512 = omega arith in n (near q) (omega arith)

      keeps : puts_in (entered r) (set tag (w % 512) w) x y ≡ puts_in (opened wheel tag width w) (set tag (w % 512) w) x y
      keeps =
          unfold puts_in in
          ap (λ (z : ℕ). pick (eqb (get_or (set tag (w % 512) w) (x % 512) 0) x) z 0)
          (put_other (opened wheel tag width w) (256 * (w % 512) + r) (256 * (x % 512) + y) (rw (length-opened wheel tag width w) (omega arith)) apart)
