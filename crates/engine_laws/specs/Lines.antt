-- A line comes into the wheel at instant 512, full or compact: its input of i instants ago becomes what its delay puts out at 512 + d - i.
-- Assumes nothing.
use Rattle.std.specs.Prelude.{List, ◌≡◌, refl, eqb, length, get_or, set}
use Rattle.std.proofs.Math.Path.{sym}
use Rattle.std.proofs.Common.{◌∙◌, ap, arith, shr-shr, eq-eqb, ne_eqb}
use Prim.Native.Nat.{ℕ, ◌+◌, ◌-◌, ◌*◌, ◌/◌, ◌%◌, ◌^◌, ◌<◌, ◌≤◌}
use Rattle.std.proofs.Math.Nat.{zero-div}
use Rattle.std.proofs.Math.Decide.{ℕ_discrete, dec_lt}
use Rattle.std.proofs.Math.ListN.{length-set}
use Rattle.model.specs.declared.Format.TheVariants.{Full, Compact}
use Rattle.model.specs.Word.{bit}
use Rattle.model.specs.State.{base, left_at, line_bit}
use Rattle.engine_laws.specs.Sets.{inserted}
use Rattle.engine_laws.specs.Wheel.{puts_in, opened, length-opened, enter-here, enter-other}

-- the input of i instants ago, of the line whose bytes begin at `at`
abbrev pub input_at : List ℕ → ℕ → ℕ → ℕ
input_at s at i = get_or s (at + i / 8) 0 / 2 ^ (i % 8) % 2

-- the first i inputs of delay r's line are in the wheel, the others not yet; what other delays put out is as it was
pub record Lined (s : List ℕ) (at d width r i : ℕ) (wheel₀ tag₀ wheel tag : List ℕ) : Type 0 where
  pub done : (j : ℕ) → j < i → j < 256 → puts_in wheel tag (512 + d - j) r ≡ input_at s at j
  pub left : (j : ℕ) → i ≤ j → j < 256 → puts_in wheel tag (512 + d - j) r ≡ 0
  pub others : (x y : ℕ) → 257 < x → x < 768 → y < 64 * width → (y ≡ r → ⊥) → puts_in wheel tag x y ≡ puts_in wheel₀ tag₀ x y
  pub rows : length wheel ≡ length wheel₀
  pub tags : length tag ≡ length tag₀

module _ (s : List ℕ) (at d width r i : ℕ) (wheel₀ tag₀ wheel tag : List ℕ) (L : Lined s at d width r i wheel₀ tag₀ wheel tag) where
  -- an input that is 0
  pub lined-zero : input_at s at i ≡ 0 → i < 256 → Lined s at d width r (i + 1) wheel₀ tag₀ wheel tag
  lined-zero e l =
      record {
        done = λ j a b. go j a b (ℕ_discrete j i);
        left = λ j a b. L.left j (omega arith) b;
        others = L.others;
        rows = L.rows;
        tags = L.tags;
      }
    where
      go : (j : ℕ) → j < i + 1 → j < 256 → Dec (j ≡ i) → puts_in wheel tag (512 + d - j) r ≡ input_at s at j
      go j a b (yes q) = rw q (L.left i (omega arith) l ∙ sym e)
      go j a b (no q) = L.done j (omega (arith, q)) b

  -- what is left of a byte is 0
  pub lined-byte : get_or s (at + i / 8) 0 / 2 ^ (i % 8) ≡ 0 → i < 256 → Lined s at d width r (i + (8 - i % 8)) wheel₀ tag₀ wheel tag
  lined-byte e l =
      record {
        done = λ j a b. go j a b (dec_lt j i);
        left = λ j a b. L.left j (omega arith) b;
        others = L.others;
        rows = L.rows;
        tags = L.tags;
      }
    where
      go : (j : ℕ) → j < i + (8 - i % 8) → j < 256 → Dec (j < i) → puts_in wheel tag (512 + d - j) r ≡ input_at s at j
      go j a b (yes q) = L.done j q b
      go j a b (no q) =
          let z : j / 8 ≡ i / 8 = omega (arith, q) in
          let y : j % 8 ≡ i % 8 + (j - i) = omega (arith, q) in
          L.left j (omega (arith, q)) b
          ∙ sym (rw (z, y) (ap (λ (x : ℕ). x % 2) (sym (shr-shr (get_or s (at + i / 8) 0) (i % 8) (j - i))) ∙ rw e (simp zero-div)))

  -- an input that is 1 is entered
  module _ (few : width ≤ 4) (long : 2048 ≤ length wheel) (tags : 512 ≤ length tag) (l : i < 256) (low : r < 64 * width) (short : d ≤ 255) (pos : 1 ≤ d) where
    pub lined-one : input_at s at i ≡ 1
        → Lined s at d width r (i + 1) wheel₀ tag₀ (inserted (opened wheel tag width (512 + d - i)) (256 * ((512 + d - i) % 512) + r)) (set tag ((512 + d - i) % 512) (512 + d - i))
    unfolding inserted
    lined-one e =
        record {
          done = λ j a b. go j a b (ℕ_discrete j i);
          left = λ j a b. keep (512 + d - j) r low (λ q. omega arith) (λ q z. omega arith) ∙ L.left j (omega arith) b;
          others = λ x y a b c n. keep x y c (λ q. omega arith) (λ q z. n z) ∙ L.others x y a b c n;
          rows = length-set (opened wheel tag width (512 + d - i)) _ _ ∙ length-opened wheel tag width (512 + d - i) ∙ L.rows;
          tags = length-set tag ((512 + d - i) % 512) (512 + d - i) ∙ L.tags;
        }
      where
        keep : (x y : ℕ) → y < 64 * width → (x % 512 ≡ (512 + d - i) % 512 → x ≡ 512 + d - i) → (x ≡ 512 + d - i → y ≡ r → ⊥)
            → puts_in (inserted (opened wheel tag width (512 + d - i)) (256 * ((512 + d - i) % 512) + r)) (set tag ((512 + d - i) % 512) (512 + d - i)) x y ≡ puts_in wheel tag x y
        keep x y c near n = enter-other wheel tag width (512 + d - i) long tags few r x y low c near n

        go : (j : ℕ) → j < i + 1 → j < 256 → Dec (j ≡ i)
            → puts_in (inserted (opened wheel tag width (512 + d - i)) (256 * ((512 + d - i) % 512) + r)) (set tag ((512 + d - i) % 512) (512 + d - i)) (512 + d - j) r ≡ input_at s at j
        go j a b (yes q) = rw q (enter-here wheel tag width (512 + d - i) long tags few r low ∙ sym e)
        go j a b (no q) = keep (512 + d - j) r low (λ z. omega (arith, q)) (λ z y. omega (arith, q)) ∙ L.done j (omega (arith, q)) b

-- so the wheel has what the line shows
pub lined-line : (s : List ℕ) (k d width r : ℕ) (wheel₀ tag₀ wheel tag : List ℕ) → Lined s (base Full k + 8) d width r 256 wheel₀ tag₀ wheel tag
    → (i : ℕ) → i < 256 → puts_in wheel tag (512 + d - i) r ≡ line_bit Full s k d i
unfolding line_bit
lined-line s k d width r wheel₀ tag₀ wheel tag L i l = L.done i l l

-- Compact lines ------------------------------------------------------------------------------------------------------------------------------

-- the pulse of delay r's line, which comes out in `left` instants, is in the wheel, if there is one; what other delays put out is as it was
pub record Numbered (left width r : ℕ) (wheel₀ tag₀ wheel tag : List ℕ) : Type 0 where
  pub done : (n : ℕ) → 1 ≤ n → n ≤ 255 → puts_in wheel tag (512 + n) r ≡ bit (eqb n left)
  pub others : (x y : ℕ) → 257 < x → x < 768 → y < 64 * width → (y ≡ r → ⊥) → puts_in wheel tag x y ≡ puts_in wheel₀ tag₀ x y
  pub rows : length wheel ≡ length wheel₀
  pub tags : length tag ≡ length tag₀

-- delay r has nothing in the wheel yet
abbrev pub Unset : List ℕ → List ℕ → ℕ → Type 0
Unset wheel tag r = (n : ℕ) → 1 ≤ n → n ≤ 255 → puts_in wheel tag (512 + n) r ≡ 0

module _ (width r : ℕ) (wheel tag : List ℕ) (unset : Unset wheel tag r) where
  pub numbered-none : Numbered 0 width r wheel tag wheel tag
  unfolding bit
  numbered-none =
      record {
        done = λ n a b. unset n a b ∙ sym (rw (ne_eqb n 0 (λ e. omega arith)) refl);
        others = λ x y a b c n. refl;
        rows = refl;
        tags = refl;
      }

  module _ (few : width ≤ 4) (long : 2048 ≤ length wheel) (tags : 512 ≤ length tag) (low : r < 64 * width) (left : ℕ) (pos : 1 ≤ left)
      (short : left ≤ 255) where
    pub numbered-one : Numbered left width r wheel tag (inserted (opened wheel tag width (512 + left)) (256 * ((512 + left) % 512) + r)) (set tag ((512 + left) % 512) (512 + left))
    unfolding inserted bit
    numbered-one =
        record {
          done = λ n a b. go n a b (ℕ_discrete n left);
          others = λ x y a b c n. keep x y c (λ q. omega arith) (λ q z. n z);
          rows = length-set (opened wheel tag width (512 + left)) _ _ ∙ length-opened wheel tag width (512 + left);
          tags = length-set tag ((512 + left) % 512) (512 + left);
        }
      where
        w : ℕ
        w = 512 + left

        keep : (x y : ℕ) → y < 64 * width → (x % 512 ≡ w % 512 → x ≡ w) → (x ≡ w → y ≡ r → ⊥)
            → puts_in (inserted (opened wheel tag width w) (256 * (w % 512) + r)) (set tag (w % 512) w) x y ≡ puts_in wheel tag x y
        keep x y c near n = enter-other wheel tag width w long tags few r x y low c near n

        go : (n : ℕ) → 1 ≤ n → n ≤ 255 → Dec (n ≡ left)
            → puts_in (inserted (opened wheel tag width w) (256 * (w % 512) + r)) (set tag (w % 512) w) (512 + n) r ≡ bit (eqb n left)
        go n a b (yes q) = rw (q, eq-eqb left left refl) (enter-here wheel tag width w long tags few r low)
        go n a b (no q) = keep (512 + n) r low (λ z. omega (arith, q)) (λ z y. omega (arith, q)) ∙ unset n a b ∙ sym (rw (ne_eqb n left q) refl)

pub numbered-line : (s : List ℕ) (k d width r : ℕ) (wheel₀ tag₀ wheel tag : List ℕ) → d ≤ 255 → Numbered (left_at Compact s k) width r wheel₀ tag₀ wheel tag
    → (i : ℕ) → i < d → puts_in wheel tag (512 + d - i) r ≡ line_bit Compact s k d i
unfolding line_bit
numbered-line s k d width r wheel₀ tag₀ wheel tag short N i l =
    let e : 512 + d - i ≡ 512 + (d - i) = omega arith in
    rw e (N.done (d - i) (omega arith) (omega arith) ∙ ap bit (same (ℕ_discrete (d - i) (left_at Compact s k))))
  where
    same : Dec (d - i ≡ left_at Compact s k) → eqb (d - i) (left_at Compact s k) ≡ eqb (left_at Compact s k + i) d
    same (yes q) = eq-eqb _ _ q ∙ sym (eq-eqb (left_at Compact s k + i) d (omega arith))
    same (no q) = ne_eqb _ _ q ∙ sym (ne_eqb (left_at Compact s k + i) d (λ z. q (omega arith)))
