-- Bytes in a list: numbers of two and of four bytes, and passes over cells that leave a byte as it was.
-- Assumes nothing.
use Rattle.std.specs.Prelude.{Bool, true, false, ◌⊎◌, ◌≡◌, set, length, replicate}
use mathlib.Core.List.{List, ◌++◌}
use Rattle.std.proofs.Math.Logic.{⊎_elim}
use Rattle.std.proofs.Math.Path.{refl}
use Rattle.std.proofs.Common.{◌∙◌, ap₂}
use Prim.Native.Nat.{ℕ, zero, suc, ◌+◌, ◌*◌, ◌/◌, ◌%◌, ◌<◌, ◌≤◌}
use native.Mathlib.Omega.{arith}
use Rattle.std.proofs.Math.Decide.{ℕ_discrete}
use Rattle.std.proofs.Math.ListN.{get_or, length-set, get_or-append}
use Rattle.std.proofs.lemmas.List.{length-replicate, get_or-replicate}
use Rattle.std.proofs.Math.Seq.{get_or-set_same, get_or-set_other}
use Rattle.model.specs.Word.{bit, get16, put16, get32, put32}
use Rattle.model.specs.Circuit.{high}
use Rattle.model.specs.State.{up_to}

-- numbers of two bytes
module _ (s : List ℕ) (i v : ℕ) where
  pub put16-other : (j : ℕ) → (j ≡ i → ⊥) → (j ≡ i + 1 → ⊥) → get_or (put16 s i v) j 0 ≡ get_or s j 0
  unfolding put16
  put16-other j h g = get_or-set_other (set s i (v % 256)) (i + 1) j (v / 256) 0 g ∙ get_or-set_other s i j (v % 256) 0 h

  pub length-put16 : length (put16 s i v) ≡ length s
  unfolding put16
  length-put16 = simp length-set

  pub put16-same : i + 1 < length s → get16 (put16 s i v) i ≡ v
  unfolding put16 get16
  put16-same h =
      let e : get_or (set (set s i (v % 256)) (i + 1) (v / 256)) i 0 ≡ v % 256 =
      get_or-set_other (set s i (v % 256)) (i + 1) i (v / 256) 0 (λ x. omega arith) ∙ get_or-set_same s i (v % 256) 0 (omega arith) in
      let d : get_or (set (set s i (v % 256)) (i + 1) (v / 256)) (i + 1) 0 ≡ v / 256 =
      get_or-set_same (set s i (v % 256)) (i + 1) (v / 256) 0 (simp length-set h) in
      omega arith

pub get16-same : (s t : List ℕ) (i : ℕ) → get_or t i 0 ≡ get_or s i 0 → get_or t (i + 1) 0 ≡ get_or s (i + 1) 0 → get16 t i ≡ get16 s i
unfolding get16
get16-same s t i h g = cc

-- numbers of four bytes
module _ (s : List ℕ) (i v : ℕ) where
  pub put32-other : (j : ℕ) → (j < i) ⊎ (i + 4 ≤ j) → get_or (put32 s i v) j 0 ≡ get_or s j 0
  unfolding put32
  put32-other j h =
      put16-other (put16 s i (v % 65536)) (i + 2) (v / 65536) j (λ e. off (omega arith) (omega arith)) (λ e. off (omega arith) (omega arith))
      ∙ put16-other s i (v % 65536) j (λ e. off (omega arith) (omega arith)) (λ e. off (omega arith) (omega arith))
    where
      off : i ≤ j → j < i + 4 → ⊥
      off a b = ⊎_elim (λ z. omega arith) (λ z. omega arith) h

  pub length-put32 : length (put32 s i v) ≡ length s
  unfolding put32
  length-put32 = length-put16 (put16 s i (v % 65536)) (i + 2) (v / 65536) ∙ length-put16 s i (v % 65536)

  pub put32-same : i + 3 < length s → get32 (put32 s i v) i ≡ v
  unfolding put32 get32
  put32-same h =
      let t : List ℕ = put16 s i (v % 65536) in
      let x : get16 (put16 t (i + 2) (v / 65536)) i ≡ v % 65536 =
      get16-same t (put16 t (i + 2) (v / 65536)) i (put16-other t (i + 2) (v / 65536) i (λ e. omega arith) (λ e. omega arith))
      (put16-other t (i + 2) (v / 65536) (i + 1) (λ e. omega arith) (λ e. omega arith))
      ∙ put16-same s i (v % 65536) (omega arith) in
      let y : get16 (put16 t (i + 2) (v / 65536)) (i + 2) ≡ v / 65536 =
      put16-same t (i + 2) (v / 65536) (rw (length-put16 s i (v % 65536)) (omega arith)) in
      omega arith

pub get32-same : (s t : List ℕ) (i : ℕ) → ((j : ℕ) → i ≤ j → j < i + 4 → get_or t j 0 ≡ get_or s j 0) → get32 t i ≡ get32 s i
unfolding get32
get32-same s t i h =
    ap₂ (λ (x y : ℕ). x + 65536 * y) (get16-same s t i (h i (omega arith) (omega arith)) (h (i + 1) (omega arith) (omega arith)))
    (get16-same s t (i + 2) (h (i + 2) (omega arith) (omega arith)) (h (i + 2 + 1) (omega arith) (omega arith)))

-- a pass that leaves byte j at every cell leaves it; where only cell k changes it, it is as cell k made it
module _ (f : List ℕ → ℕ → List ℕ) (j : ℕ) where
  pub up_to-frame : (n : ℕ) (s : List ℕ) → ((t : List ℕ) (k : ℕ) → k < n → get_or (f t k) j 0 ≡ get_or t j 0)
      → get_or (up_to f n s) j 0 ≡ get_or s j 0
  unfolding up_to
  up_to-frame zero s h = refl
  up_to-frame (suc n) s h = h (up_to f n s) n (omega arith) ∙ up_to-frame n s (λ t k g. h t k (omega arith))

pub up_to-length : (f : List ℕ → ℕ → List ℕ) → ((t : List ℕ) (k : ℕ) → length (f t k) ≡ length t) → (n : ℕ) (s : List ℕ) → length (up_to f n s) ≡ length s
unfolding up_to
up_to-length f h zero s = refl
up_to-length f h (suc n) s = h (up_to f n s) n ∙ up_to-length f h n s

-- where only cell k changes byte j, a pass leaves it as cell k made it
module _ (f : List ℕ → ℕ → List ℕ) (j k : ℕ) where
  pub up_to-at : (n : ℕ) (s : List ℕ) → ((t : List ℕ) (m : ℕ) → m < n → (m ≡ k → ⊥) → get_or (f t m) j 0 ≡ get_or t j 0) → k < n
      → get_or (up_to f n s) j 0 ≡ get_or (f (up_to f k s) k) j 0
  unfolding up_to
  up_to-at zero s other h = absurd (omega arith)
  up_to-at (suc n) s other h = go (ℕ_discrete n k) (up_to-at n s (λ t m l. other t m (omega arith)))
    where
      go : Dec (n ≡ k) → (k < n → get_or (up_to f n s) j 0 ≡ get_or (f (up_to f k s) k) j 0)
          → get_or (f (up_to f n s) n) j 0 ≡ get_or (f (up_to f k s) k) j 0
      go (yes e) r = rw e
      go (no x) r = other (up_to f n s) n (omega arith) x ∙ r (omega (arith, x))

-- zeros, then others
pub cleared-zero : (m : ℕ) (rest : List ℕ) (j : ℕ) → j < m → get_or (replicate m 0 ++ rest) j 0 ≡ 0
cleared-zero m rest j g = get_or-append (replicate m 0) rest 0 j (rw (length-replicate {A = ℕ} m 0) g) ∙ get_or-replicate {A = ℕ} m j 0 0 g

-- bits
pub bit-lt : (b : Bool) → bit b < 2
unfolding bit
bit-lt true = omega arith
bit-lt false = omega arith

pub high_bit : (b : Bool) → high (bit b) ≡ b
unfolding bit
high_bit true = refl
high_bit false = refl
