-- Runs of cells in a list of bytes: one after another, and two that do not meet. Assumes nothing.
use mathlib.Core.List.{List, [], ◌∷◌, ◌++◌}
use mathlib.Core.Path.{◌≡◌, refl, sym, ◌∙◌, ap}
use Prim.Native.Nat.{ℕ, ◌+◌, ◌*◌, ◌≤◌}
use native.Mathlib.Omega.{arith}
use lib.ListN.{length}
use lib.Seq.{length-sets}
use Rattle.model.specs.declared.Cell.{Cell}
use Rattle.model.specs.NetlistFile.{cell_bytes}
use Rattle.laws.specs.NetlistFile.CellBytes.{bytes-length, bytes-append}
use Rattle.laws.specs.Lists.Writes.{sets-append, sets-swap}
use Rattle.compiler.specs.Writes.{write, both}

-- a number behind a run, by the run's length
pub behind : (k : ℕ) {l n : ℕ} → l ≡ n → k + n ≡ k + l
behind k e = ap (λ (n : ℕ). k + n) (sym e)

pub write-none : (k : ℕ) (s : List ℕ) → write k [] s ≡ s
unfolding write cell_bytes
write-none k s = refl

pub write-length : (k : ℕ) (xs : List Cell) (s : List ℕ) → length (write k xs s) ≡ length s
unfolding write
write-length k xs s = length-sets s (6 * k) (cell_bytes xs)

pub write-append : (k m : ℕ) (xs ys : List Cell) (s : List ℕ) → m ≡ k + length xs → write m ys (write k xs s) ≡ write k (xs ++ ys) s
unfolding write
write-append k m xs ys s e =
    let p : 6 * m ≡ 6 * k + length (cell_bytes xs) = omega (arith, bytes-length xs) in
    rw (p, bytes-append xs ys) (sym (sets-append s (6 * k) (cell_bytes xs) (cell_bytes ys)))

pub write-swap : (k j : ℕ) (xs ys : List Cell) (s : List ℕ) → k + length xs ≤ j → write k xs (write j ys s) ≡ write j ys (write k xs s)
unfolding write
write-swap k j xs ys s h = sets-swap s (6 * k) (cell_bytes xs) (6 * j) (cell_bytes ys) (omega (arith, bytes-length xs))

-- a run put in before another
pub write-before : (k m : ℕ) (xs ys : List Cell) (s : List ℕ) → m ≡ k + length xs → write k xs (write m ys s) ≡ write k (xs ++ ys) s
write-before k m xs ys s e = write-swap k m xs ys s (omega arith) ∙ write-append k m xs ys s e

-- a cell and the next
pub write_two : (k : ℕ) (x y : Cell) (s : List ℕ) {mid end : List ℕ} → mid ≡ write k (x ∷ []) s → end ≡ write (k + 1) (y ∷ []) mid
    → end ≡ write k (x ∷ y ∷ []) s
write_two k x y s a b = b ∙ ap (write (k + 1) (y ∷ [])) a ∙ write-append k (k + 1) (x ∷ []) (y ∷ []) s refl

-- and the next two
pub write-three : (k : ℕ) (x y z : Cell) (s : List ℕ) {m₁ m₂ end : List ℕ} → m₁ ≡ write k (x ∷ []) s → m₂ ≡ write (k + 1) (y ∷ []) m₁
    → end ≡ write (k + 2) (z ∷ []) m₂ → end ≡ write k (x ∷ y ∷ z ∷ []) s
write-three k x y z s a b c =
    c ∙ ap (write (k + 2) (z ∷ [])) (write_two k x y s a b) ∙ write-append k (k + 2) (x ∷ y ∷ []) (z ∷ []) s refl

-- Delay cells and walk cells -----------------------------------------------------------------------------------------------------------

module _ (d c : ℕ) (xs ys : List Cell) (s : List ℕ) (zs : List Cell) (m : ℕ) where
  -- more walk cells
  pub both-walk : m ≡ c + length ys → write m zs (both d xs c ys s) ≡ both d xs c (ys ++ zs) s
  unfolding both
  both-walk e = write-append c m ys zs (write d xs s) e

  -- more delay cells, behind and in front
  pub both-delay : m ≡ d + length xs → m + length zs ≤ c → write m zs (both d xs c ys s) ≡ both d (xs ++ zs) c ys s
  unfolding both
  both-delay e h = write-swap m c zs ys (write d xs s) h ∙ ap (write c ys) (write-append d m xs zs s e)

  pub both-front : d ≡ m + length zs → d + length xs ≤ c → write m zs (both d xs c ys s) ≡ both m (zs ++ xs) c ys s
  unfolding both
  both-front e h = write-swap m c zs ys (write d xs s) (omega arith) ∙ ap (write c ys) (write-before m d zs xs s e)
