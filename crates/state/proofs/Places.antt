-- Lines by the place where their cell begins: what is done to the bytes there is what the model does to the line of cell k, format by format.
-- Assumes nothing.
use mathlib.Core.Bool.{Bool, false, ◌&&◌}
use mathlib.Core.List.{List}
use mathlib.Core.Path.{◌≡◌, refl}
use Prim.Native.Nat.{ℕ, zero, suc, ◌+◌, ◌-◌, ◌*◌, ◌/◌, ◌%◌, ◌^◌, ◌<◌, ◌≤◌}
use native.Mathlib.Omega.{arith}
use native.Mathlib.Numerals.{sub-one}
use lib.Dec.{eqb, ltb}
use lib.ListN.{get_or, set}
use borrow.Author.Tests.{eq-eqb}
use Rattle.model.specs.declared.Cell.{Cell}
use Rattle.model.specs.declared.Format.{Format}
use Rattle.model.specs.declared.Format.TheVariants.{Full, Compact}
use Rattle.model.specs.Word.{bit, pick}
use Rattle.model.specs.Circuit.{high}
use Rattle.model.specs.State.{base, now_at, left_at, line_bit, shifted_in, taken_in}
use Rattle.state.specs.Crowds.{crowds}
use Rattle.state.proofs.Counting.{compact-out}

module _ (F : Format) (s : List ℕ) (k p : ℕ) (at : p ≡ base F k) where
  pub left_here : F ≡ Compact → get_or s (p + 6) 0 ≡ left_at Compact s k
  left_here f = rw (at, f) refl

  -- what comes out
  pub full-out : (d : ℕ) → F ≡ Full → get_or s (p + 8 + (d - 1) / 8) 0 / 2 ^ ((d - 1) % 8) % 2 ≡ line_bit F s k d (d - 1)
  unfolding line_bit
  full-out d f = rw (at, f) refl

  pub counter-out : (d : ℕ) → F ≡ Compact → 1 ≤ d → bit (eqb (get_or s (p + 6) 0) 1) ≡ line_bit F s k d (d - 1)
  counter-out d f h = rw (at, f) (compact-out s k d h)

  -- what is taken in
  pub full-in : (d : ℕ) (x : Bool) → F ≡ Full → shifted_in 32 s (p + 8) (bit x) ≡ taken_in F s k d x
  unfolding taken_in
  full-in d x f = rw (at, f) refl

  pub counter-in : (d : ℕ) (x : Bool) → F ≡ Compact → set s (p + 6) (pick x d (get_or s (p + 6) 0 - 1)) ≡ taken_in F s k d x
  unfolding taken_in
  counter-in d x f = rw (at, f) refl

  -- whether it has room
  pub full-room : (c : Cell) → F ≡ Full → false ≡ crowds F s k c
  unfolding crowds
  full-room c f = rw f refl

  pub counter-room : (c : Cell) → F ≡ Compact → c.kind ≡ 34 → (high (now_at F s c.a) && ltb 1 (get_or s (p + 6) 0)) ≡ crowds F s k c
  unfolding crowds
  counter-room c f e = rw (at, f, eq-eqb _ _ e) refl

-- Full lines, byte by byte --------------------------------------------------------------------------------------------------------------

pub shifted_none : (m : ℕ) (s : List ℕ) (i x : ℕ) → m ≡ 0 → shifted_in m s i x ≡ s
unfolding shifted_in
shifted_none m s i x h = rw h

pub shifted-more : (m : ℕ) (s : List ℕ) (i x : ℕ) → 0 < m
    → shifted_in m s i x ≡ shifted_in (m - 1) (set s i ((2 * get_or s i 0 + x) % 256)) (i + 1) ((2 * get_or s i 0 + x) / 256)
unfolding shifted_in
shifted-more zero s i x h = absurd (omega arith)
shifted-more (suc m) s i x h = rw sub-one
