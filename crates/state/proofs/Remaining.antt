-- The start's remaining high instants: where they stand. Assumes nothing.
use mathlib.Core.List.{List}
use mathlib.Core.Path.{◌≡◌, refl}
use Prim.Native.Nat.{ℕ, ◌+◌, ◌<◌}
use native.Mathlib.Omega.{arith}
use lib.ListN.{length}
use Rattle.model.specs.declared.Format.{Format}
use Rattle.model.specs.declared.Format.TheVariants.{Full, Compact}
use Rattle.model.specs.State.{base, remaining_byte}
use Rattle.state.specs.Stands.{Stands}

module _ (F : Format) (k at : ℕ) (e : at ≡ base F k) where
  pub full-place : F ≡ Full → at + 8 ≡ remaining_byte F k
  unfolding remaining_byte
  full-place f = rw (e, f) refl

  pub compact-place : F ≡ Compact → at + 6 ≡ remaining_byte F k
  unfolding remaining_byte
  compact-place f = rw (e, f) refl

pub remaining-inside : (F : Format) (s : List ℕ) (k : ℕ) → Stands F s k → remaining_byte F k < length s
unfolding remaining_byte
remaining-inside Full s k h = omega (arith, h.room)
remaining-inside Compact s k h = omega (arith, h.front)
