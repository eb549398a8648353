-- The first fault of n places, for loops that look for it: what a search from place 0 knows at place i, and the three steps from there.
-- Assumes nothing.
use Rattle.std.specs.Prelude.{◌≡◌}
use Rattle.std.proofs.Math.Path.{refl, sym}
use Rattle.std.proofs.Common.{◌∙◌}
use Prim.Native.Nat.{ℕ, suc, ◌+◌, ◌-◌, ◌<◌, ◌≤◌}
use native.Mathlib.Omega.{arith}
use borrow.Author.Tests.{ne_eqb}
use Rattle.model.specs.Refusals.{refuse, first_fault, Accepted}

-- the answer from place 0 is the answer from place i
pub record Searched (fault : ℕ → ℕ) (n i : ℕ) : Type 0 where
  pub same : first_fault fault 0 n ≡ first_fault fault i (n - i)

pub searched-none : (fault : ℕ → ℕ) (n : ℕ) → Searched fault n 0
searched-none fault n = let e : n - 0 ≡ n = omega arith in record { same = rw e refl }

module _ {fault : ℕ → ℕ} {n i : ℕ} (p : Searched fault n i) where
  pub fault-here : (number : ℕ) → i < n → 0 < number → fault i ≡ number → refuse number i ≡ first_fault fault 0 n
  unfolding first_fault
  fault-here number h g e =
      let s : n - i ≡ suc (n - (i + 1)) = omega arith in
      let z : first_fault fault i (n - i) ≡ refuse number i = rw (s, e, ne_eqb number 0 (omega arith)) refl in
      sym (p.same ∙ z)

  pub fault-next : i < n → fault i ≡ 0 → Searched fault n (i + 1)
  unfolding first_fault
  fault-next h e =
      let s : n - i ≡ suc (n - (i + 1)) = omega arith in
      let z : first_fault fault i (n - i) ≡ first_fault fault (i + 1) (n - (i + 1)) = rw (s, e) refl in
      record { same = p.same ∙ z }

  pub faults-end : n ≤ i → Accepted ≡ first_fault fault 0 n
  unfolding first_fault
  faults-end h =
      let s : n - i ≡ 0 = omega arith in
      let z : first_fault fault i (n - i) ≡ Accepted = rw s refl in
      sym (p.same ∙ z)
