-- The new numbers of a part's wires, region by region. Assumes nothing.
use mathlib.Core.Path.{◌≡◌, refl, ◌∙◌}
use Prim.Native.Nat.{ℕ, ◌+◌, ◌-◌, ◌*◌, ◌<◌, ◌≤◌}
use native.Mathlib.Omega.{arith}
use lib.Dec.{ltb}
use borrow.Author.Tests.{ne_eqb, lt-ltb, le-ltb, ltb-true, ltb-false}
use Rattle.model.specs.Numbering.{memory_wires}
use Rattle.laws.specs.Refusals.Laws.{by_bool}
use Rattle.joiner.specs.Moving.{new_number}
use Rattle.joiner.proofs.Renumber.{Shift}

module _ (m M s d c : ℕ) where
  pub new-start : new_number m M s d c 0 ≡ s
  unfolding new_number
  new-start = refl

  -- ground and the constant 0 stay
  pub new-ground : new_number m M s d c 1 ≡ 1
  unfolding new_number
  new-ground = refl

  pub new-delays : (n : ℕ) → 3 + n ≤ m → Shift (new_number m M s d c) 3 n d
  unfolding new_number
  new-delays n h =
      record { at = λ j j' l. rw (ne_eqb j 0 (λ q. omega arith), le-ltb j 3 l.0, lt-ltb j m (omega arith)) (omega arith) }

  pub new-memory : 3 ≤ m → (x : ℕ) → x < 24 → new_number m M s d c (m + x) ≡ M + x
  unfolding new_number
  new-memory h x l =
      rw (ne_eqb (m + x) 0 (λ q. omega arith), le-ltb (m + x) 3 (omega arith), le-ltb (m + x) m (omega arith), lt-ltb (m + x) (m + 24) (omega arith)) (omega arith)

  -- the wires of variables and arrays
  pub new-wires : 3 ≤ m → (x : ℕ) → x < 20 → new_number m M s d c (memory_wires m x) ≡ memory_wires M x
  unfolding memory_wires
  new-wires h x l =
      by_bool (ltb x 16)
      (λ t.
      let g = ltb-true x 16 t in
      rw t (new-memory h x (omega arith)))
      (λ t.
      let g = ltb-false x 16 t in
      let e : m + 16 + 2 * (x - 16) ≡ m + (16 + 2 * (x - 16)) = omega arith in
      let z : M + (16 + 2 * (x - 16)) ≡ M + 16 + 2 * (x - 16) = omega arith in
      rw (t, e) (new-memory h (16 + 2 * (x - 16)) (omega arith) ∙ z))

  pub new-walk : 3 ≤ m → (n : ℕ) → Shift (new_number m M s d c) (m + 24) n c
  unfolding new_number
  new-walk h n =
      record {
        at = λ j j' l.
            rw (ne_eqb j 0 (λ q. omega arith), le-ltb j 3 (omega arith), le-ltb j m (omega arith), le-ltb j (m + 24) l.0) (omega arith);
      }
