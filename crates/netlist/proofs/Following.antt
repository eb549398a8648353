-- Cells of a file one behind another. Assumes nothing.
use Rattle.std.proofs.Common.{◌≡◌, ℕ, ◌+◌, ◌*◌, ◌/◌, ◌%◌, ◌<◌, eqb, sym, refl, ap, ◌∙◌, mod-eq_of_lt, arith, eq-eqb, ne_eqb, eqb-true}
use native.Mathlib.Nat.{mul-mod_right, mul-add-mod_self_left}
use borrow.Author.Tests.{eqb-false}
use Rattle.model.specs.NetlistFile.{in_file}
use Rattle.laws.specs.Refusals.Laws.{by_bool}
use Rattle.netlist.specs.Offsets.{after}

module _ (i : ℕ) where
  pub after_block : (i + 6) % 512 ≡ 0 → after i ≡ i + 14
  unfolding after
  after_block e = rw (eq-eqb ((i + 6) % 512) 0 e) refl

  pub after-cell : ((i + 6) % 512 ≡ 0 → ⊥) → after i ≡ i + 6
  unfolding after
  after-cell e = rw (ne_eqb ((i + 6) % 512) 0 e) refl

-- a block's last cell is number 83 in it
pub following : (k : ℕ) → in_file (k + 1) ≡ after (in_file k)
following k =
    by_bool (eqb (k % 84) 83)
    (λ t.
    let r : k % 84 ≡ 83 = eqb-true _ _ t in
    let x : in_file k + 6 ≡ 512 * (k / 84 + 1) = omega arith in
    let e : (in_file k + 6) % 512 ≡ 0 = rw x (mul-mod_right 512 (k / 84 + 1)) in
    omega (arith, after_block (in_file k) e))
    (λ t.
    let r : k % 84 ≡ 83 → ⊥ = eqb-false _ _ t in
    let l : k % 84 < 83 = omega (arith, r) in
    let x : in_file k + 6 ≡ 512 * (k / 84) + (14 + 6 * (k % 84)) = omega arith in
    let y : (in_file k + 6) % 512 ≡ 14 + 6 * (k % 84) = rw x (mul-add-mod_self_left 512 (k / 84) (14 + 6 * (k % 84)) ∙ mod-eq_of_lt (omega arith)) in
    let e : (in_file k + 6) % 512 ≡ 0 → ⊥ = λ z. omega arith in
    omega (arith, after-cell (in_file k) e))

-- a cursor at cell k goes on to the next one
pub follows : {i j : ℕ} (k : ℕ) → i ≡ in_file k → j ≡ after i → j ≡ in_file (k + 1)
follows k e f = f ∙ ap after e ∙ sym (following k)
