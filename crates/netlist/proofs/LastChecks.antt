-- The rule of the last sixteen cells: what a search for the first that breaks it knows at cell k. Assumes nothing.
use Rattle.std.proofs.Common.{◌≡◌, ℕ, zero, suc, ◌+◌, ◌-◌, ◌<◌, ◌≤◌, true, false, List, length, refl, arith, le-leb}
use borrow.Author.Tests.{lt-leb}
use Rattle.model.specs.declared.Cell.{Cell}
use Rattle.model.specs.Circuit.{cell_at}
use Rattle.model.specs.NetlistFile.{carries, last_fault}
use Rattle.laws.specs.Refusals.Search.{Searched, searched-none, fault-next}

module _ (net : List Cell) where
  -- before the last sixteen
  early-right : (k : ℕ) → k + 16 < length net → last_fault net k ≡ 0
  unfolding last_fault
  early-right k h = rw (lt-leb (length net) (k + 16) h) refl

  pub searched-early : (k : ℕ) → k ≤ length net - 16 → Searched (last_fault net) (length net) k
  searched-early zero h = searched-none (last_fault net) (length net)
  searched-early (suc k) h =
      let e : suc k ≡ k + 1 = omega arith in
      rw e (fault-next (searched-early k (omega (arith, h))) (omega (arith, h)) (early-right k (omega (arith, h))))

  -- among them
  module _ (k : ℕ) {c : Cell} (h : length net ≤ k + 16) (e : cell_at net k ≡ c) where
    pub last-wrong : carries c ≡ false → last_fault net k ≡ 12
    unfolding last_fault
    last-wrong w = rw (le-leb (length net) (k + 16) h, e, w) refl

    pub last-right : carries c ≡ true → last_fault net k ≡ 0
    unfolding last_fault
    last-right w = rw (le-leb (length net) (k + 16) h, e, w) refl
