-- What the values of a start and of a merge tell of what a state keeps beside them: how many high instants remain, and what the merge has put out.
-- Assumes nothing.
use Rattle.std.specs.Prelude.{Bool, true, false, not, ◌||◌, ◌≡◌, refl, ℕ, zero, suc, ◌-◌, ◌<◌, ◌≤◌, length}
use Rattle.std.proofs.Common.{sym, ◌∙◌, ap₂, arith}
use Rattle.std.proofs.Math.Path.{ap}
use Rattle.model.specs.Word.{pick, is_zero}
use Rattle.model.specs.Circuit.{Netlist, cell_at, Sig, Values, high, level, remaining_step, remaining_before, pulses, merged_before, merged, Step, merges, step_of, k_start, element, start_word, equation, Obeys, Shape}
use Rattle.laws.specs.Circuit.Shapes.{merge-shape, return-shape, of-merge, of-return, by-merge}
use Rattle.laws.specs.State.Bytes.{high_bit}
use Rattle.laws.specs.State.Passes.{shape_at}

-- a start pulse that comes while the start is high changes nothing
same_step : (w r : ℕ) (b : Bool) → remaining_step w r (b || not (is_zero r)) ≡ remaining_step w r b
unfolding remaining_step
same_step w r b = go (is_zero r) b
  where
    go : (z b : Bool) → pick z (pick (b || not z) (w - 1) 0) (r - 1) ≡ pick z (pick b (w - 1) 0) (r - 1)
    go true true = refl
    go true false = refl
    go false b = refl

-- "remaining high instants, below w"
pub remaining-low : (w : ℕ) (x : Sig) (t : ℕ) → remaining_before w x t ≤ w - 1
unfolding remaining_before remaining_step
remaining-low w x zero = omega arith
remaining-low w x (suc t) = go (is_zero (remaining_before w x t)) (x t) (remaining-low w x t)
  where
    go : (z b : Bool) → remaining_before w x t ≤ w - 1 → pick z (pick b (w - 1) 0) (remaining_before w x t - 1) ≤ w - 1
    go true true l = omega arith
    go true false l = omega arith
    go false b l = omega arith

-- how many remain goes by the level as by the pulses
pub remaining-level : (w : ℕ) (starts x : Sig) → ((t : ℕ) → x t ≡ pulses w starts t) → (t : ℕ) → remaining_before w x t ≡ remaining_before w starts t
unfolding remaining_before pulses
remaining-level w starts x e zero = refl
remaining-level w starts x e (suc t) =
    ap₂ (remaining_step w) (remaining-level w starts x e t) (e t) ∙ same_step w (remaining_before w starts t) (starts t)

module _ (net : Netlist) (starts : Sig) (words : ℕ → ℕ) (W : Values) (obeys : Obeys net starts words W) (k : ℕ) (h : k < length net.cells) where
  -- a cell's level, by its shape
  by_shape : (sh : Shape) → shape_at net k ≡ sh → (t : ℕ)
      → W k t ≡ equation net.pulse sh starts (start_word net.cells words k) (element net.cells words W) W k (cell_at net.cells k) t
  unfolding Obeys
  by_shape sh e t =
      obeys k h t
      ∙ ap (λ (sh : Shape). equation net.pulse sh starts (start_word net.cells words k) (element net.cells words W) W k (cell_at net.cells k) t) e

  start-level : shape_at net k ≡ k_start → (t : ℕ) → level W k t ≡ pulses net.pulse starts t
  unfolding equation
  start-level e t = ap high (by_shape k_start e t) ∙ high_bit (pulses net.pulse starts t)

  pub start-remaining : shape_at net k ≡ k_start → (t : ℕ) → remaining_before net.pulse (level W k) t ≡ remaining_before net.pulse starts t
  start-remaining e t = remaining-level net.pulse starts (level W k) (start-level e) t

  pub merge-level : merges (cell_at net.cells k).kind ≡ true → (t : ℕ)
      → level W k t
      ≡ (merged_before (step_of net.pulse (cell_at net.cells k).kind) (level W (cell_at net.cells k).a) (level W (cell_at net.cells k).b) (suc t)).out
  unfolding equation merged
  merge-level e t =
      let c = cell_at net.cells k in
      by-merge c.kind e
      (λ q.
      let z = of-merge net.pulse c.kind (merge-shape _ q) in
      ap high (by_shape _ (merge-shape _ q) t) ∙ high_bit _
      ∙ ap (λ (f : Step). (merged_before f (level W c.a) (level W c.b) (suc t)).out) (sym z.1))
      (λ q.
      let z = of-return net.pulse c.kind (return-shape _ q) in
      ap high (by_shape _ (return-shape _ q) t) ∙ high_bit _
      ∙ ap (λ (f : Step). (merged_before f (level W c.a) (level W c.b) (suc t)).out) (sym z.1))
