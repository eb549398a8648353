-- Refusal 26: the fault of a cell in the third pass, what no fault says of a line, and states in which there is none.
-- Assumes nothing.
use mathlib.Core.Bool.{Bool, true, false, ◌&&◌}
use mathlib.Core.List.{List, [], ◌∷◌}
use mathlib.Core.Path.{◌≡◌, refl, sym, ◌∙◌}
use Prim.Native.Nat.{ℕ, zero, suc, ◌+◌, ◌<◌, ◌≤◌}
use native.Mathlib.Nat.{add-zero}
use native.Mathlib.Omega.{arith}
use lib.Dec.{eqb, ltb}
use lib.ListN.{length}
use borrow.Author.Tests.{eq-eqb, ne_eqb, eqb-true, ltb-false, lt-ltb, le-ltb, le-leb}
use Rattle.model.specs.declared.Cell.{Cell}
use Rattle.model.specs.declared.Merge.{Merge}
use Rattle.model.specs.declared.Format.{Format}
use Rattle.model.specs.declared.Format.TheVariants.{Full, Compact}
use Rattle.model.specs.Word.{bit}
use Rattle.model.specs.Refusals.{first_fault, fault_if, Accepted}
use Rattle.model.specs.Circuit.{Netlist, cell_at, high}
use Rattle.model.specs.State.{remaining_at, flight_of, flight_in, now_at, held_at, left_at, line_at, crowded, crowding}
use Rattle.laws.specs.Refusals.Laws.{by_bool, by_le, faultless}
use Rattle.laws.specs.State.Lines.{Vacant}
use Rattle.laws.specs.State.Flight.{cell_flight}
use Rattle.state.specs.Stands.{Lined, Ready}
use Rattle.state.specs.Crowds.{crowds}
use Rattle.state.proofs.Counting.{one_left, compact-ones, delay-flight}

-- The fault of a cell ----------------------------------------------------------------------------------------------------------------------

pub crowds-same : (F : Format) (s t : List ℕ) (k : ℕ) (c : Cell) → now_at F t c.a ≡ now_at F s c.a → left_at F t k ≡ left_at F s k → crowds F t k c ≡ crowds F s k c
unfolding crowds
crowds-same Full s t k c a b = refl
crowds-same Compact s t k c a b = rw (a, b) refl

-- no delay
pub crowds-other : (s : List ℕ) (k : ℕ) (c : Cell) (F : Format) → (c.kind ≡ 34 → ⊥) → crowds F s k c ≡ false
unfolding crowds
crowds-other s k c Full n = refl
crowds-other s k c Compact n = rw (ne_eqb _ _ n) refl

abbrev pub crowd_fault : Format → Netlist → List ℕ → ℕ → ℕ
crowd_fault F net s k = fault_if (crowds F s k (cell_at net.cells k)) 26

module _ (F : Format) (net : Netlist) (s : List ℕ) where
  pub crowded-here : (k : ℕ) → crowds F s k (cell_at net.cells k) ≡ true → crowd_fault F net s k ≡ 26
  crowded-here k e = rw e refl

  pub not-crowded-here : (k : ℕ) → crowds F s k (cell_at net.cells k) ≡ false → crowd_fault F net s k ≡ 0
  not-crowded-here k e = rw e refl

pub crowding-faults : (F : Format) (net : Netlist) (s : List ℕ) (n : ℕ) → length net.cells ≡ n → crowding F net s s ≡ first_fault (crowd_fault F net s) 0 n
unfolding crowding
crowding-faults Full net s n e = sym (faultless (crowd_fault Full net s) 0 n (λ j l h. unfold crowds in refl))
crowding-faults Compact net s n e = unfold crowded crowds in rw (← e) refl

-- where a delay isn't crowded, its line has room
pub vacant-if : (F : Format) (s : List ℕ) (k : ℕ) (c : Cell) → c.kind ≡ 34 → crowds F s k c ≡ false → Vacant F s k (high (now_at F s c.a))
unfolding crowds Vacant
vacant-if Full s k c d e = tt
vacant-if Compact s k c d e = λ x. ltb-false 1 (left_at Compact s k) (rw (eq-eqb _ _ d, x) at e)

-- None -------------------------------------------------------------------------------------------------------------------------------------

no-fault : (a b c : Bool) → c ≡ false → fault_if (a && (b && c)) 26 ≡ 0
no-fault true true c e = rw e refl
no-fault true false c e = refl
no-fault false b c e = refl

roomy-at : (net : Netlist) (s t : List ℕ) (k : ℕ) → ((cell_at net.cells k).kind ≡ 34 → left_at Compact s k ≤ 1) → crowded Compact net s t k ≡ 0
unfolding crowded
roomy-at net s t k h =
    by_bool (eqb (cell_at net.cells k).kind 34) (λ q. no-fault (eqb (cell_at net.cells k).kind 34) (high (now_at Compact t (cell_at net.cells k).a)) (ltb 1 (left_at Compact s k)) (le-ltb 1 (left_at Compact s k) (h (eqb-true _ _ q)))) (λ q. rw q refl)

roomy-full : (net : Netlist) (s t : List ℕ) → crowding Full net s t ≡ Accepted
unfolding crowding
roomy-full net s t = refl

-- where every line's pulse, if any, comes out now
pub roomy : (F : Format) (net : Netlist) (s t : List ℕ) → ((k : ℕ) → k < length net.cells → (cell_at net.cells k).kind ≡ 34 → left_at F s k ≤ 1) → crowding F net s t ≡ Accepted
unfolding crowding
roomy Full net s t h = refl
roomy Compact net s t h = faultless (crowded Compact net s t) 0 (length net.cells) (λ k l g. roomy-at net s t k (h k (omega arith)))

-- With nothing in flight -------------------------------------------------------------------------------------------------------------------

cell-quiet : (l : ℕ → ℕ → ℕ) (g : ℕ → Merge) (p : ℕ → ℕ) (cs : List Cell) (k i : ℕ) → i < length cs → flight_in l g p cs k ≡ 0 → cell_flight l g p cs k i ≡ 0
unfolding flight_in
cell-quiet l g p [] k i h e = absurd (omega arith)
cell-quiet l g p (c ∷ cs) k zero h e = rw add-zero (omega (arith, e))
cell-quiet l g p (c ∷ cs) k (suc i) h e =
    let q : k + 1 + i ≡ k + suc i = omega arith in
    rw q at (cell-quiet l g p cs (k + 1) i (omega arith) (omega (arith, e)))

left-quiet : (left d : ℕ) → left ≤ d → one_left left d ≡ 0 → left ≤ 1
unfolding one_left bit
left-quiet left d h e = by_le left 0 (λ g. omega arith) (λ g. absurd (go (rw (lt-ltb 0 left g, le-leb left d h) at e)))
  where
    go : ◌≡◌ {A = ℕ} 1 0 → ⊥
    go z = omega arith

pub quiet-roomy : (F : Format) (net : Netlist) (s t : List ℕ) → Ready F net s → flight_of s ≡ 0 → crowding F net s t ≡ Accepted
unfolding Lined
quiet-roomy Full net s t ready e = roomy-full net s t
quiet-roomy Compact net s t ready e =
    roomy Compact net s t
    (λ k l q.
    let d = (cell_at net.cells k).delay in
    let z : 0 + k ≡ k = omega arith in
    let none : cell_flight (line_at Compact net s) (held_at Compact s) (remaining_at Compact s) net.cells 0 k ≡ 0 = cell-quiet (line_at Compact net s) (held_at Compact s) (remaining_at Compact s) net.cells 0 k l (sym ready.number ∙ e) in
    left-quiet (left_at Compact s k) d (ready.lines k l q)
    (sym (compact-ones s k d) ∙ sym (delay-flight (line_at Compact net s k) (held_at Compact s k) (remaining_at Compact s k) (cell_at net.cells k) q) ∙ (rw z at none)))
