-- Continuing, clause by clause, for code that goes instant by instant; a full state never meets 26, and 26 can be seen before a line takes anything in.
-- Assumes nothing.
use Rattle.std.specs.Prelude.{Bool, true, false, ◌&&◌, ◌≡◌, ℕ, zero, suc, ◌+◌, ◌<◌, ◌≤◌, eqb, length, Ok, Err}
use mathlib.Core.List.{List}
use Rattle.std.proofs.Math.Path.{refl, sym, ap, ap₂}
use Rattle.std.proofs.Common.{◌∙◌, arith}
use Rattle.std.proofs.Math.Dec.{ltb}
use Rattle.model.specs.declared.Refusal.{Refusal}
use Rattle.model.specs.declared.Format.{Format}
use Rattle.model.specs.declared.Format.TheVariants.{Full, Compact}
use Rattle.model.specs.Circuit.{Netlist, cell_at, high}
use Rattle.model.specs.Word.{pick}
use Rattle.model.specs.Refusals.{refuse, first_fault, fault_if, Checked, Accepted}
use Rattle.model.specs.State.{Course, course, longer, base, now_at, left_at, value, step_state, crowded, crowding, continued}
use Rattle.laws.specs.Refusals.Laws.{by_bool}
use Rattle.laws.specs.State.Passes.{now-counted, one, one-high, two, two-high, after, now-three, step_is}

-- The clauses --------------------------------------------------------------------------------------------------------------------------

module _ (F : Format) (net : Netlist) (f n : ℕ) (s : List ℕ) where
  abbrev t : List ℕ
  t = step_state F net false s

  abbrev onward : Checked → Bool → Course
  onward c b =
      elim c as (λ z. Course) [
        | Ok _ ↦ elim b as (λ z. Course) [ true ↦ course Accepted t 1 | false ↦ longer (continued F net f n t) ]
        | Err r ↦ course (Err r) s 0
      ]

  pub continued-crowded : (r : Refusal) → crowding F net s t ≡ Err r → continued F net f (suc n) s ≡ course (Err r) s 0
  unfolding continued
  continued-crowded r e = ap (λ (c : Checked). onward c (high (now_at F t f))) e

  pub continued-high : crowding F net s t ≡ Accepted → high (now_at F t f) ≡ true → continued F net f (suc n) s ≡ course Accepted t 1
  unfolding continued
  continued-high e h = ap₂ onward e h

  pub continued-low : crowding F net s t ≡ Accepted → high (now_at F t f) ≡ false → continued F net f (suc n) s ≡ longer (continued F net f n t)
  unfolding continued
  continued-low e h = ap₂ onward e h

-- A full state has room for every pulse ------------------------------------------------------------------------------------------------

pub full-free : (net : Netlist) (f n : ℕ) (s : List ℕ) → (continued Full net f n s).check ≡ Accepted
unfolding continued
full-free net f zero s = refl
full-free net f (suc n) s =
    let t = step_state Full net false s in
    let free : crowding Full net s t ≡ Accepted = unfold crowding in refl in
    by_bool (high (now_at Full t f)) (λ e. ap (λ (c : Course). c.check) (continued-high Full net f n s free e))
    (λ e. ap (λ (c : Course). c.check) (continued-low Full net f n s free e) ∙ full-free net f n t)

-- Before any line takes anything in ------------------------------------------------------------------------------------------------------

faults-same : (f g : ℕ → ℕ) (i n : ℕ) → ((j : ℕ) → i ≤ j → j < i + n → f j ≡ g j) → first_fault f i n ≡ first_fault g i n
unfolding first_fault
faults-same f g i zero h = refl
faults-same f g i (suc n) h =
    ap₂ (λ (x : ℕ) (c : Checked). pick (eqb x 0) c (refuse x i)) (h i (omega arith) (omega arith))
    (faults-same f g (i + 1) n (λ j l k. h j (omega arith) (omega arith)))

-- after the second pass the wires show what they show after the instant, and the numbers of lines are those of before it
module _ (net : Netlist) (starts : Bool) (s : List ℕ) where
  abbrev valued : List ℕ
  valued = two Compact net (value Compact net starts) (one Compact s (length net.cells)) (length net.cells)

  crowded-seen : (k : ℕ) → k < length net.cells → crowded Compact net s (step_state Compact net starts s) k ≡ crowded Compact net valued valued k
  unfolding crowded
  crowded-seen k l =
      let u = one Compact s (length net.cells) in
      let v = value Compact net starts in
      let a = (cell_at net.cells k).a in
      let enters : now_at Compact (step_state Compact net starts s) a ≡ now_at Compact valued a =
      ap (λ (t : List ℕ). now_at Compact t a) (step_is Compact net starts s) ∙ now-counted Compact net (after Compact net v u) a
      ∙ now-three Compact net v u (length net.cells) a in
      let left : left_at Compact s k ≡ left_at Compact valued k =
      sym
      (two-high Compact net v u (length net.cells) k (base Compact k + 6) l (omega arith) (omega arith)
      ∙ one-high Compact s (length net.cells) k (base Compact k + 6) (omega arith) (omega arith)) in
      ap₂ (λ (x y : ℕ). fault_if (eqb (cell_at net.cells k).kind 34 && (high x && ltb 1 y)) 26) enters left

  pub crowding-seen : crowding Compact net s (step_state Compact net starts s) ≡ crowding Compact net valued valued
  unfolding crowding
  crowding-seen =
      faults-same (crowded Compact net s (step_state Compact net starts s)) (crowded Compact net valued valued) 0 (length net.cells)
      (λ k l h. crowded-seen k (omega arith))
