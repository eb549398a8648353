-- A number in place of a line: it tells all of the line where its pulses are apart, and 26 is met exactly where one enters too early.
-- A full state has room for every pulse.
-- Assumes nothing.
use Prim.Native.Nat.{ℕ, suc, ◌+◌, ◌-◌, ◌<◌, ◌≤◌}
use Rattle.std.specs.Prelude.{◌≡◌, Bool, true, false, ◌&&◌, List, ◌↔◌, eqb, length}
use Rattle.std.proofs.Math.Path.{refl}
use Rattle.std.proofs.Common.{sym, ◌∙◌, ap}
use native.Mathlib.Omega.{arith}
use Rattle.std.proofs.Math.Dec.{ltb}
use borrow.Author.Tests.{eq-eqb, eqb-true, le-ltb, ltb-false}
use Rattle.model.specs.declared.Format.{Format}
use Rattle.model.specs.declared.Format.TheVariants.{Full, Compact}
use Rattle.model.specs.Word.{bit}
use Rattle.model.specs.Refusals.{fault_if, Accepted}
use Rattle.model.specs.Circuit.{Netlist, cell_at, Sig, Values, high, level, delayed, k_delay}
use Rattle.model.specs.State.{now_at, left_at, line_bit, crowded, crowding}
use Rattle.model.specs.CircuitPromises.{Free, Apart}
use Rattle.laws.specs.Refusals.Laws.{by_bool, by_le, not-both, fault-unless, faultless}
use Rattle.laws.specs.Circuit.Ordered.{kinds, Ordered}
use Rattle.laws.specs.Circuit.Shapes.{delay-kind, delay-shape}
use Rattle.laws.specs.State.Lines.{Line, Vacant}
use Rattle.laws.specs.State.Passes.{shape_at}
use Rattle.theory.specs.Control.Signal.{delayed-at, delayed-off}
use Rattle.theory.specs.State.Holding.{Holding, delay-looks}

-- A line -------------------------------------------------------------------------------------------------------------------------------

bit_high : (b : Bool) → bit b ≡ 1 → b ≡ true
unfolding bit
bit_high true e = refl
bit_high false e = absurd (omega arith)

high_is : (b : Bool) → b ≡ true → bit b ≡ 1
unfolding bit
high_is b e = rw e

-- what came in i instants ago came in at some instant
came-in : (i : ℕ) (x : Sig) (t : ℕ) → delayed i x t ≡ true → (u : ℕ) × (u + i ≡ t) × (x u ≡ true)
came-in i x t e =
    by_le i t (λ g. (t - i, omega arith, sym (delayed-at i x (t - i) t (omega arith)) ∙ e))
    (λ g. not-both e (delayed-off i x t (λ u z. absurd (omega arith))))

module _ (d : ℕ) (x : Sig) (t : ℕ) (s : List ℕ) (k : ℕ) (in-range : Line Compact s k d)
    (line : (i : ℕ) → i < d → line_bit Compact s k d i ≡ bit (delayed i x t)) where
  abbrev left : ℕ
  left = left_at Compact s k

  free-vacant : Free d x (suc t) → Vacant Compact s k (x (suc t))
  unfolding Vacant line_bit Line
  free-vacant h e =
      by_le left 1 (λ g. g)
      (λ g.
      let sum : left + (d - left) ≡ d = omega (arith, in-range) in
      let o = came-in (d - left) x t (bit_high _ (sym (line (d - left) (omega (arith, in-range))) ∙ high_is _ (eq-eqb (left + (d - left)) d sum))) in
      omega (arith, h o.0 (omega (arith, o.1)) o.2 e, o.1, sum))

  vacant-free : Vacant Compact s k (x (suc t)) → Free d x (suc t)
  unfolding Vacant line_bit
  vacant-free v u l a b =
      by_le (u + d) (suc t) (λ g. g)
      (λ g.
      let i : ℕ = t - u in
      let z : u + i ≡ t = omega arith in
      let e : left + i ≡ d = eqb-true (left + i) d (bit_high _ (line i (omega arith) ∙ high_is _ (delayed-at i x u t z ∙ a))) in
      absurd (omega (arith, v b, e, z)))

-- A state ------------------------------------------------------------------------------------------------------------------------------

-- what is apart up to an instant is so up to each before it
pub apart-less : (F : Format) (net : Netlist) (W : Values) (t t' : ℕ) → t ≤ t' → Apart F net W t' → Apart F net W t
apart-less Full net W t t' l h = tt
apart-less Compact net W t t' l h = λ k g e v m. h k g e v (omega arith)

-- in either format, where it is so for a compact state
pub apart-either : (F : Format) (net : Netlist) (W : Values) (t : ℕ) → Apart Compact net W t → Apart F net W t
apart-either Full net W t h = tt
apart-either Compact net W t h = h

-- and up to the next one, if what enters there finds nothing
pub apart_more : (net : Netlist) (W : Values) (t : ℕ) → Apart Compact net W t
    → ((k : ℕ) → k < length net.cells → shape_at net k ≡ k_delay → Free (cell_at net.cells k).delay (level W (cell_at net.cells k).a) (suc t)) → Apart Compact net W (suc t)
apart_more net W t h g k l e v m u =
    by_le v t (λ z. h k l e v z u)
    (λ z.
    let q : suc t ≡ v = omega arith in
    rw (sym q) (g k l e u))

module _ (net : Netlist) (ordered : Ordered net.cells) (words : ℕ → ℕ) (W : Values) (t : ℕ) (s : List ℕ) where
  -- where pulses are apart, each finds its line with room for it
  pub vacant-at : (F : Format) → Holding F net words W t s → Apart F net W (suc t) → (k : ℕ) → k < length net.cells → shape_at net k ≡ k_delay
      → Vacant F s k (level W (cell_at net.cells k).a (suc t))
  unfolding Vacant
  vacant-at Full H apart k h e = tt
  vacant-at Compact H apart k h e =
      free-vacant (cell_at net.cells k).delay (level W (cell_at net.cells k).a) t s k (H.body.bytes k h e) (H.body.lines k h e) (apart k h e (suc t) (omega arith))

  -- t' shows the next instant's values
  module _ (t' : List ℕ) where
    -- the fault of a cell, by what enters and what is on its way
    crowded-is : (k : ℕ)
        → crowded Compact net s t' k ≡ fault_if (eqb (cell_at net.cells k).kind 34 && (high (now_at Compact t' (cell_at net.cells k).a) && ltb 1 (left_at Compact s k))) 26
    unfolding crowded
    crowded-is k = refl

    crowded-if : (k : ℕ) → Vacant Compact s k (high (now_at Compact t' (cell_at net.cells k).a)) → crowded Compact net s t' k ≡ 0
    unfolding Vacant
    crowded-if k v =
        rw (crowded-is k)
        (by_bool (eqb (cell_at net.cells k).kind 34)
        (λ e.
        by_bool (high (now_at Compact t' (cell_at net.cells k).a)) (λ z. rw (e, z, le-ltb 1 (left_at Compact s k) (v z)) refl) (λ z. rw (e, z) refl))
        (λ e. rw e refl))

    if-crowded : (k : ℕ) → shape_at net k ≡ k_delay → crowded Compact net s t' k ≡ 0 → Vacant Compact s k (high (now_at Compact t' (cell_at net.cells k).a))
    unfolding Vacant
    if-crowded k e z x =
        let q = fault-unless (eqb (cell_at net.cells k).kind 34 && (high (now_at Compact t' (cell_at net.cells k).a) && ltb 1 (left_at Compact s k))) 26 (omega arith)
        (sym (crowded-is k) ∙ z) in
        ltb-false 1 (left_at Compact s k) (rw (eq-eqb (cell_at net.cells k).kind 34 (delay-kind _ e), x) at q)

    module _ (now : (a : ℕ) → a < length net.cells → now_at Compact t' a ≡ W a (suc t)) where
      -- "a pulse enters a line whose pulse hasn't come out"
      pub crowds : Holding Compact net words W t s → (k : ℕ) → k < length net.cells → shape_at net k ≡ k_delay
          → (crowded Compact net s t' k ≡ 0) ↔ Free (cell_at net.cells k).delay (level W (cell_at net.cells k).a) (suc t)
      crowds H k h e =
          let o = delay-looks (kinds net.cells) (length net.cells) k (cell_at net.cells k) e (ordered.looks k h) in
          let q : high (now_at Compact t' (cell_at net.cells k).a) ≡ level W (cell_at net.cells k).a (suc t) = ap high (now (cell_at net.cells k).a o.2) in (
            (λ z.
                vacant-free (cell_at net.cells k).delay (level W (cell_at net.cells k).a) t s k (H.body.bytes k h e) (H.body.lines k h e)
                (rw q at (if-crowded k e z))),
            (λ f.
                crowded-if k
                (rw q (free-vacant (cell_at net.cells k).delay (level W (cell_at net.cells k).a) t s k (H.body.bytes k h e) (H.body.lines k h e) f))),
          )

-- so 26 is not met
pub not-crowded : (F : Format) (net : Netlist) → Ordered net.cells → (words : ℕ → ℕ) (W : Values) (t : ℕ) (s t' : List ℕ)
    → ((a : ℕ) → a < length net.cells → now_at F t' a ≡ W a (suc t)) → Holding F net words W t s → Apart F net W (suc t) → crowding F net s t' ≡ Accepted
unfolding crowding
not-crowded Full net ordered words W t s t' now H apart = refl
not-crowded Compact net ordered words W t s t' now H apart =
    faultless (crowded Compact net s t') 0 (length net.cells)
    (λ k l h.
    by_bool (eqb (cell_at net.cells k).kind 34)
    (λ e.
    let q = delay-shape _ (eqb-true _ _ e) in
    (crowds net ordered words W t s t' now H k (omega arith) q).1 (apart k (omega arith) q (suc t) (omega arith)))
    (λ e. unfold crowded in rw e refl))
