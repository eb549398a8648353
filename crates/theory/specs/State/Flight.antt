-- The number in flight: a state that tells it, and what it tells of the values. A state whose bytes are the same holds the same.
-- Assumes nothing.
use Rattle.std.specs.Prelude.{Bool, true, false, ◌↔◌, ◌≡◌, eqb, get_or}
use mathlib.Core.List.{List, [], ◌∷◌}
use Rattle.std.proofs.Common.{inr, sym, ◌∙◌, ap₂, eqb-true, eq-eqb}
use Rattle.std.proofs.Math.Path.{refl, ap}
use Prim.Native.Nat.{ℕ, zero, suc, ◌+◌, ◌*◌, ◌<◌, ◌≤◌, suc-le-suc}
use Rattle.std.proofs.Math.Nat.{add-zero}
use native.Mathlib.Omega.{arith}
use Rattle.std.proofs.Math.ListN.{length}
use Rattle.model.specs.declared.Cell.{Cell}
use Rattle.model.specs.declared.Format.{Format}
use Rattle.model.specs.declared.Merge.{Merge}
use Rattle.model.specs.Word.{bit}
use Rattle.model.specs.Circuit.{Netlist, cell_at, Values, merges}
use Rattle.model.specs.State.{instant_of, flight_of, ones, held_bits, in_flight, flight_in, cell_size, state_size, base, element_base, element_now, now_at, before_at, held_at, line_at, remaining_byte, remaining_at, flight, counted}
use Rattle.model.specs.CircuitPromises.{line_of, held_of, remaining_of, kept, Holds, Idle}
use Rattle.laws.specs.Refusals.Laws.{by_bool, by_le}
use Rattle.laws.specs.Circuit.Ordered.{kinds, Ordered}
use Rattle.laws.specs.Circuit.Shapes.{start-kind, start-shape, delay-kind, delay-shape, by-merge}
use Rattle.laws.specs.State.Bytes.{get16-same, get32-same}
use Rattle.laws.specs.State.Lines.{least, below, remaining-from, remaining-within, kept-all, Line, line_same, kept_same}
use Rattle.laws.specs.State.Passes.{same-held, counted-other}
use Rattle.laws.specs.State.Flight.{delay-low, cell_same, cell_flight, sum_same, flight-same, counted_same, counted-tells}
use Rattle.theory.specs.State.Holding.{Clean, Body, Holding}

-- Sums that are 0 ---------------------------------------------------------------------------------------------------------------------

-- a sum is 0 where all that is added is, and only there
ones_none : (l : ℕ → ℕ) (d : ℕ) → ((i : ℕ) → i < d → l i ≡ 0) → ones l d ≡ 0
unfolding ones
ones_none l zero h = refl
ones_none l (suc d) h = omega (arith, ones_none l d (λ i g. h i (omega arith)), h d (omega arith))

pub none-ones : (l : ℕ → ℕ) (d : ℕ) → ones l d ≡ 0 → (i : ℕ) → i < d → l i ≡ 0
unfolding ones
none-ones l zero h i b = absurd (omega arith)
none-ones l (suc d) h i b =
    by_le d i
    (λ g.
    let e : i ≡ d = omega arith in
    rw e (omega arith))
    (λ g. none-ones l d (omega arith) i g)

module _ (l : ℕ → ℕ → ℕ) (g : ℕ → Merge) (p : ℕ → ℕ) where
  sum-none : (cs : List Cell) (k : ℕ) → ((i : ℕ) → i < length cs → cell_flight l g p cs k i ≡ 0) → flight_in l g p cs k ≡ 0
  unfolding flight_in
  sum-none [] k h = refl
  sum-none (c ∷ cs) k h =
      let x : in_flight (l k) (g k) (p k) c ≡ 0 = rw add-zero at (h 0 (omega arith)) in
      let y : flight_in l g p cs (k + 1) ≡ 0 =
      sum-none cs (k + 1)
      (λ i b.
      let e : k + 1 + i ≡ k + suc i = omega arith in
      rw e (h (suc i) (suc-le-suc b))) in
      omega arith

  pub none-sum : (cs : List Cell) (k : ℕ) → flight_in l g p cs k ≡ 0 → (i : ℕ) → i < length cs → cell_flight l g p cs k i ≡ 0
  unfolding flight_in
  none-sum [] k h i b = absurd (omega arith)
  none-sum (c ∷ cs) k h zero b = rw add-zero (omega arith)
  none-sum (c ∷ cs) k h (suc i) b =
      let e : k + 1 + i ≡ k + suc i = omega arith in
      rw e at (none-sum cs (k + 1) (omega arith) i (omega arith))

no-bit : (b : Bool) → bit b ≡ 0 → b ≡ false
unfolding bit
no-bit true e = absurd (omega arith)
no-bit false e = refl

bit-none : (b : Bool) → b ≡ false → bit b ≡ 0
unfolding bit
bit-none b e = rw e

no_bits : (m : Merge) → held_bits m ≡ 0 → m ≡ record { a = false; b = false }
no_bits m e = ap₂ (λ (p q : Bool). record { a = p; b = q }) (no-bit m.a (omega arith)) (no-bit m.b (omega arith))

module _ (l : ℕ → ℕ) (m : Merge) (x : ℕ) (c : Cell) where
  pub delay-none : c.kind ≡ 34 → in_flight l m x c ≡ 0 → ones l c.delay ≡ 0
  unfolding in_flight
  delay-none q h = rw (eq-eqb _ _ q) at h

  merge_none : merges c.kind ≡ true → in_flight l m x c ≡ 0 → held_bits m ≡ 0
  unfolding in_flight merges
  merge_none e h = by-merge c.kind e (λ q. rw q at h) (λ q. rw q at h)

  start_none : c.kind ≡ 32 → in_flight l m x c ≡ 0 → x ≡ 0
  unfolding in_flight merges
  start_none q h = rw q at h

  cell-none : (c.kind ≡ 34 → ones l c.delay ≡ 0) → (merges c.kind ≡ true → held_bits m ≡ 0) → (c.kind ≡ 32 → x ≡ 0) → in_flight l m x c ≡ 0
  unfolding in_flight
  cell-none p q r =
      by_bool (eqb c.kind 34) (λ e. rw e (p (eqb-true _ _ e)))
      (λ e.
      by_bool (merges c.kind) (λ f. rw (e, f) (q f))
      (λ f. by_bool (eqb c.kind 32) (λ z. rw (e, f, z) (r (eqb-true _ _ z))) (λ z. rw (e, f, z) refl)))

module _ (F : Format) where
  -- A state whose bytes are the same holds the same ---------------------------------------------------------------------------------------

  module _ (net : Netlist) (s u : List ℕ) (same : (j : ℕ) → 8 ≤ j → j < state_size F net → get_or u j 0 ≡ get_or s j 0) where
    -- the bytes of cell k
    within : (k : ℕ) → k < length net.cells → (j : ℕ) → base F k ≤ j → j < base F k + cell_size F → get_or u j 0 ≡ get_or s j 0
    within k h j x y = same j (omega arith) (omega (arith, below F k (length net.cells) h))

    same-clean : (k : ℕ) → k < length net.cells → Clean F net s k → Clean F net u k
    same-clean k h d =
        record {
          rest = λ j x y z q. within k h j (omega arith) y ∙ d.rest j x y z q;
          bits = λ j x y. rw (within k h j (omega arith) (omega (arith, least F))) (d.bits j x y);
        }

    same-now : (k : ℕ) → k < length net.cells → now_at F u k ≡ now_at F s k
    same-now k h = get16-same s u (base F k) (within k h (base F k) (omega arith) (omega (arith, least F))) (within k h (base F k + 1) (omega arith) (omega (arith, least F)))

    same-before : (k : ℕ) → k < length net.cells → before_at F u k ≡ before_at F s k
    same-before k h =
        get16-same s u (base F k + 2) (within k h (base F k + 2) (omega arith) (omega (arith, least F)))
        (within k h (base F k + 2 + 1) (omega arith) (omega (arith, least F)))

    same_bits : (k : ℕ) → k < length net.cells → held_at F u k ≡ held_at F s k
    same_bits k h =
        same-held F k u s (within k h (base F k + 4) (omega arith) (omega (arith, least F))) (within k h (base F k + 5) (omega arith) (omega (arith, least F)))

    same_line : (k : ℕ) → k < length net.cells → (i : ℕ) → i < kept F (cell_at net.cells k).delay → line_at F net u k i ≡ line_at F net s k i
    same_line k h i g = line_same s u k (cell_at net.cells k).delay F (λ j x y. within k h j (omega arith) y) i g

    same_bytes : (k : ℕ) → k < length net.cells → Line F s k (cell_at net.cells k).delay → Line F u k (cell_at net.cells k).delay
    same_bytes k h l = kept_same s u k (cell_at net.cells k).delay F (λ j x y. within k h j (omega arith) y) l

    same-element : (n : ℕ) → n < 256 → element_now F net u n ≡ element_now F net s n
    same-element n l =
        get16-same s u (element_base F net n) (same (element_base F net n) (omega arith) (omega arith)) (same (element_base F net n + 1) (omega arith) (omega arith))

    same_body : (words : ℕ → ℕ) (W : Values) (t : ℕ) → Body F net words W t s → Body F net words W t u
    same_body words W t B =
        record {
          present = λ k h. same-now k h ∙ B.present k h;
          past = λ k h. same-before k h ∙ B.past k h;
          held = λ k h e. same_bits k h ∙ B.held k h e;
          remaining = λ k h e.
              within k h (remaining_byte F k) (omega (arith, remaining-from F k)) (remaining-within F k) ∙ B.remaining k h e;
          lines = λ k h e i g. same_line k h i g ∙ B.lines k h e i g;
          elements = λ a i la li. same-element (64 * a + i) (omega arith) ∙ B.elements a i la li;
          bytes = λ k h e. same_bytes k h (B.bytes k h e);
          clean = λ k h. same-clean k h (B.clean k h);
        }

    same-flight : Ordered net.cells → flight F net u ≡ flight F net s
    same-flight o = flight-same F net o s u (λ k j l a b. within k l j (omega arith) b)

  module _ (net : Netlist) (ordered : Ordered net.cells) where
    pub same-holds : (s u : List ℕ) → ((j : ℕ) → j < state_size F net → get_or u j 0 ≡ get_or s j 0) → (words : ℕ → ℕ) (W : Values) (t : ℕ)
        → Holding F net words W t s → Holding F net words W t u
    same-holds s u same words W t H =
        record {
          instant = λ l. get32-same s u 0 (λ j x y. same j (omega arith)) ∙ H.instant l;
          number = get32-same s u 4 (λ j x y. same j (omega arith)) ∙ H.number ∙ sym (same-flight net s u (λ j l h. same j h) ordered);
          body = same_body net s u (λ j l h. same j h) words W t H.body;
        }

    -- a state into which its number is put
    pub counted-holds : (words : ℕ → ℕ) (W : Values) (t : ℕ) (s : List ℕ) → state_size F net ≤ length s → (t ≤ 1000000 → instant_of (counted F net s) ≡ t)
        → Body F net words W t s → Holding F net words W t (counted F net s)
    counted-holds words W t s room e B =
        record {
          instant = e;
          number = counted-tells F net ordered s (omega arith) ∙ sym (counted_same F net ordered s);
          body = same_body net s (counted F net s) (λ j l h. counted-other F net s j (inr l)) words W t B;
        }

    -- the number, by the values
    pub number_is : (words : ℕ → ℕ) (W : Values) (t : ℕ) (s : List ℕ) → Holding F net words W t s
        → flight_of s ≡ flight_in (line_of net W t) (held_of net W t) (remaining_of net W t) net.cells 0
    number_is words W t s H =
        H.number
        ∙ sum_same (line_at F net s) (line_of net W t) (held_at F s) (held_of net W t) (remaining_at F s) (remaining_of net W t) net.cells 0
        (λ k l.
        let e : 0 + k ≡ k = omega arith in
        rw e
        (cell_same (line_at F net s k) (line_of net W t k) (held_at F s k) (held_of net W t k) (remaining_at F s k) (remaining_of net W t k) (cell_at net.cells k)
        (λ q i b.
        H.body.lines k l (delay-shape _ q) i
        (omega (arith, kept-all F (cell_at net.cells k).delay (delay-low (kinds net.cells) (length net.cells) k (cell_at net.cells k) (cell_at net.cells k).kind q (ordered.looks k l)).1)))
        (λ q. H.body.held k l q) (λ q. H.body.remaining k l (start-shape _ q))))

  -- What the number tells -----------------------------------------------------------------------------------------------------------------

  -- 0 exactly where nothing is in flight, whatever the netlist
  pub number-zero : (net : Netlist) (words : ℕ → ℕ) (W : Values) (t : ℕ) (s : List ℕ) → Holds F net words W t s → (flight_of s ≡ 0) ↔ Idle net W t
  unfolding bit
  number-zero net words W t s H = (
    (λ z.
        let at : (k : ℕ) → k < length net.cells → in_flight (line_of net W t k) (held_of net W t k) (remaining_of net W t k) (cell_at net.cells k) ≡ 0 =
        λ k l.
        let e : 0 + k ≡ k = omega arith in
        rw e at (none-sum (line_of net W t) (held_of net W t) (remaining_of net W t) net.cells 0 (sym H.number ∙ z) k l) in
        record {
          delays = λ k l q i b.
              no-bit _
              (none-ones (line_of net W t k) (cell_at net.cells k).delay
              (delay-none (line_of net W t k) (held_of net W t k) (remaining_of net W t k) (cell_at net.cells k) (delay-kind _ q) (at k l)) i b);
          held = λ k l q. no_bits _ (merge_none (line_of net W t k) (held_of net W t k) (remaining_of net W t k) (cell_at net.cells k) q (at k l));
          start = λ k l q. start_none (line_of net W t k) (held_of net W t k) (remaining_of net W t k) (cell_at net.cells k) (start-kind _ q) (at k l);
        }),
    (λ I.
        H.number
        ∙ sum-none (line_of net W t) (held_of net W t) (remaining_of net W t) net.cells 0
        (λ k l.
        let e : 0 + k ≡ k = omega arith in
        rw e
        (cell-none (line_of net W t k) (held_of net W t k) (remaining_of net W t k) (cell_at net.cells k)
        (λ q. ones_none (line_of net W t k) (cell_at net.cells k).delay (λ i b. bit-none _ (I.delays k l (delay-shape _ q) i b)))
        (λ q. ap held_bits (I.held k l q)) (λ q. I.start k l (start-shape _ q))))),
  )
