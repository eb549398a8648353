-- The published circuit of an accepted program keeps the rules' time from each of its start pulses on: its finish wire is high exactly when a finish is
-- due, from the end on its memories and its arrays have the last words, a gap later nothing is in flight, and before the end something is.
-- Assumes nothing.
use Prim.Native.Nat.{ℕ, zero, suc, ◌+◌, ◌-◌, ◌≤◌, ◌<◌}
use Rattle.std.specs.Prelude.{◌≡◌, Bool, ◌||◌, ◌↔◌, length}
use Rattle.std.proofs.Math.Path.{refl, sym, ap, ap₂, subst}
use Rattle.std.proofs.Common.{◌∙◌}
use Rattle.std.proofs.Math.Bool.{true, false, not, or-true}
use native.Mathlib.Omega.{arith}
use borrow.Author.Tests.{eq-eqb, ne_eqb, eqb-true}
use Rattle.model.specs.Word.{pick, is_zero, index, element_word}
use Rattle.model.specs.declared.Merge.{Merge}
use Rattle.model.specs.declared.Merged.{Merged}
use Rattle.model.specs.declared.Format.TheVariants.{Compact}
use Rattle.model.specs.Program.{Program, gap}
use Rattle.model.specs.Procedures.{body_at, meaning}
use Rattle.model.specs.Rules.{imperative, Store, ended, still, run, due}
use Rattle.model.specs.Circuit.{Sig, Values, cell_at, level, element, delayed, remaining_step, remaining_before, pulses, held_before, merges, step_of, Obeys}
use Rattle.model.specs.Numbering.{netlist, circuit_of, finish, array_cell, memory_at}
use Rattle.model.specs.CircuitPromises.{held_of, Idle, NoStart, Apart}
use Rattle.laws.specs.Circuit.Shapes.{delay-kind, delay-shape, merge-shape, return-shape, of-merge, of-return, by-merge}
use Rattle.laws.specs.Refusals.Laws.{by_le}
use Rattle.laws.specs.Program.Widths.{gap-least}
use Rattle.laws.specs.Program.Admitted.{Admitted}
use Rattle.theory.specs.State.Wires.{start-remaining}
use Rattle.theory.specs.Control.Signal.{Clear, delayed-at, delayed-off}
use Rattle.theory.specs.Control.Merge.{Empty}
use Rattle.theory.specs.Control.Returns.{NoCall, call-is}
use Rattle.theory.specs.Control.Pulses.{Pulse}
use Rattle.theory.specs.Control.Calm.{Resting, Sofar}
use Rattle.theory.specs.Control.Bodies.{BodySofar}
use Rattle.theory.specs.Control.History.{Spaced}
use Rattle.theory.specs.Control.Standing.{Signals, world, Standing, stands-first, stands-sofar, stands-lines, stands-finish, stands-alive, stands-words, stands-rest, stands-again}
use Rattle.theory.specs.Numbering.Whole.{showing, shows, shows-element, start_of, start-main, start_is, finish_wire_of, finish-main, main-is, begin-is, signals}
use Rattle.theory.specs.Numbering.Given.{g, follows, silent}
use Rattle.theory.specs.Numbering.Flying.{OfCell}
use Rattle.theory.specs.Numbering.Cellwise.{of-netlist}

-- a delay that is clear, by its last inputs
clear_of : (d : ℕ) (x : Sig) (t : ℕ) → ((i : ℕ) → i < d → delayed i x t ≡ false) → Clear d x (suc t)
clear_of d x t h v l k = sym (delayed-at (t - v) x v t (omega arith)) ∙ h (t - v) (omega arith)

of-clear : (d : ℕ) (x : Sig) (t : ℕ) → Clear d x (suc t) → (i : ℕ) → i < d → delayed i x t ≡ false
of-clear d x t h i l = delayed-off i x t (λ v e. h v (omega arith) (omega arith))

-- how many high instants remain of a pulse that comes at a, while no other comes
module _ (w : ℕ) (starts : Sig) where
  next-left : (t r : ℕ) (b : Bool) → remaining_before w starts t ≡ r → starts t ≡ b → remaining_before w starts (suc t) ≡ remaining_step w r b
  unfolding remaining_before
  next-left t r b e d = ap₂ (remaining_step w) e d

  one_less : (n : ℕ) → remaining_step w (w - suc n) false ≡ w - suc (suc n)
  unfolding remaining_step
  one_less n = go (is_zero (w - suc n)) refl
    where
      go : (z : Bool) → is_zero (w - suc n) ≡ z → pick z (pick false (w - 1) 0) (w - suc n - 1) ≡ w - suc (suc n)
      go true e = omega (arith, eqb-true (w - suc n) 0 e)
      go false e = omega arith

  left : (a t n : ℕ) → a + n ≤ t → remaining_before w starts a ≡ 0 → starts a ≡ true → NoStart starts a t → remaining_before w starts (suc (a + n)) ≡ w - suc n
  left a t zero l low pulse none =
      let q : a ≡ a + 0 = omega arith in
      subst (λ (k : ℕ). remaining_before w starts (suc k) ≡ w - 1) q (next-left a 0 true low pulse ∙ (unfold remaining_step in refl))
  left a t (suc n) l low pulse none =
      let q : suc (a + n) ≡ a + suc n = omega arith in
      next-left (a + suc n) (w - suc n) false (subst (λ (k : ℕ). remaining_before w starts k ≡ w - suc n) q (left a t n (omega arith) low pulse none))
      (none (a + suc n) (omega arith) (omega arith))
      ∙ one_less n

module _ (S : Program) (A : Admitted S) (starts : Sig) (σ₀ : Store) (W : Values) (obeys : Obeys (circuit_of S) starts σ₀ W) where
  abbrev G : Signals S
  G = signals S A starts σ₀ W obeys

  abbrev last : ℕ
  last = length S.bodies

  abbrev s : Sig
  s = level W (start_of S A starts σ₀ W obeys last)

  abbrev f : Sig
  f = level W (finish_wire_of S A starts σ₀ W obeys S.main last)

  starts-at : (t : ℕ) → s t ≡ pulses S.pulse starts t
  starts-at t = ap (λ (k : ℕ). level W k t) (start-main S A starts σ₀ W obeys) ∙ start_is S A starts σ₀ W obeys t

  finish-at : (t : ℕ) → level W (finish S) t ≡ f t
  finish-at t = ap (λ (k : ℕ). level W k t) (finish-main S A starts σ₀ W obeys)

  -- nothing is in flight, in the circuit and in the netlist's cells
  abbrev Rests : ℕ → Type 0
  Rests t =
      Resting (world S A G) S.main s f (g S A starts σ₀ W obeys) (main-is S A starts σ₀ W obeys) (suc t)
      × ((q : ℕ) → q < last → Resting (world S A G) (body_at S.bodies q) (G.all.calls q) (G.ret q) (G.each q) (G.built q) (suc t))

  abbrev w : ℕ
  w = S.pulse

  merge-held : (k t : ℕ) → OfCell (λ d s. Clear d s (suc t)) (λ f₁ f₂. Empty w f₁ f₂ (suc t)) (λ f₁ f₂. NoCall w f₁ f₂ (suc t)) W k (cell_at (netlist S) k)
      → merges (cell_at (netlist S) k).kind ≡ true → held_of (circuit_of S) W t k ≡ record { a = false; b = false }
  unfolding step_of
  merge-held k t o e =
      let c = cell_at (netlist S) k in
      let held : ℕ → Merge = λ j. held_before (step_of w j) (level W c.a) (level W c.b) (suc t) in
      by-merge c.kind e
      (λ q. ap held q ∙ o.merge q)
      (λ q. ap held q ∙ ap (λ (m : Merged). m.held) (call-is w _ _ (suc t)) ∙ ap (λ (x : Bool). record { a = x; b = false }) (o.answer q))

  -- the start is none of them
  cells_of : (t : ℕ) → Rests t ↔ ((k : ℕ) → k < length (netlist S)
      → OfCell (λ d s. Clear d s (suc t)) (λ f₁ f₂. Empty w f₁ f₂ (suc t)) (λ f₁ f₂. NoCall w f₁ f₂ (suc t)) W k (cell_at (netlist S) k))
  cells_of t =
      of-netlist (λ d s. Clear d s (suc t)) (λ f₁ f₂. Empty w f₁ f₂ (suc t)) (λ f₁ f₂. NoCall w f₁ f₂ (suc t)) W (λ s v l k. absurd (omega arith)) S A starts
      σ₀ obeys

  rests-idle : (t : ℕ) → Rests t → remaining_before w starts (suc t) ≡ 0 → Idle (circuit_of S) W t
  rests-idle t e none =
      record {
        delays = λ k l q. of-clear _ _ t (((cells_of t).0 e k l).delay (delay-kind _ q));
        held = λ k l q. merge-held k t ((cells_of t).0 e k l) q;
        start = λ k l q. start-remaining (circuit_of S) starts σ₀ W obeys k l q (suc t) ∙ none;
      }

  idle-rests : (t : ℕ) → Idle (circuit_of S) W t → Rests t
  unfolding step_of
  idle-rests t I =
      (cells_of t).1
      (λ k l.
      let c = cell_at (netlist S) k in
      let held : ℕ → Merge = λ j. held_before (step_of w j) (level W c.a) (level W c.b) (suc t) in
      record {
        delay = λ q. clear_of _ _ t (I.delays k l (delay-shape _ q));
        merge = λ q. sym (ap held q) ∙ I.held k l (of-merge w _ (merge-shape _ q)).0;
        answer = λ q.
            ap (λ (m : Merge). m.a)
            (sym (ap (λ (m : Merged). m.held) (call-is w _ _ (suc t))) ∙ sym (ap held q) ∙ I.held k l (of-return w _ (return-shape _ q)).0);
      })

  -- a run from σ begins at a: a pulse comes, and none is still high
  pub record Began (σ : Store) (a : ℕ) : Type 0 where
    pub stands : Standing S A G s f (g S A starts σ₀ W obeys) (main-is S A starts σ₀ W obeys) (follows S A starts σ₀ W obeys) (silent S A starts σ₀ W obeys) σ a
    pub pulse : starts a ≡ true
    pub low : remaining_before w starts a ≡ 0

  pub run-first : starts 0 ≡ true → Began σ₀ 0
  unfolding remaining_before
  run-first pulse =
      record {
        stands =
            stands-first S A G s f (g S A starts σ₀ W obeys) (main-is S A starts σ₀ W obeys) (follows S A starts σ₀ W obeys) (silent S A starts σ₀ W obeys)
            σ₀ (begin-is S A starts σ₀ W obeys);
        pulse = pulse;
        low = refl;
      }

  -- the words that memories and arrays show
  module _ (t : ℕ) (τ : Store) (words : (x : ℕ) → showing S σ₀ W t x ≡ τ x) where
    pub shown-word : (x : ℕ) → x < 16 → W (memory_at S + x) t ≡ τ x
    shown-word x l = sym (shows S σ₀ W x t l) ∙ words x

    pub shown-element : (k i : ℕ) → k < 4 → element (netlist S) σ₀ W (array_cell (memory_at S) k) (index i) t ≡ τ (element_word k i)
    shown-element k i l = sym (shows-element S σ₀ W k i t l) ∙ words (element_word k i)

  -- up to t no other has begun
  module _ (σ : Store) (a t : ℕ) (T : Began σ a) (since : a ≤ t) (none : NoStart starts a t) where
    -- "Start is high for w instants"
    remains : (n : ℕ) → a + n ≤ t → remaining_before w starts (suc (a + n)) ≡ w - suc n
    remains n l = left w starts a t n l T.low T.pulse none

    quiet : Pulse w s a (suc t)
    unfolding pulses
    quiet =
        record {
          high = λ u l h k.
              starts-at u
              ∙ by_le u a (λ o. let q : a ≡ u = omega arith in ap (λ (b : Bool). b || not (is_zero (remaining_before w starts u))) (subst (λ (v : ℕ). starts v ≡ true) q T.pulse))
              (λ o.
              let q : suc (a + (u - suc a)) ≡ u = omega arith in
              let r = subst (λ (v : ℕ). remaining_before w starts v ≡ w - suc (u - suc a)) q (remains (u - suc a) (omega arith)) in
              ap (λ (b : Bool). starts u || not b) (ne_eqb (remaining_before w starts u) 0 (λ z. omega (arith, r))) ∙ or-true (starts u));
          low = λ u l h.
              let p = A.pulse.0 in
              let q : suc (a + (u - suc a)) ≡ u = omega arith in
              let r = subst (λ (v : ℕ). remaining_before w starts v ≡ w - suc (u - suc a)) q (remains (u - suc a) (omega arith)) in
              starts-at u
              ∙ ap₂ (λ (x y : Bool). x || not y) (none u (omega arith) (omega arith)) (eq-eqb (remaining_before w starts u) 0 (omega (arith, r)));
        }

    pub finish-due : level W (finish S) t ≡ due (imperative S.pulse) w (meaning S) σ (t - a)
    finish-due =
        finish-at t
        ∙ stands-finish S A G s f (g S A starts σ₀ W obeys) (main-is S A starts σ₀ W obeys) (follows S A starts σ₀ W obeys) (silent S A starts σ₀ W obeys)
        σ a t T.stands since quiet

    -- every word that was used had been held since its pulse entered the delay
    pub words-held : Sofar (world S A G) S.main s f (g S A starts σ₀ W obeys) (main-is S A starts σ₀ W obeys) (suc t)
        × ((q : ℕ) → q < last → BodySofar (world S A G) q (suc t))
    words-held =
        stands-sofar S A G s f (g S A starts σ₀ W obeys) (main-is S A starts σ₀ W obeys) (follows S A starts σ₀ W obeys) (silent S A starts σ₀ W obeys)
        σ a t T.stands since quiet

    -- no pulse has entered a line whose pulse hadn't come out
    pub lines-apart : w ≡ 1 → Apart Compact (circuit_of S) W t
    lines-apart one k l q v m u o x y =
        ((of-netlist (λ d s. Spaced w d s (suc t)) (λ f₁ f₂. Unit {0}) (λ f₁ f₂. Unit {0}) W (λ s one u v l k x y. omega arith) S A starts σ₀ obeys).0
        (stands-lines S A G s f (g S A starts σ₀ W obeys) (main-is S A starts σ₀ W obeys) (follows S A starts σ₀ W obeys) (silent S A starts σ₀ W obeys)
        σ a t T.stands since quiet)
        k l).delay (delay-kind _ q) one u v o (omega arith) x y

    pub still-busy : run (imperative S.pulse) (t - a) (meaning S) σ ≡ still → Idle (circuit_of S) W t → ⊥
    still-busy p I =
        stands-alive S A G s f (g S A starts σ₀ W obeys) (main-is S A starts σ₀ W obeys) (follows S A starts σ₀ W obeys) (silent S A starts σ₀ W obeys)
        σ a t T.stands since quiet p (idle-rests t I).0

    -- from its end on
    module _ (e : ℕ) (σ' : Store) (p : run (imperative S.pulse) e (meaning S) σ ≡ ended e σ') (past : a + e ≤ t) where
      pub last-words : (x : ℕ) → showing S σ₀ W t x ≡ σ' x
      last-words =
          stands-words S A G s f (g S A starts σ₀ W obeys) (main-is S A starts σ₀ W obeys) (follows S A starts σ₀ W obeys) (silent S A starts σ₀ W obeys)
          σ a t T.stands since quiet e σ' p past

    -- from a gap after its end on
    module _ (e : ℕ) (σ' : Store) (p : run (imperative S.pulse) e (meaning S) σ ≡ ended e σ') (past : a + e + gap w ≤ suc t) where
      none-remains : remaining_before w starts (suc t) ≡ 0
      none-remains =
          let o = gap-least w A.pulse.0 in
          let q : a + (t - a) ≡ t = omega arith in
          subst (λ (v : ℕ). remaining_before w starts (suc v) ≡ 0) q (remains (t - a) (omega arith) ∙ omega arith)

      pub ended-idle : Idle (circuit_of S) W t
      ended-idle =
          rests-idle t
          (stands-rest S A G s f (g S A starts σ₀ W obeys) (main-is S A starts σ₀ W obeys) (follows S A starts σ₀ W obeys) (silent S A starts σ₀ W obeys)
          σ a t T.stands since quiet e σ' p past)
          none-remains

      pub run-again : starts (suc t) ≡ true → Began σ' (suc t)
      run-again pulse =
          record {
            stands =
                stands-again S A G s f (g S A starts σ₀ W obeys) (main-is S A starts σ₀ W obeys) (follows S A starts σ₀ W obeys)
                (silent S A starts σ₀ W obeys) σ a t T.stands since quiet e σ' p past;
            pulse = pulse;
            low = none-remains;
          }
