-- A state that holds the values of an instant is never refused by 15; and every state of a run holds them.
use Rattle.model.specs.Refusals.{Accepted}
use Rattle.std.specs.Prelude.{Bool, true, false, not, ◌||◌, ◌≡◌, ◌↔◌, eqb, get_or, take, drop}
use mathlib.Core.List.{List, [], ◌∷◌}
use Rattle.std.proofs.Math.Path.{refl}
use Rattle.std.proofs.Common.{◌∙◌, get_or-drop, le-leb, eq-eqb, ne_eqb, eqb-true}
use Prim.Native.Nat.{ℕ, zero, suc, ◌+◌, ◌-◌, ◌<◌, ◌≤◌, suc-le-suc}
use Rattle.std.proofs.Math.Nat.{add-zero}
use native.Mathlib.Omega.{arith}
use Rattle.std.proofs.Math.ListN.{length}
use Rattle.std.proofs.lemmas.Bool.{eqb-false}
use Rattle.laws.specs.NetlistFile.CellBytes.{zero-run}
use Rattle.model.specs.declared.Cell.{Cell}
use Rattle.model.specs.declared.Format.{Format}
use Rattle.model.specs.declared.Format.TheVariants.{Full, Compact}
use Rattle.model.specs.Circuit.{Netlist, cell_at, no_cell, Sig, Values, level, control, Obeys, shape, k_delay}
use Rattle.model.specs.NetlistFile.{all_zero}
use Rattle.model.specs.State.{flight_of, base, state_size, now_at, before_at, left_at, remaining_byte, remaining_at, most_left, flight, crowded, crowding, line_sound, cell_sound, cells_sound, sound}
use Rattle.model.specs.CircuitPromises.{state_at, earlier, Holds, Free, Apart}
use Rattle.laws.specs.Refusals.Laws.{by_bool, and-of}
use Rattle.laws.specs.Circuit.Ordered.{Ordered}
use Rattle.laws.specs.Circuit.Shapes.{level-bound, start-shape, delay-shape}
use Rattle.laws.specs.State.Lines.{remaining-from, remaining-within, Line}
use Rattle.theory.specs.State.Wires.{remaining-low}
use Rattle.theory.specs.State.Holding.{Clean, Holding}
use Rattle.theory.specs.State.Flight.{number_is}
use Rattle.theory.specs.State.Counters.{apart-less, crowds, not-crowded}
use Rattle.theory.specs.State.Step.{step-now, step-holds, step-length}
use Rattle.theory.specs.State.Begin.{begin-holds, begin-length}

zero-slice : (m j : ℕ) (s : List ℕ) → ((i : ℕ) → j ≤ i → i < j + m → get_or s i 0 ≡ 0) → all_zero (take m (drop j s)) ≡ true
zero-slice m j s h = zero-run m (drop j s) (λ i l. get_or-drop j s i 0 ∙ h (j + i) (omega arith) (omega arith))

implied : (a b : Bool) → (a ≡ true → b ≡ true) → (not a || b) ≡ true
implied true b h = h refl
implied false b h = refl

unless : (a b : Bool) → (a ≡ false → b ≡ true) → (a || b) ≡ true
unless true b h = refl
unless false b h = h refl

-- what is set of a line, by its format
module _ (net : Netlist) (s : List ℕ) (k : ℕ) where
  abbrev c : Cell
  c = cell_at net.cells k

  -- the first byte of the start's line
  first-low : (F : Format) → Clean F net s k → (c.kind ≡ 32 → remaining_at F s k ≤ net.pulse - 1) → eqb c.kind 34 ≡ false
      → remaining_at F s k ≤ most_left F net.pulse c
  first-low F d left e =
      by_bool (eqb c.kind 32) (λ z. rw z (left (eqb-true _ _ z)))
      (λ z.
      rw z
      (omega (
        arith,
        d.rest (remaining_byte F k) (remaining-from F k) (remaining-within F k) (λ q. absurd (eqb-false c.kind 34 e q))
            (λ q. absurd (eqb-false c.kind 32 z q)),
      )))

  line-sound : (F : Format) → Clean F net s k → (c.kind ≡ 34 → Line F s k c.delay) → (c.kind ≡ 32 → remaining_at F s k ≤ net.pulse - 1)
      → line_sound F net.pulse c s k ≡ true
  unfolding line_sound Line remaining_byte
  line-sound Full d l left =
      and-of (zero-slice 2 (base Full k + 6) s (λ i x y. d.rest i (omega arith) (omega arith) (λ e. omega arith) (λ e q. omega arith)))
      (unless _ _
      (λ e.
      and-of (le-leb _ _ (first-low Full d left e))
      (zero-slice 31 (base Full k + 9) s
      (λ i x y. d.rest i (omega arith) (omega arith) (λ z. absurd (eqb-false c.kind 34 e z)) (λ z q. omega arith)))))
  line-sound Compact d l left =
      and-of
      (le-leb (left_at Compact s k) _ (by_bool (eqb c.kind 34) (λ e. rw e (l (eqb-true _ _ e))) (λ e. rw e (first-low Compact d left e))))
      (eq-eqb (get_or s (base Compact k + 7) 0) 0 (d.rest (base Compact k + 7) (omega arith) (omega arith) (λ z. omega arith) (λ z q. omega arith)))

module _ (F : Format) where
  module _ (net : Netlist) (ordered : Ordered net.cells) (starts : Sig) (words : ℕ → ℕ) (W : Values) (obeys : Obeys net starts words W) (t : ℕ) (s : List ℕ)
      (H : Holding F net words W t s) where
    earlier-le : (k : ℕ) → k < length net.cells → control (cell_at net.cells k).kind ≡ true → (t : ℕ) → earlier W k t ≤ 1
    unfolding earlier
    earlier-le k h e zero = omega arith
    earlier-le k h e (suc t) = level-bound net starts words W obeys k h e t

    sound-at : (k : ℕ) → k < length net.cells → cell_sound F net.pulse (cell_at net.cells k) s k ≡ true
    unfolding cell_sound
    sound-at k h =
        let d = H.body.clean k h in
        and-of
        (implied _ _ (λ e.
        and-of
        (le-leb (now_at F s k) 1 (rw (H.body.present k h) (level-bound net starts words W obeys k h e t)))
        (le-leb (before_at F s k) 1 (rw (H.body.past k h) (earlier-le k h e t)))))
        (and-of
        (and-of
        (le-leb _ _ (rw (eq-eqb (base F k + 4) (base F k + 4) refl) at (d.bits (base F k + 4) (omega arith) (omega arith))))
        (le-leb _ _ (rw (ne_eqb (base F k + 5) (base F k + 4) (λ z. omega arith)) at (d.bits (base F k + 5) (omega arith) (omega arith)))))
        (line-sound net s k F d (λ e. H.body.bytes k h (delay-shape _ e))
        (λ e. rw (H.body.remaining k h (start-shape _ e)) (remaining-low net.pulse (level W k) (suc t)))))

    sound-cells : (cs : List Cell) (k : ℕ) → ((i : ℕ) → i < length cs → cell_sound F net.pulse (get_or cs i no_cell) s (k + i) ≡ true)
        → cells_sound F net.pulse cs s k ≡ true
    unfolding cells_sound
    sound-cells [] k h = refl
    sound-cells (c ∷ cs) k h =
        and-of (rw add-zero at (h 0 (omega arith)))
        (sound-cells cs (k + 1)
        (λ i l.
        let e : k + 1 + i ≡ k + suc i = omega arith in
        rw e (h (suc i) (suc-le-suc l))))

    pub sound-held : sound F net s ≡ true
    unfolding sound
    sound-held =
        and-of (eq-eqb (flight_of s) (flight F net s) H.number)
        (sound-cells net.cells 0
        (λ i l.
        let e : 0 + i ≡ i = omega arith in
        rw e (sound-at i l)))

    pub holds : Holds F net words W t s
    holds =
        record {
          instant = H.instant;
          number = number_is F net ordered words W t s H;
          present = H.body.present;
          past = H.body.past;
          held = H.body.held;
          lines = H.body.lines;
          remaining = H.body.remaining;
          elements = H.body.elements;
          proper = sound-held;
        }

  -- every state of a run
  module _ (net : Netlist) (ordered : Ordered net.cells) (starts : Sig) (words : ℕ → ℕ) (W : Values) (obeys : Obeys net starts words W) (pulse : starts 0 ≡ true)
      (lent : List ℕ) (room : state_size F net ≤ length lent) where
    run_holds : (t : ℕ) → Apart F net W t
        → Holding F net words W t (state_at F net starts words lent t) × (length (state_at F net starts words lent t) ≡ length lent)
    unfolding state_at
    run_holds zero apart = (begin-holds F net ordered starts words W obeys pulse lent room, begin-length F net ordered starts words W obeys pulse lent room)
    run_holds (suc t) apart =
        let r = run_holds t (apart-less F net W t (suc t) (omega arith) apart) in
        let s = state_at F net starts words lent t in
        let m : state_size F net ≤ length s = omega (arith, r.1) in
        (step-holds F net ordered starts words W obeys t s r.0 m apart, step-length F net ordered starts words W obeys t s r.0 m ∙ r.1)

    pub states : (t : ℕ) → Apart F net W t → Holds F net words W t (state_at F net starts words lent t)
    states t apart = holds net ordered starts words W obeys t (state_at F net starts words lent t) (run_holds t apart).0

    -- the values of the next instant, and that 26 is not met before it
    module _ (t : ℕ) (apart : Apart F net W t) where
      pub states-next : (k : ℕ) → k < length net.cells → now_at F (state_at F net starts words lent (suc t)) k ≡ W k (suc t)
      unfolding state_at
      states-next =
          let r = run_holds t apart in
          step-now F net ordered starts words W obeys t (state_at F net starts words lent t) r.0 (omega (arith, r.1))

      pub states-free : Apart F net W (suc t) → crowding F net (state_at F net starts words lent t) (state_at F net starts words lent (suc t)) ≡ Accepted
      states-free = not-crowded F net ordered words W t (state_at F net starts words lent t) (state_at F net starts words lent (suc t)) states-next (run_holds t apart).0

-- where a compact state meets 26
pub states-crowds : (net : Netlist) → Ordered net.cells → (starts : Sig) (words : ℕ → ℕ) (W : Values) → Obeys net starts words W → starts 0 ≡ true
    → (lent : List ℕ) → state_size Compact net ≤ length lent → (t : ℕ) → Apart Compact net W t → (k : ℕ) → k < length net.cells → shape (cell_at net.cells k).kind ≡ k_delay
    → (crowded Compact net (state_at Compact net starts words lent t) (state_at Compact net starts words lent (suc t)) k ≡ 0)
    ↔ Free (cell_at net.cells k).delay (level W (cell_at net.cells k).a) (suc t)
states-crowds net ordered starts words W obeys pulse lent room t apart =
    crowds net ordered words W t (state_at Compact net starts words lent t) (state_at Compact net starts words lent (suc t))
    (states-next Compact net ordered starts words W obeys pulse lent room t apart) (run_holds Compact net ordered starts words W obeys pulse lent room t apart).0
