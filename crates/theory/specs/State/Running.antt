-- Continuing along a run: what a state holds, what is evaluated, and where it stops; where pulses are apart 26 does not end it.
-- Assumes nothing.
use Rattle.model.specs.Refusals.{Accepted}
use Rattle.std.specs.Prelude.{Bool, List, ◌≡◌, length}
use Rattle.std.proofs.Math.Bool.{true, false}
use Rattle.std.proofs.Math.Path.{refl, ap}
use Rattle.std.proofs.Common.{sym, ◌∙◌, subst}
use Prim.Native.Nat.{ℕ, zero, suc, ◌+◌, ◌-◌, ◌<◌, ◌≤◌}
use native.Mathlib.Omega.{arith}
use Rattle.model.specs.declared.Format.{Format}
use Rattle.model.specs.Circuit.{Netlist, Sig, Values, high, level, Obeys}
use Rattle.model.specs.State.{Course, course, longer, state_size, now_at, step_state, crowding, continued}
use Rattle.model.specs.CircuitPromises.{stops_at, NoStart, Apart}
use Rattle.laws.specs.Refusals.Laws.{by_bool}
use Rattle.laws.specs.Circuit.Ordered.{Ordered}
use Rattle.laws.specs.State.Continuing.{continued-high, continued-low}
use Rattle.theory.specs.State.Holding.{Holding}
use Rattle.theory.specs.State.Counters.{apart-less, not-crowded}
use Rattle.theory.specs.State.Step.{step-holds, step-length}

-- Where it stops ------------------------------------------------------------------------------------------------------------------------

module _ (finishes : ℕ → Bool) (t n : ℕ) where
  pub stops-high : finishes (suc t) ≡ true → stops_at finishes t (suc n) ≡ suc t
  unfolding stops_at
  stops-high h = ap (λ (b : Bool). elim b as (λ z. ℕ) [ true ↦ suc t | false ↦ stops_at finishes (suc t) n ]) h

  pub stops-low : finishes (suc t) ≡ false → stops_at finishes t (suc n) ≡ stops_at finishes (suc t) n
  unfolding stops_at
  stops-low h = ap (λ (b : Bool). elim b as (λ z. ℕ) [ true ↦ suc t | false ↦ stops_at finishes (suc t) n ]) h

-- it stops no earlier, and no later than it is asked to
pub stops-within : (F : ℕ → Bool) (n t : ℕ) → stops_at F t n ≤ t + n
unfolding stops_at
stops-within F zero t = omega arith
stops-within F (suc n) t =
    by_bool (F (suc t)) (λ e. omega (arith, stops-high F t n e)) (λ e. omega (arith, stops-low F t n e, stops-within F n (suc t)))

pub stops-ge : (F : ℕ → Bool) (n t : ℕ) → t ≤ stops_at F t n
unfolding stops_at
stops-ge F zero t = omega arith
stops-ge F (suc n) t = by_bool (F (suc t)) (λ e. omega (arith, stops-high F t n e)) (λ e. omega (arith, stops-low F t n e, stops-ge F n (suc t)))

pub stops-le : (F : ℕ → Bool) (n t : ℕ) → stops_at F t n ≤ t + n
unfolding stops_at
stops-le F zero t = omega arith
stops-le F (suc n) t = by_bool (F (suc t)) (λ e. omega (arith, stops-high F t n e)) (λ e. omega (arith, stops-low F t n e, stops-le F n (suc t)))

-- after the first of its instants, if it has one
stops-on : (F : ℕ → Bool) (n t : ℕ) → suc t ≤ stops_at F t (suc n)
stops-on F n t = by_bool (F (suc t)) (λ e. omega (arith, stops-high F t n e)) (λ e. omega (arith, stops-low F t n e, stops-ge F n (suc t)))

-- the first of its instants has no start
first-none : (starts F : ℕ → Bool) (t n : ℕ) → NoStart starts t (stops_at F t (suc n)) → starts (suc t) ≡ false
first-none starts F t n none = none (suc t) (omega arith) (stops-on F n t)

-- Continuing ---------------------------------------------------------------------------------------------------------------------------

pub record Continued (F : Format) (net : Netlist) (words : ℕ → ℕ) (W : Values) (f t n : ℕ) (s : List ℕ) : Type 0 where
  pub free : (continued F net f n s).check ≡ Accepted
  pub count : (continued F net f n s).count ≡ stops_at (level W f) t n - t
  pub long : length (continued F net f n s).state ≡ length s
  pub holding : Holding F net words W (stops_at (level W f) t n) (continued F net f n s).state

module _ (F : Format) (net : Netlist) (ordered : Ordered net.cells) (starts : Sig) (words : ℕ → ℕ) (W : Values) (obeys : Obeys net starts words W) (f : ℕ)
    (wire : f < length net.cells) where
  abbrev finish : ℕ → Bool
  finish = level W f

  pub continues : (n t : ℕ) (s : List ℕ) → Holding F net words W t s → state_size F net ≤ length s → NoStart starts t (stops_at finish t n)
      → Apart F net W (stops_at finish t n) → Continued F net words W f t n s
  unfolding continued stops_at
  continues zero t s H room none apart = record { free = refl; count = omega arith; long = refl; holding = H }
  continues (suc n) t s H room none apart =
      by_bool (finish (suc t)) (λ e. stop e)
      (λ e.
      let z = stops-low finish t n e in
      on e
      (continues n (suc t) (step_state F net false s) next (omega (arith, len)) (λ u l k. none u (omega arith) (omega (arith, z)))
      (apart-less F net W _ _ (omega (arith, z)) apart)))
    where
      quiet : starts (suc t) ≡ false
      quiet = first-none starts finish t n none

      soon : Apart F net W (suc t)
      soon = apart-less F net W _ _ (stops-on finish n t) apart

      next : Holding F net words W (suc t) (step_state F net false s)
      next =
          subst (λ (x : Bool). Holding F net words W (suc t) (step_state F net x s)) quiet
          (step-holds F net ordered starts words W obeys t s H room soon)

      len : length (step_state F net false s) ≡ length s
      len = subst (λ (x : Bool). length (step_state F net x s) ≡ length s) quiet (step-length F net ordered starts words W obeys t s H room)

      free : crowding F net s (step_state F net false s) ≡ Accepted
      free = not-crowded F net ordered words W t s (step_state F net false s) (λ a l. next.body.present a l) H soon

      wire-is : (b : Bool) → finish (suc t) ≡ b → high (now_at F (step_state F net false s) f) ≡ b
      wire-is b e = ap high (next.body.present f wire) ∙ e

      stop : finish (suc t) ≡ true → Continued F net words W f t (suc n) s
      stop e =
          let z = stops-high finish t n e in
          let x = continued-high F net f n s free (wire-is true e) in
          record {
            free = ap (λ (c : Course). c.check) x;
            count = ap (λ (c : Course). c.count) x ∙ omega (arith, z);
            long = ap (λ (c : Course). length c.state) x ∙ len;
            holding = rw (z, x) next;
          }

      on : finish (suc t) ≡ false → Continued F net words W f (suc t) n (step_state F net false s) → Continued F net words W f t (suc n) s
      on e r =
          let z = stops-low finish t n e in
          let x = continued-low F net f n s free (wire-is false e) in
          record {
            free = ap (λ (c : Course). c.check) x ∙ r.free;
            count = ap (λ (c : Course). c.count) x ∙ omega (arith, z, stops-ge finish n (suc t), r.count);
            long = ap (λ (c : Course). length c.state) x ∙ r.long ∙ len;
            holding = rw (z, x) r.holding;
          }

-- along the states of a run
module _ (F : Format) (net : Netlist) (f : ℕ) (starts : Sig) (at : ℕ → List ℕ) (next : (t : ℕ) → at (suc t) ≡ step_state F net (starts (suc t)) (at t))
    (finish : ℕ → Bool) where
  pub along : (n t : ℕ) → ((u : ℕ) → t ≤ u → u < stops_at finish t n → (high (now_at F (at (suc u)) f) ≡ finish (suc u)) × (crowding F net (at u) (at (suc u)) ≡ Accepted))
      → NoStart starts t (stops_at finish t n) → continued F net f n (at t) ≡ course Accepted (at (stops_at finish t n)) (stops_at finish t n - t)
  unfolding continued stops_at
  along zero t good none = let z : t - t ≡ 0 = omega arith in rw z refl
  along (suc n) t good none =
      by_bool (finish (suc t)) (λ e. stop e)
      (λ e.
      let z = stops-low finish t n e in
      on e (along n (suc t) (λ u l k. good u (omega arith) (omega (arith, z))) (λ u l k. none u (omega arith) (omega (arith, z)))))
    where
      step : at (suc t) ≡ step_state F net false (at t)
      step = next t ∙ ap (λ (x : Bool). step_state F net x (at t)) (first-none starts finish t n none)

      here : (high (now_at F (at (suc t)) f) ≡ finish (suc t)) × (crowding F net (at t) (at (suc t)) ≡ Accepted)
      here = good t (omega arith) (stops-on finish n t)

      now : high (now_at F (step_state F net false (at t)) f) ≡ finish (suc t)
      now = ap (λ (s : List ℕ). high (now_at F s f)) (sym step) ∙ here.0

      free : crowding F net (at t) (step_state F net false (at t)) ≡ Accepted
      free = ap (crowding F net (at t)) (sym step) ∙ here.1

      stop : finish (suc t) ≡ true → continued F net f (suc n) (at t) ≡ course Accepted (at (stops_at finish t (suc n))) (stops_at finish t (suc n) - t)
      stop e =
          let z = stops-high finish t n e in
          let o : suc t - t ≡ 1 = omega arith in
          continued-high F net f n (at t) free (now ∙ e) ∙ rw (z, o, step) refl

      on : finish (suc t) ≡ false → continued F net f n (at (suc t)) ≡ course Accepted (at (stops_at finish (suc t) n)) (stops_at finish (suc t) n - suc t)
          → continued F net f (suc n) (at t) ≡ course Accepted (at (stops_at finish t (suc n))) (stops_at finish t (suc n) - t)
      on e r =
          let z = stops-low finish t n e in
          let o : 1 + (stops_at finish (suc t) n - suc t) ≡ stops_at finish (suc t) n - t = omega (arith, stops-ge finish n (suc t)) in
          continued-low F net f n (at t) free (now ∙ e)
          ∙ ap (λ (s : List ℕ). longer (continued F net f n s)) (sym step)
          ∙ ap longer r
          ∙ rw (z, o) refl
