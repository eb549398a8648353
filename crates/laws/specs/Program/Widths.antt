-- Pulses of w instants: how long a part needs to be at rest after its end, and that delays long enough for them take time. Assumes nothing.
use Rattle.std.specs.Prelude.{ℕ, suc, ◌≤◌, ◌≡◌, Bool}
use Rattle.std.proofs.Common.{ap, arith, eq-eqb, ne_eqb}
use Rattle.model.specs.Word.{pick}
use Rattle.model.specs.Program.{Statement, ok, tick, assign, assign_elem, seq, par, ite, while, repeat, loop, exit, call, gap}
use Rattle.laws.specs.Refusals.Laws.{by_le}
use Rattle.laws.specs.Program.Fit.{Enough, Timed}

-- The gap ------------------------------------------------------------------------------------------------------------------------

pub gap-one : (w : ℕ) → w ≡ 1 → gap w ≡ 1
unfolding gap
gap-one w e = ap (λ (b : Bool). pick b 1 (suc w)) (eq-eqb w 1 e)

pub gap-wide : (w : ℕ) → 2 ≤ w → gap w ≡ suc w
unfolding gap
gap-wide w l = ap (λ (b : Bool). pick b 1 (suc w)) (ne_eqb w 1 (λ q. omega arith))

pub gap-least : (w : ℕ) → 1 ≤ w → w ≤ gap w
gap-least w l =
    by_le 2 w (λ k. let e = gap-wide w k in omega (arith, e))
    (λ k. let e = gap-one w (omega arith) in omega (arith, e))

-- a loop's turn takes time
pub turn-least : (w d : ℕ) → 1 ≤ w → gap w ≤ d → 1 ≤ d
turn-least w d l h = let g = gap-least w l in omega arith

pub enough-timed : {C : Type 0} (w : ℕ) (P : Statement C) → 1 ≤ w → Enough w P → Timed P
enough-timed w ok l h = tt
enough-timed w (tick d) l h = h
enough-timed w (assign d x e) l h = h
enough-timed w (assign_elem d k i e) l h = h
enough-timed w (seq P Q) l h = (enough-timed w P l h.0, enough-timed w Q l h.1)
enough-timed w (par P Q) l h = (enough-timed w P l h.0, enough-timed w Q l h.1, tt)
enough-timed w (ite d e P Q) l h = (tt, tt, enough-timed w P l h.2, enough-timed w Q l h.3)
enough-timed w (while d e P) l h = (turn-least w d l h.0, tt, enough-timed w P l h.2)
enough-timed w (repeat d e P) l h = (turn-least w d l h.0, tt, enough-timed w P l h.2)
enough-timed w (loop d P) l h = (turn-least w d l h.0, enough-timed w P l h.1)
enough-timed w exit l h = tt
enough-timed w (call d p) l h = (turn-least w d l h.0, tt)
