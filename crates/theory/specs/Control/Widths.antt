-- Delays that are long enough for pulses of w instants, and variables and arrays that exist. Assumes nothing.
use Rattle.std.specs.Prelude.{ℕ, ◌≤◌, ◌<◌}
use Rattle.model.specs.Program.{Statement, Code, Stmt, ok, tick, assign, assign_elem, seq, par, ite, while, repeat, loop, exit, call, gap}
use Rattle.model.specs.Procedures.{inline}
use Rattle.laws.specs.Program.Widths.{turn-least, enough-timed}
use Rattle.laws.specs.Program.Inlined.{everywhere-inline}
use Rattle.laws.specs.Program.Fit.{Everywhere, free, FormedExpr, Formed, Enough, Timed}

-- what pulses of w ask: delays of at least 1, but for an if's, and a loop's and a call's of at least the gap; and variables and arrays that exist
abbrev pub Timely : {C : Type 0} → ℕ → Statement C → Type 0
Timely w P =
    Everywhere
    (record {
      delay = λ d. 1 ≤ d;
      if_delay = free;
      loop_delay = λ d. gap w ≤ d;
      variable = λ x. x < 16;
      array = λ k. k < 4;
      expr = FormedExpr;
      procedure = free;
      sides = λ P Q. Unit {0};
    })
    P

-- it is what acceptance leaves
pub timely-of : {C : Type 0} (w : ℕ) (P : Statement C) → Formed P → Enough w P → Timely w P
timely-of w ok f h = tt
timely-of w (tick d) f h = h
timely-of w (assign d x e) f h = (h.0, f.1, f.2)
timely-of w (assign_elem d k i e) f h = (h.0, f.1, f.2, f.3)
timely-of w (seq P Q) f h = (timely-of w P f.0 h.0, timely-of w Q f.1 h.1)
timely-of w (par P Q) f h = (timely-of w P f.0 h.0, timely-of w Q f.1 h.1, tt)
timely-of w (ite d e P Q) f h = (tt, f.1, timely-of w P f.2 h.2, timely-of w Q f.3 h.3)
timely-of w (while d e P) f h = (h.0, f.1, timely-of w P f.2 h.2)
timely-of w (repeat d e P) f h = (h.0, f.1, timely-of w P f.2 h.2)
timely-of w (loop d P) f h = (h.0, timely-of w P f.1 h.1)
timely-of w exit f h = tt
timely-of w (call d p) f h = (h.0, tt)

timely-enough : (w : ℕ) (P : Stmt) → Timely w P → Enough w P
timely-enough w ok h = tt
timely-enough w (tick d) h = h
timely-enough w (assign d x e) h = (h.0, tt, tt)
timely-enough w (assign_elem d k i e) h = (h.0, tt, tt, tt)
timely-enough w (seq P Q) h = (timely-enough w P h.0, timely-enough w Q h.1)
timely-enough w (par P Q) h = (timely-enough w P h.0, timely-enough w Q h.1, tt)
timely-enough w (ite d e P Q) h = (tt, tt, timely-enough w P h.2, timely-enough w Q h.3)
timely-enough w (while d e P) h = (h.0, tt, timely-enough w P h.2)
timely-enough w (repeat d e P) h = (h.0, tt, timely-enough w P h.2)
timely-enough w (loop d P) h = (h.0, timely-enough w P h.1)
timely-enough w exit h = tt
timely-enough w (call _ none) h = elim none [ ]

pub timely-timed : (w : ℕ) (P : Stmt) → 1 ≤ w → Timely w P → Timed P
timely-timed w P l h = enough-timed w P l (timely-enough w P h)

pub timely-formed : (w : ℕ) (P : Stmt) → Timely w P → Formed P
timely-formed w ok h = tt
timely-formed w (tick d) h = tt
timely-formed w (assign d x e) h = (tt, h.1, h.2)
timely-formed w (assign_elem d k i e) h = (tt, h.1, h.2, h.3)
timely-formed w (seq P Q) h = (timely-formed w P h.0, timely-formed w Q h.1)
timely-formed w (par P Q) h = (timely-formed w P h.0, timely-formed w Q h.1, tt)
timely-formed w (ite d e P Q) h = (tt, h.1, timely-formed w P h.2, timely-formed w Q h.3)
timely-formed w (while d e P) h = (tt, h.1, timely-formed w P h.2)
timely-formed w (repeat d e P) h = (tt, h.1, timely-formed w P h.2)
timely-formed w (loop d P) h = (tt, timely-formed w P h.1)
timely-formed w exit h = tt
timely-formed w (call _ none) h = elim none [ ]

-- without calls it asks the same
pub timely-inline : (w : ℕ) → 1 ≤ w → (I : ℕ → Stmt) → ((p : ℕ) → Timely w (I p)) → (P : Code) → Timely w P → Timely w (inline I P)
timely-inline w pos I h P t =
    everywhere-inline _ _ I
    (record {
      delays = λ d l. l;
      if_delays = λ d x. tt;
      loop_delays = λ d l. l;
      call_delays = λ d l. turn-least w d pos l;
      variables = λ x l. l;
      arrays = λ k l. l;
      exprs = λ e x. x;
      sides = λ P Q x. tt;
      bodies = λ p x. h p;
    })
    P t
