-- What acceptance leaves of a program with procedures, as the theorems need it: of each body and of the main program, with calls and without.
-- Assumes nothing.
use Rattle.model.specs.Refusals.{Accepted}
use Rattle.std.specs.Prelude.{◌≡◌, refl, Bool, true, false, List, [], ◌∷◌, ◌++◌, ℕ, zero, suc, ◌+◌, ◌≤◌, ◌<◌, length, get_or}
use Rattle.std.proofs.Math.Path.{sym, subst}
use Rattle.std.proofs.Common.{◌∙◌, ap, arith, length-append}
use Rattle.std.proofs.Math.ListN.{get_or-eq_default}
use Rattle.model.specs.declared.Options.{Options}
use Rattle.model.specs.Program.{Expr, Code, Stmt, Statement, ok, tick, assign, assign_elem, seq, par, ite, while, repeat, loop, exit, call, Program, program_of, roots}
use Rattle.model.specs.Procedures.{body_at, inline, inlined, meaning, reaches, reached}
use Rattle.model.specs.ProgramChecks.{program_with}
use Rattle.model.specs.Calls.{check_call}
use Rattle.laws.specs.Refusals.Laws.{by_le}
use Rattle.laws.specs.Program.Fit.{Asks, Everywhere, beside, Formed, Timed, Enough, Apart, Separate, exits, Inside, Earlier, Single, Distinct, Fit}
use Rattle.laws.specs.Program.Widths.{turn-least, enough-timed}
use Rattle.laws.specs.Program.Passed.{accepted-pulse}
use Rattle.laws.specs.Program.Inlined.{everywhere-inline, exits-inline, inlined-all, inlined-is, inlined-past, reached-is, reached-past, reached-earlier, reached-below}
use Rattle.laws.specs.Program.Enclosed.{root_at, root-enclosed, root-earlier}
use Rattle.laws.specs.Program.Accepted.{formed-inline, body-root, program-fit}

-- What two askings ask together --------------------------------------------------------------------------------------------------------

pub record Together {C : Type 0} (a b c : Asks C) : Type 0 where
  pub delays : (d : ℕ) → a.delay d → b.delay d → c.delay d
  pub if_delays : (d : ℕ) → a.if_delay d → b.if_delay d → c.if_delay d
  pub loop_delays : (d : ℕ) → a.loop_delay d → b.loop_delay d → c.loop_delay d
  pub variables : (x : ℕ) → a.variable x → b.variable x → c.variable x
  pub arrays : (k : ℕ) → a.array k → b.array k → c.array k
  pub exprs : (e : Expr) → a.expr e → b.expr e → c.expr e
  pub procedures : (p : C) → a.procedure p → b.procedure p → c.procedure p
  pub sides : (P Q : Statement C) → a.sides P Q → b.sides P Q → c.sides P Q

everywhere_both : {C : Type 0} (a b c : Asks C) → Together a b c → (P : Statement C) → Everywhere a P → Everywhere b P → Everywhere c P
everywhere_both a b c t ok g h = tt
everywhere_both a b c t (tick d) g h = t.delays d g h
everywhere_both a b c t (assign d x e) g h = (t.delays d g.0 h.0, t.variables x g.1 h.1, t.exprs e g.2 h.2)
everywhere_both a b c t (assign_elem d k i e) g h =
    (t.delays d g.0 h.0, t.arrays k g.1 h.1, t.exprs i g.2 h.2, t.exprs e g.3 h.3)
everywhere_both a b c t (seq P Q) g h = (everywhere_both a b c t P g.0 h.0, everywhere_both a b c t Q g.1 h.1)
everywhere_both a b c t (par P Q) g h =
    (everywhere_both a b c t P g.0 h.0, everywhere_both a b c t Q g.1 h.1, t.sides P Q g.2 h.2)
everywhere_both a b c t (ite d e P Q) g h =
    (t.if_delays d g.0 h.0, t.exprs e g.1 h.1, everywhere_both a b c t P g.2 h.2, everywhere_both a b c t Q g.3 h.3)
everywhere_both a b c t (while d e P) g h = (t.loop_delays d g.0 h.0, t.exprs e g.1 h.1, everywhere_both a b c t P g.2 h.2)
everywhere_both a b c t (repeat d e P) g h = (t.loop_delays d g.0 h.0, t.exprs e g.1 h.1, everywhere_both a b c t P g.2 h.2)
everywhere_both a b c t (loop d P) g h = (t.loop_delays d g.0 h.0, everywhere_both a b c t P g.1 h.1)
everywhere_both a b c t exit g h = tt
everywhere_both a b c t (call d p) g h = (t.loop_delays d g.0 h.0, t.procedures p g.1 h.1)

-- Roots ----------------------------------------------------------------------------------------------------------------------------------

-- what is left of root r, with pulses of w
pub record Good (w : ℕ) (bodies : List Code) (r : ℕ) (P : Code) : Type 0 where
  pub fit : Fit w bodies P
  pub inside : Inside P
  pub closed : exits P ≡ false
  pub earlier : Earlier r P

pub record Admitted (S : Program) : Type 0 where
  pub pulse : (1 ≤ S.pulse) × (S.pulse ≤ 8)
  pub body : (p : ℕ) → Good S.pulse S.bodies p (body_at S.bodies p)
  pub main : Good S.pulse S.bodies (length S.bodies) S.main

-- no procedure is reached from both sides of a parallel
abbrev pub Lone : (ℕ → ℕ → Bool) → Code → Type 0
Lone R P = Everywhere (beside (λ P Q. (q : ℕ) → reaches R P q ≡ true → reaches R Q q ≡ false)) P

pub main-root : (Qs : List Code) (P : Code) → get_or (Qs ++ (P ∷ [])) (length Qs) ok ≡ P
main-root [] P = refl
main-root (Q ∷ Qs) P = main-root Qs P

pub program-admitted : (options : Options) (s : List ℕ) → check_call options s ≡ Accepted → Admitted (program_with options s)
unfolding program_of
program-admitted options s e = record { pulse = accepted-pulse options s e; body = body; main = main }
  where
    S : Program
    S = program_with options s

    count : length (roots S) ≡ length S.bodies + 1
    count = length-append S.bodies (S.main ∷ [])

    root : (r : ℕ) → r < length (roots S) → Good S.pulse S.bodies r (root_at S r)
    root r l =
        let i = root-enclosed options s e r l in
        record { fit = program-fit options s e r; inside = i.0; closed = i.1; earlier = root-earlier options s e r l }

    body : (p : ℕ) → Good S.pulse S.bodies p (body_at S.bodies p)
    body p =
        by_le (length S.bodies) p
        (λ l.
        subst (λ (P : Code). Good S.pulse S.bodies p P) (sym (get_or-eq_default S.bodies ok l))
        (record { fit = record { formed = tt; timed = tt; single = tt; distinct = tt }; inside = tt; closed = unfold exits in refl; earlier = tt }))
        (λ l. subst (λ (P : Code). Good S.pulse S.bodies p P) (body-root S.bodies S.main p l) (root p (omega (arith, count))))

    main : Good S.pulse S.bodies (length S.bodies) S.main
    main = subst (λ (P : Code). Good S.pulse S.bodies (length S.bodies) P) (main-root S.bodies S.main) (root (length S.bodies) (omega (arith, count)))

-- Without calls --------------------------------------------------------------------------------------------------------------------------

module _ (S : Program) (A : Admitted S) where
  abbrev I : ℕ → Stmt
  I = inlined S.bodies

  abbrev R : ℕ → ℕ → Bool
  R = reached S.bodies

  abbrev n : ℕ
  n = length S.bodies

  abbrev earlier : (p : ℕ) → p < n → Earlier p (body_at S.bodies p)
  earlier p l = (A.body p).earlier

  -- a body is what it is by those that it calls
  pub flat-is : (p : ℕ) → I p ≡ inline I (body_at S.bodies p)
  unfolding inline
  flat-is p =
      by_le n p
      (λ l. inlined-past S.bodies earlier p l ∙ sym (ap (inline I) (get_or-eq_default S.bodies ok l)))
      (λ l. inlined-is S.bodies earlier p l)

  pub reach-is : (p q : ℕ) → R p q ≡ reaches R (body_at S.bodies p) q
  unfolding reaches
  reach-is p q =
      by_le n p
      (λ l. reached-past S.bodies earlier p l q ∙ sym (ap (λ (P : Code). reaches R P q) (get_or-eq_default S.bodies ok l)))
      (λ l. reached-is S.bodies earlier p l q)

  -- what a root that calls below r reaches
  pub below : (r : ℕ) (P : Code) → Earlier r P → (q : ℕ) → reaches R P q ≡ true → q < r
  below r P e q z = reached-below R r q (λ p l. reached-earlier S.bodies earlier (suc p) p q (omega arith)) P e z

  flat-formed : (p : ℕ) → Formed (I p)
  flat-formed = inlined-all S.bodies (λ (P : Stmt). Formed P) tt (λ J h p l. formed-inline J h (body_at S.bodies p) (A.body p).fit.formed)

  timed-inline : (J : ℕ → Stmt) → ((p : ℕ) → Enough S.pulse (J p)) → (P : Code) → Enough S.pulse P → Enough S.pulse (inline J P)
  timed-inline J h P t =
      everywhere-inline _ _ J
      (record {
        delays = λ d l. l;
        if_delays = λ d x. tt;
        loop_delays = λ d l. l;
        call_delays = λ d l. turn-least S.pulse d A.pulse.0 l;
        variables = λ x l. tt;
        arrays = λ k l. tt;
        exprs = λ e x. tt;
        sides = λ P Q x. tt;
        bodies = λ p x. h p;
      })
      P t

  flat-timed : (p : ℕ) → Enough S.pulse (I p)
  flat-timed = inlined-all S.bodies (λ (P : Stmt). Enough S.pulse P) tt (λ J h p l. timed-inline J h (body_at S.bodies p) (A.body p).fit.timed)

  inside-inline : (J : ℕ → Stmt) → ((p : ℕ) → Inside (J p) × (exits (J p) ≡ false)) → (P : Code) → Inside P → Inside (inline J P)
  inside-inline J h P i =
      everywhere-inline _ _ J
      (record {
        delays = λ d l. tt;
        if_delays = λ d x. tt;
        loop_delays = λ d l. tt;
        call_delays = λ d l. tt;
        variables = λ x l. tt;
        arrays = λ k l. tt;
        exprs = λ e x. tt;
        sides = λ P Q x. (exits-inline J (λ p. (h p).1) P ∙ x.0, exits-inline J (λ p. (h p).1) Q ∙ x.1);
        bodies = λ p x. (h p).0;
      })
      P i

  flat-inside : (p : ℕ) → Inside (I p) × (exits (I p) ≡ false)
  unfolding exits
  flat-inside =
      inlined-all S.bodies (λ (P : Stmt). Inside P × (exits P ≡ false)) (tt, refl)
      (λ J h p l. (
        inside-inline J h (body_at S.bodies p) (A.body p).inside,
        exits-inline J (λ q. (h q).1) (body_at S.bodies p) ∙ (A.body p).closed,
      ))

  -- the sides are apart through calls: by the numbers of the bodies
  separate-inline : (r : ℕ) → ((p : ℕ) → p < r → Separate (I p)) → (P : Code) → Distinct I P → Earlier r P → Separate (inline I P)
  separate-inline r h P d e =
      everywhere-inline
      (record {
        delay = λ d. Unit {0};
        if_delay = λ d. Unit {0};
        loop_delay = λ d. Unit {0};
        variable = λ d. Unit {0};
        array = λ d. Unit {0};
        expr = λ d. Unit {0};
        procedure = λ p. p < r;
        sides = λ P Q. Apart (inline I P) (inline I Q) × Apart (inline I Q) (inline I P);
      })
      _ I
      (record {
        delays = λ d l. tt;
        if_delays = λ d x. tt;
        loop_delays = λ d l. tt;
        call_delays = λ d l. tt;
        variables = λ x l. tt;
        arrays = λ k l. tt;
        exprs = λ e x. tt;
        sides = λ P Q x. x;
        bodies = λ p l. h p l;
      })
      P
      (everywhere_both _ _ _
      (record {
        delays = λ d u v. tt;
        if_delays = λ d u v. tt;
        loop_delays = λ d u v. tt;
        variables = λ x u v. tt;
        arrays = λ k u v. tt;
        exprs = λ e u v. tt;
        procedures = λ p u v. v;
        sides = λ P Q u v. u;
      })
      P d e)

  flat-separate : (k p : ℕ) → p < k → Separate (I p)
  flat-separate zero p l = absurd (omega arith)
  flat-separate (suc k) p l =
      subst Separate (sym (flat-is p))
      (separate-inline p (λ q o. flat-separate k q (omega arith)) (body_at S.bodies p) (A.body p).fit.distinct (A.body p).earlier)

  -- what the rules need of a root without calls
  pub record Plain (P : Code) : Type 0 where
    pub formed : Formed (inline I P)
    pub timed : Enough S.pulse (inline I P)
    pub separate : Separate (inline I P)
    pub inside : Inside (inline I P)
    pub closed : exits (inline I P) ≡ false

  pub plain : (r : ℕ) (P : Code) → Good S.pulse S.bodies r P → Plain P
  plain r P g =
      record {
        formed = formed-inline I flat-formed P g.fit.formed;
        timed = timed-inline I flat-timed P g.fit.timed;
        separate = separate-inline r (λ p l. flat-separate r p l) P g.fit.distinct g.earlier;
        inside = inside-inline I flat-inside P g.inside;
        closed = exits-inline I (λ p. (flat-inside p).1) P ∙ g.closed;
      }

  pub plain_flat : (p : ℕ) → Formed (I p) × Enough S.pulse (I p)
  plain_flat p = (flat-formed p, flat-timed p)

  pub plain_closed : (p : ℕ) → exits (I p) ≡ false
  plain_closed p = (flat-inside p).1

  pub plain-main : Plain S.main
  plain-main = plain n S.main A.main

  -- what the rules need of the statement that the program is
  pub meaning-formed : Formed (meaning S)
  unfolding meaning
  meaning-formed = plain-main.formed

  pub meaning-separate : Separate (meaning S)
  unfolding meaning
  meaning-separate = plain-main.separate

  pub meaning-timed : Timed (meaning S)
  unfolding meaning
  meaning-timed = enough-timed S.pulse (inline I S.main) A.pulse.0 plain-main.timed

  pub meaning-closed : exits (meaning S) ≡ false
  unfolding meaning
  meaning-closed = plain-main.closed

  -- and of its parallels: what a side reaches is a procedure that there is
  lone-in : (r : ℕ) → r ≤ n → (P : Code) → Single R n P → Earlier r P → Lone R P
  lone-in r o ok s e = tt
  lone-in r o (tick d) s e = tt
  lone-in r o (assign d x v) s e = (tt, tt, tt)
  lone-in r o (assign_elem d k i v) s e = (tt, tt, tt, tt)
  lone-in r o (seq P Q) s e = (lone-in r o P s.0 e.0, lone-in r o Q s.1 e.1)
  lone-in r o (par P Q) s e =
      (lone-in r o P s.0 e.0, lone-in r o Q s.1 e.1, λ q z. s.2 q (omega (arith, below r P e.0 q z)) z)
  lone-in r o (ite d v P Q) s e = (tt, tt, lone-in r o P s.2 e.2, lone-in r o Q s.3 e.3)
  lone-in r o (while d v P) s e = (tt, tt, lone-in r o P s.2 e.2)
  lone-in r o (repeat d v P) s e = (tt, tt, lone-in r o P s.2 e.2)
  lone-in r o (loop d P) s e = (tt, lone-in r o P s.1 e.1)
  lone-in r o exit s e = tt
  lone-in r o (call d p) s e = (tt, tt)

  pub lone-body : (p : ℕ) → Lone R (body_at S.bodies p)
  lone-body p =
      by_le n p (λ l. subst (Lone R) (sym (get_or-eq_default S.bodies ok l)) tt)
      (λ l. lone-in p (omega arith) (body_at S.bodies p) (A.body p).fit.single (A.body p).earlier)

  pub lone-main : Lone R S.main
  lone-main = lone-in n (omega arith) S.main A.main.fit.single A.main.earlier

  -- every body calls only procedures that there are
  pub earlier-all : (p : ℕ) → Earlier n (body_at S.bodies p)
  earlier-all p =
      by_le n p (λ l. subst (Earlier n) (sym (get_or-eq_default S.bodies ok l)) tt)
      (λ l.
      everywhere_both _ _ _
      (record {
        delays = λ d u v. tt;
        if_delays = λ d u v. tt;
        loop_delays = λ d u v. tt;
        variables = λ x u v. tt;
        arrays = λ k u v. tt;
        exprs = λ e u v. tt;
        procedures = λ q u v. omega arith;
        sides = λ P Q u v. tt;
      })
      (body_at S.bodies p) (A.body p).earlier (A.body p).earlier)

-- what holds of the bodies and of the main program holds of the roots, and the reverse
module _ (S : Program) (T : ℕ → Code → Type 0) where
  pub each-root : ((p : ℕ) → p < length S.bodies → T p (body_at S.bodies p)) → T (length S.bodies) S.main → (r : ℕ) → r < length (roots S)
      → T r (root_at S r)
  each-root b m r l =
      by_le (length S.bodies) r
      (λ o.
      let e : length S.bodies ≡ r = omega (arith, length-append S.bodies (S.main ∷ [])) in
      subst (λ (r : ℕ). T r (root_at S r)) e (subst (T (length S.bodies)) (sym (main-root S.bodies S.main)) m))
      (λ o. subst (T r) (sym (body-root S.bodies S.main r o)) (b r o))

  pub at_body : (p : ℕ) → p < length S.bodies → T p (root_at S p) → T p (body_at S.bodies p)
  at_body p l h = subst (T p) (body-root S.bodies S.main p l) h

  pub body-at : (p : ℕ) → p < length S.bodies → T p (body_at S.bodies p) → T p (root_at S p)
  body-at p l h = subst (T p) (sym (body-root S.bodies S.main p l)) h

  pub main-at : T (length S.bodies) S.main → T (length S.bodies) (root_at S (length S.bodies))
  main-at h = subst (T (length S.bodies)) (sym (main-root S.bodies S.main)) h

  pub at-main : T (length S.bodies) (root_at S (length S.bodies)) → T (length S.bodies) S.main
  at-main h = subst (T (length S.bodies)) (main-root S.bodies S.main) h

pub root-count : (S : Program) → length (roots S) ≡ length S.bodies + 1
root-count S = length-append S.bodies (S.main ∷ [])

-- roots by what they are
pub body-is-root : (S : Program) (p : ℕ) → p < length S.bodies → root_at S p ≡ body_at S.bodies p
body-is-root S p l = body-root S.bodies S.main p l

pub main-is-root : (S : Program) → root_at S (length S.bodies) ≡ S.main
main-is-root S = main-root S.bodies S.main
