-- Acceptance: each root of an accepted program has variables below 16, arrays below 4, operators of kinds 4 to 9, delays that are large enough, and
-- parallel sides that are apart and reach no procedure in common. What is said of delays holds under any operator times.
-- Assumes nothing.
use Rattle.model.specs.Refusals.{Accepted}
use Rattle.std.specs.Prelude.{◌≡◌, Bool, true, ◌&&◌, ◌||◌, List, [], ◌∷◌, ◌++◌, map, ℕ, zero, suc, ◌-◌, ◌≤◌, ◌<◌, length, get_or, ltb, eqb}
use Rattle.std.proofs.Math.Path.{refl, subst}
use Rattle.std.proofs.Common.{◌∙◌, ap, le_of_suc-le-suc, ltb-true, eqb-true}
use Rattle.std.proofs.Math.Bool.{false}
use native.Mathlib.Omega.{arith}
use Rattle.std.proofs.Math.Decide.{ℕ_discrete}
use Rattle.std.proofs.lemmas.Bool.{eqb-false}
use Rattle.model.specs.declared.Node.{Node}
use Rattle.model.specs.declared.Options.{Options}
use Rattle.model.specs.Word.{pick}
use Rattle.model.specs.Program.{Expr, Code, Stmt, ok, tick, assign, assign_elem, seq, par, ite, while, repeat, loop, exit, Tree, expr, stmt, none, as_expr, as_stmt, expr_of, stmt_of, tree_of, trees_at, stmt_at, node_at, row_of, Program, program_of, roots, time_in, least, array_var, writes, touches, call}
use Rattle.model.specs.Procedures.{body_at, inline, inlined, reaches, reached}
use Rattle.model.specs.ProgramChecks.{conflict, conflicts, shared, shares, node_fault, program_with}
use Rattle.model.specs.Calls.{check_call}
use Rattle.laws.specs.Program.Fit.{FormedExpr, Formed, Enough, Covered, Apart, Single, Distinct, Fit}
use Rattle.laws.specs.Program.Inlined.{everywhere-inline, inlined-all}
use Rattle.laws.specs.Program.Trees.{root-has}
use Rattle.laws.specs.Program.Grows.{known-kind, low-variable, low-array}
use Rattle.laws.specs.Program.Passed.{Passed, accepted, program-trees}
use Rattle.laws.specs.Program.Enclosed.{root_at}
use Rattle.laws.specs.Refusals.Laws.{by_le, or-false}

-- Nodes without fault ------------------------------------------------------------------------------------------------------------------

pub by-test : {A : Type 0} (R : A → Type 0) (b : Bool) (u v : A) → (b ≡ true → R u) → (b ≡ false → R v) → R (pick b u v)
by-test R true u v f g = f refl
by-test R false u v f g = g refl

unknown-at : (k j : ℕ) → k ≡ j → (row_of j).sort ≡ 0 → (row_of k).sort ≡ 0
unknown-at k j e h = ap (λ (k : ℕ). (row_of k).sort) e ∙ h

-- an expression's kind that is not 1, 2, 3 or 10 is 4 to 9: it is not the next, and so at least the one after that
next : (k j : ℕ) → j ≤ k → (k ≡ j → ⊥) → suc j ≤ k
next k j l n = omega arith

below : (k j : ℕ) → k ≤ j → (k ≡ j → ⊥) → k ≤ j - 1
below k j l n = omega arith

pub op-kind : (a : Node) → node_fault a ≡ 0 → a.kind < 16 → (a.kind ≡ 1 → ⊥) → (a.kind ≡ 2 → ⊥) → (a.kind ≡ 3 → ⊥) → (a.kind ≡ 10 → ⊥)
    → (4 ≤ a.kind) × (a.kind ≤ 9)
unfolding row_of
op-kind a f l n1 n2 n3 n10 = (
  next k 3 (next k 2 (next k 1 (next k 0 (omega arith) (no 0 refl)) n1) n2) n3,
  below k 10 (below k 11 (below k 12 (below k 13 (below k 14 (below k 15 (omega arith) (no 15 refl)) (no 14 refl)) (no 13 refl)) (no 12 refl)) (no 11 refl)) n10,
)
  where
    k : ℕ
    k = a.kind

    no : (j : ℕ) → (row_of j).sort ≡ 0 → k ≡ j → ⊥
    no j h e = known-kind a f (unknown-at a.kind j e h)

-- a node of a kind whose number is a variable's
named-low : (a : Node) → node_fault a ≡ 0 → (k : ℕ) → a.kind ≡ k → (row_of k).number ≡ 2 → a.n < 16
named-low a f k e h = low-variable a f (ap (λ (k : ℕ). (row_of k).number) e ∙ h)

-- and an array's
named-array : (a : Node) → node_fault a ≡ 0 → (k : ℕ) → a.kind ≡ k → (row_of k).number ≡ 3 → a.n < 4
named-array a f k e h = low-array a f (ap (λ (k : ℕ). (row_of k).number) e ∙ h)

-- What a program writes is below 20 ------------------------------------------------------------------------------------------------------------

or_cases : {A : Type 0} (a b : Bool) → (a || b) ≡ true → (a ≡ true → A) → (b ≡ true → A) → A
or_cases true b e f g = f refl
or_cases false b e f g = g e

written_low : (P : Stmt) → Formed P → (x : ℕ) → writes P x ≡ true → x < 20
unfolding writes
written_low ok w x e = let z : ◌≡◌ {A = ℕ} 0 1 = cc in absurd (omega arith)
written_low (tick d) w x e = let z : ◌≡◌ {A = ℕ} 0 1 = cc in absurd (omega arith)
written_low (assign d y e') w x e = let q : x ≡ y = eqb-true x y e in omega (arith, w.1)
written_low (assign_elem d k i e') w x e = let q : x ≡ array_var k = eqb-true x (array_var k) e in omega (arith, w.1)
written_low (seq P Q) w x e = or_cases (writes P x) (writes Q x) e (written_low P w.0 x) (written_low Q w.1 x)
written_low (par P Q) w x e = or_cases (writes P x) (writes Q x) e (written_low P w.0 x) (written_low Q w.1 x)
written_low (ite d e' P Q) w x e = or_cases (writes P x) (writes Q x) e (written_low P w.2 x) (written_low Q w.3 x)
written_low (while d e' P) w x e = written_low P w.2 x e
written_low (repeat d e' P) w x e = written_low P w.2 x e
written_low (loop d P) w x e = written_low P w.1 x e
written_low exit w x e = let z : ◌≡◌ {A = ℕ} 0 1 = cc in absurd (omega arith)
written_low (call _ procedure) w x e = elim procedure [ ]

no-clash : (n : ℕ) (P Q : Stmt) → conflict n P Q ≡ false → (x : ℕ) → x < n
    → ((writes P x && touches Q x) ≡ false) × ((writes Q x && touches P x) ≡ false)
unfolding conflict
no-clash zero P Q e x l = absurd (omega arith)
no-clash (suc n) P Q e x l = go (ℕ_discrete x n) (no-clash n P Q (or-false ((writes P n && touches Q n) || (writes Q n && touches P n)) (conflict n P Q) e).1 x)
  where
    go : Dec (x ≡ n) → (x < n → ((writes P x && touches Q x) ≡ false) × ((writes Q x && touches P x) ≡ false)) → ((writes P x && touches Q x) ≡ false) × ((writes Q x && touches P x) ≡ false)
    go (yes q) r =
        rw q (or-false (writes P n && touches Q n) (writes Q n && touches P n) (or-false ((writes P n && touches Q n) || (writes Q n && touches P n)) (conflict n P Q) e).0)
    go (no q) r = r (omega arith)

and-not : (a b : Bool) → (a && b) ≡ false → a ≡ true → b ≡ false
and-not true b e h = e
and-not false b e h = cc

-- what the sides write is without calls below 20, too
pub formed-inline : (I : ℕ → Stmt) → ((p : ℕ) → Formed (I p)) → (P : Code) → Formed P → Formed (inline I P)
formed-inline I h P w =
    everywhere-inline _ _ I
    (record {
      delays = λ d x. tt;
      if_delays = λ d x. tt;
      loop_delays = λ d x. tt;
      call_delays = λ d x. tt;
      variables = λ x l. l;
      arrays = λ k l. l;
      exprs = λ e x. x;
      sides = λ P Q x. tt;
      bodies = λ p x. h p;
    })
    P w

apart : (P Q : Stmt) → Formed P → Formed Q → conflict 20 P Q ≡ false → Apart P Q × Apart Q P
unfolding Apart
apart P Q w v e = (
  (λ x h. and-not (writes P x) (touches Q x) (no-clash 20 P Q e x (written_low P w x h)).0 h),
  (λ x h. and-not (writes Q x) (touches P x) (no-clash 20 P Q e x (written_low Q v x h)).1 h),
)

not-shared : (R : ℕ → ℕ → Bool) (n : ℕ) (P Q : Code) → shared R n P Q ≡ false → (q : ℕ) → q < n → reaches R P q ≡ true → reaches R Q q ≡ false
unfolding shared
not-shared R zero P Q e q l h = absurd (omega arith)
not-shared R (suc n) P Q e q l h =
    let c = or-false (reaches R P n && reaches R Q n) (shared R n P Q) e in
    by_le n q
    (λ o.
    let z : q ≡ n = omega arith in
    rw z (and-not (reaches R P n) (reaches R Q n) c.0 (rw z at h)))
    (λ o. not-shared R n P Q c.1 q o h)

-- Trees ----------------------------------------------------------------------------------------------------------------------------------------

module _ (a : Node) (f : node_fault a ≡ 0) where
  fit-expr : (e g : Expr) → a.kind < 16 → FormedExpr e → FormedExpr g → FormedExpr (expr_of a e g)
  unfolding expr_of row_of
  fit-expr e g l p q =
      by-test FormedExpr (eqb a.kind 1) _ _ (λ t. tt)
      (λ n1. by-test FormedExpr (eqb a.kind 2) _ _ (λ t. named-low a f 2 (eqb-true _ _ t) refl)
      (λ n2. by-test FormedExpr (eqb a.kind 3) _ _ (λ t. p)
      (λ n3. by-test FormedExpr (eqb a.kind 10) _ _ (λ t. (named-array a f 10 (eqb-true _ _ t) refl, p))
      (λ n10. let k = op-kind a f l (eqb-false _ _ n1) (eqb-false _ _ n2) (eqb-false _ _ n3) (eqb-false _ _ n10) in (k.0, k.1, p, q)))))

  abbrev Good : Code → Type 0
  Good P = Formed P

  formed-stmt : (e g : Expr) (O P Q : Code) → FormedExpr e → FormedExpr g → Formed O → Formed P → Formed Q → Formed (stmt_of a e g O P Q)
  unfolding stmt_of row_of
  formed-stmt e g O P Q w v o p q =
      by-test Good (eqb a.kind 16) _ _ (λ t. tt)
      (λ n. by-test Good (eqb a.kind 17) _ _ (λ t. tt)
      (λ n. by-test Good (eqb a.kind 18) _ _ (λ t. (tt, named-low a f 18 (eqb-true _ _ t) refl, w))
      (λ n. by-test Good (eqb a.kind 19) _ _ (λ t. (o, p))
      (λ n. by-test Good (eqb a.kind 20) _ _ (λ t. (o, p, tt))
      (λ n. by-test Good (eqb a.kind 21) _ _ (λ t. (tt, w, p, q))
      (λ n. by-test Good (eqb a.kind 22) _ _ (λ t. (tt, w, p))
      (λ n. by-test Good (eqb a.kind 24) _ _ (λ t. (tt, named-array a f 24 (eqb-true _ _ t) refl, w, v))
      (λ n. by-test Good (eqb a.kind 25) _ _ (λ t. (tt, o))
      (λ n. by-test Good (eqb a.kind 26) _ _ (λ t. tt)
      (λ n. by-test Good (eqb a.kind 27) _ _ (λ t. (tt, tt))
      (λ n. (tt, w, p))))))))))))

abbrev FormedT : Tree → Type 0
FormedT (expr e) = FormedExpr e
FormedT (stmt P) = Formed P

formed-e : (t : Tree) → FormedT t → FormedExpr (as_expr t)
unfolding as_expr
formed-e (expr e) h = h
formed-e (stmt P) h = tt

formed-s : (t : Tree) → FormedT t → Formed (as_stmt t)
unfolding as_stmt
formed-s (expr e) h = tt
formed-s (stmt P) h = h

formed-tree : (a : Node) → node_fault a ≡ 0 → (x y z : Tree) → FormedT x → FormedT y → FormedT z → FormedT (tree_of a x y z)
unfolding tree_of
formed-tree a f x y z p q r =
    by-test FormedT (ltb a.kind 16) _ _
    (λ l. fit-expr a f (as_expr x) (as_expr y) (ltb-true _ _ l) (formed-e x p) (formed-e y q))
    (λ l. formed-stmt a f (as_expr x) (as_expr y) (as_stmt x) (as_stmt y) (as_stmt z) (formed-e x p) (formed-e y q) (formed-s x p) (formed-s y q) (formed-s z r))

-- what stands with that of a statement of a node: delays, and the sides of parallels
module _ (τ : ℕ → ℕ) (w : ℕ) (bodies : List Code) (I : ℕ → Stmt) (formed : (p : ℕ) → Formed (I p)) (R : ℕ → ℕ → Bool) (a : Node) where
  abbrev Rest : Code → Type 0
  Rest S = Enough w S × Single R (length bodies) S × Distinct I S

  abbrev RestT : Tree → Type 0
  RestT (expr e) = Unit {0}
  RestT (stmt P) = Rest P

  rest-s : (t : Tree) → RestT t → Rest (as_stmt t)
  unfolding as_stmt
  rest-s (expr e) h = (tt, tt, tt)
  rest-s (stmt P) h = h

  abbrev Rests : Code → Type 0
  Rests S = least τ w S ≤ a.delay → shares R (length bodies) S ≡ false → conflicts (inline I S) ≡ false → Rest S

  rest-stmt : (e g : Expr) (O P Q : Code) → Formed O → Formed P → Rest O → Rest P → Rest Q → Rests (stmt_of a e g O P Q)
  unfolding stmt_of least shares conflicts inline
  rest-stmt e g O P Q x v o p q =
      by-test Rests (eqb a.kind 16) _ _ (λ t h s c. (tt, tt, tt))
      (λ n. by-test Rests (eqb a.kind 17) _ _ (λ t h s c. (h, tt, tt))
      (λ n. by-test Rests (eqb a.kind 18) _ _ (λ t h s c. ((omega arith, tt, tt), (tt, tt, tt), (tt, tt, tt)))
      (λ n. by-test Rests (eqb a.kind 19) _ _ (λ t h s c. ((o.0, p.0), (o.1, p.1), (o.2, p.2)))
      (λ n. by-test Rests (eqb a.kind 20) _ _
      (λ t h s c. (
        (o.0, p.0, tt),
        (o.1, p.1, not-shared R (length bodies) O P s),
        (o.2, p.2, apart (inline I O) (inline I P) (formed-inline I formed O x) (formed-inline I formed P v) c),
      ))
      (λ n. by-test Rests (eqb a.kind 21) _ _ (λ t h s c. ((tt, tt, p.0, q.0), (tt, tt, p.1, q.1), (tt, tt, p.2, q.2)))
      (λ n. by-test Rests (eqb a.kind 22) _ _ (λ t h s c. ((omega arith, tt, p.0), (tt, tt, p.1), (tt, tt, p.2)))
      (λ n. by-test Rests (eqb a.kind 24) _ _ (λ t h s c. ((omega arith, tt, tt, tt), (tt, tt, tt, tt), (tt, tt, tt, tt)))
      (λ n. by-test Rests (eqb a.kind 25) _ _ (λ t h s c. ((h, o.0), (tt, o.1), (tt, o.2)))
      (λ n. by-test Rests (eqb a.kind 26) _ _ (λ t h s c. (tt, tt, tt))
      (λ n. by-test Rests (eqb a.kind 27) _ _ (λ t h s c. ((h, tt), (tt, tt), (tt, tt)))
      (λ n h s c. ((omega arith, tt, p.0), (tt, tt, p.1), (tt, tt, p.2)))))))))))))

  rest-tree : (x y z : Tree) → FormedT x → FormedT y → RestT x → RestT y → RestT z → least τ w (as_stmt (tree_of a x y z)) ≤ a.delay
      → shares R (length bodies) (as_stmt (tree_of a x y z)) ≡ false → conflicts (inline I (as_stmt (tree_of a x y z))) ≡ false → RestT (tree_of a x y z)
  unfolding tree_of as_stmt
  rest-tree x y z u v p q r =
      by-test
      (λ (t : Tree). least τ w (as_stmt t) ≤ a.delay → shares R (length bodies) (as_stmt t) ≡ false → conflicts (inline I (as_stmt t)) ≡ false → RestT t)
      (ltb a.kind 16) _ _
      (λ l h s c. tt)
      (λ l h s c.
      rest-stmt (as_expr x) (as_expr y) (as_stmt x) (as_stmt y) (as_stmt z) (formed-s x u) (formed-s y v) (rest-s x p) (rest-s y q) (rest-s z r) h s c)

-- delays that cover the times of expressions
module _ (τ : ℕ → ℕ) where
  abbrev CoveredT : Tree → Type 0
  CoveredT (expr e) = Unit {0}
  CoveredT (stmt P) = Covered τ P

  covered-s : (t : Tree) → CoveredT t → Covered τ (as_stmt t)
  unfolding as_stmt
  covered-s (expr e) h = tt
  covered-s (stmt P) h = h

  module _ (w : ℕ) (a : Node) where
    abbrev Covers : Code → Type 0
    Covers S = least τ w S ≤ a.delay → Covered τ S

    covered-stmt : (e g : Expr) (O P Q : Code) → Covered τ O → Covered τ P → Covered τ Q → Covers (stmt_of a e g O P Q)
    unfolding stmt_of least
    covered-stmt e g O P Q o p q =
        by-test Covers (eqb a.kind 16) _ _ (λ t h. tt)
        (λ n. by-test Covers (eqb a.kind 17) _ _ (λ t h. tt)
        (λ n. by-test Covers (eqb a.kind 18) _ _ (λ t h. omega arith)
        (λ n. by-test Covers (eqb a.kind 19) _ _ (λ t h. (o, p))
        (λ n. by-test Covers (eqb a.kind 20) _ _ (λ t h. (o, p))
        (λ n. by-test Covers (eqb a.kind 21) _ _ (λ t h. (h, p, q))
        (λ n. by-test Covers (eqb a.kind 22) _ _ (λ t h. (omega arith, p))
        (λ n. by-test Covers (eqb a.kind 24) _ _ (λ t h. (omega arith, omega arith))
        (λ n. by-test Covers (eqb a.kind 25) _ _ (λ t h. o)
        (λ n. by-test Covers (eqb a.kind 26) _ _ (λ t h. tt)
        (λ n. by-test Covers (eqb a.kind 27) _ _ (λ t h. tt)
        (λ n h. (omega arith, p))))))))))))

    covered-tree : (x y z : Tree) → CoveredT x → CoveredT y → CoveredT z → least τ w (as_stmt (tree_of a x y z)) ≤ a.delay → CoveredT (tree_of a x y z)
    unfolding tree_of as_stmt
    covered-tree x y z p q r =
        by-test (λ (t : Tree). least τ w (as_stmt t) ≤ a.delay → CoveredT t) (ltb a.kind 16) _ _
        (λ l h. tt)
        (λ l h. covered-stmt (as_expr x) (as_expr y) (as_stmt x) (as_stmt y) (as_stmt z) (covered-s x p) (covered-s y q) (covered-s z r) h)

-- Roots ----------------------------------------------------------------------------------------------------------------------------------------

-- a root of a program is one of the trees
root-tree : (Ps : List Code) (r : ℕ) → as_stmt (get_or (map stmt Ps) r none) ≡ get_or Ps r ok
unfolding as_stmt
root-tree [] zero = refl
root-tree [] (suc r) = refl
root-tree (P ∷ Ps) zero = refl
root-tree (P ∷ Ps) (suc r) = root-tree Ps r

pub body-root : (Qs : List Code) (P : Code) (p : ℕ) → p < length Qs → get_or (Qs ++ (P ∷ [])) p ok ≡ get_or Qs p ok
body-root [] P p l = absurd (omega arith)
body-root (Q ∷ Qs) P zero l = refl
body-root (Q ∷ Qs) P (suc p) l = body-root Qs P p (le_of_suc-le-suc l)

module _ (τ : ℕ → ℕ) (w k : ℕ) (s : List ℕ) (passed : Passed τ w k s) where
  abbrev S : Program
  S = program_of w k s

  pub at-root : (r : ℕ) → as_stmt (get_or (trees_at s 0) r none) ≡ root_at S r
  at-root r = ap (λ (ts : List Tree). as_stmt (get_or ts r none)) (program-trees k s passed.readable w) ∙ root-tree (roots S) r

  roots-formed : (r : ℕ) → FormedT (get_or (trees_at s 0) r none)
  roots-formed = root-has FormedT tt s (λ i l x y z t u v o. formed-tree (node_at s i) (passed.readable.faultless i l) x y z u v o)

  root-formed : (r : ℕ) → Formed (root_at S r)
  root-formed r = subst (λ (P : Code). Formed P) (at-root r) (formed-s _ (roots-formed r))

  bodies-formed : (p : ℕ) → Formed (inlined S.bodies p)
  bodies-formed =
      inlined-all S.bodies (λ (P : Stmt). Formed P) tt
      (λ I h p l. formed-inline I h (body_at S.bodies p) (subst (λ (P : Code). Formed P) (body-root S.bodies S.main p l) (root-formed p)))

  abbrev BothT : Tree → Type 0
  BothT t = FormedT t × RestT τ w S.bodies (inlined S.bodies) bodies-formed (reached S.bodies) (node_at s 0) t

  pub root-fit : (r : ℕ) → Fit w S.bodies (root_at S r)
  unfolding stmt_at
  root-fit r =
      let h =
      root-has BothT (tt, tt) s
      (λ i l x y z t u v o. (
        formed-tree (node_at s i) (passed.readable.faultless i l) x y z u.0 v.0 o.0,
        rest-tree τ w S.bodies (inlined S.bodies) bodies-formed (reached S.bodies) (node_at s i) x y z u.0 v.0 u.1 v.1 o.1
            (rw t at (passed.slowless i l)) (rw t at (passed.lone i l)) (rw t at (passed.clashless i l)),
      ))
      r in
      let q = subst (Rest τ w S.bodies (inlined S.bodies) bodies-formed (reached S.bodies) (node_at s 0)) (at-root r)
      (rest-s τ w S.bodies (inlined S.bodies) bodies-formed (reached S.bodies) (node_at s 0) _ h.1) in
      record { formed = root-formed r; timed = q.0; single = q.1; distinct = q.2 }

pub program-fit : (options : Options) (s : List ℕ) → check_call options s ≡ Accepted → (r : ℕ) → Fit options.pulse (program_with options s).bodies (root_at (program_with options s) r)
program-fit options s e = root-fit (time_in options.times) options.pulse options.procedures s (accepted options s e)

pub program-covered : (options : Options) (s : List ℕ) → check_call options s ≡ Accepted
    → (r : ℕ) → Covered (time_in options.times) (root_at (program_with options s) r)
unfolding stmt_at
program-covered options s e r =
    let τ = time_in options.times in
    let w = options.pulse in
    let passed = accepted options s e in
    subst (λ (P : Code). Covered τ P) (at-root τ w options.procedures s passed r)
    (covered-s τ _
    (root-has (CoveredT τ) tt s (λ i l x y z t u v o. covered-tree τ w (node_at s i) x y z u v o (rw t at (passed.slowless i l))) r))
