-- What a body that is reached does is done by what reaches it: it writes no other variables and reaches no other procedures. Assumes nothing.
use Rattle.std.specs.Prelude.{ℕ, zero, suc, ◌<◌, ◌≡◌, refl, Bool, ◌||◌, eqb}
use Rattle.std.proofs.Common.{sym, ◌∙◌, ap, subst, arith, eqb-true, eq-eqb}
use Rattle.std.proofs.Math.Bool.{true, false, or-true}
use Rattle.model.specs.Program.{Expr, Code, Stmt, ok, tick, assign, assign_elem, seq, par, ite, while, repeat, loop, exit, call, writes}
use Rattle.model.specs.Procedures.{inline, reaches}
use Rattle.laws.specs.Refusals.Laws.{by_bool}
use Rattle.theory.specs.Control.World.{World, means}

by-or : {A : Type 0} (a b : Bool) → (a || b) ≡ true → (a ≡ true → A) → (b ≡ true → A) → A
by-or true b e l r = l refl
by-or false b e l r = r e

in_left : (a b : Bool) → a ≡ true → (a || b) ≡ true
in_left a b e = ap (λ (c : Bool). c || b) e

in_right : (a b : Bool) → b ≡ true → (a || b) ≡ true
in_right a b e = ap (λ (c : Bool). a || c) e ∙ or-true a

-- a test of statements that a statement passes if one of its parts does, or a body that it calls
record Gathers (W : World) (test : Code → Bool) : Type 0 where
  seq₁ : (P Q : Code) → test P ≡ true → test (seq P Q) ≡ true
  seq₂ : (P Q : Code) → test Q ≡ true → test (seq P Q) ≡ true
  par₁ : (P Q : Code) → test P ≡ true → test (par P Q) ≡ true
  par₂ : (P Q : Code) → test Q ≡ true → test (par P Q) ≡ true
  ite₁ : (d : ℕ) (e : Expr) (P Q : Code) → test P ≡ true → test (ite d e P Q) ≡ true
  ite₂ : (d : ℕ) (e : Expr) (P Q : Code) → test Q ≡ true → test (ite d e P Q) ≡ true
  whiles : (d : ℕ) (e : Expr) (P : Code) → test P ≡ true → test (while d e P) ≡ true
  repeats : (d : ℕ) (e : Expr) (P : Code) → test P ≡ true → test (repeat d e P) ≡ true
  loops : (d : ℕ) (P : Code) → test P ≡ true → test (loop d P) ≡ true
  calls : (d p : ℕ) → test (W.bodies p) ≡ true → test (call d p) ≡ true

module _ (W : World) (test : Code → Bool) (G : Gathers W test) (r : ℕ) (here : test (W.bodies r) ≡ true) where
  gather-code : (P : Code) → ((p : ℕ) → reaches W.reach P p ≡ true → reaches W.reach (W.bodies p) r ≡ true → test (W.bodies p) ≡ true)
      → reaches W.reach P r ≡ true → test P ≡ true
  unfolding reaches
  gather-code ok ih z = let e : false ≡ true = z in cc
  gather-code (tick d) ih z = let e : false ≡ true = z in cc
  gather-code (assign d x e) ih z = let e : false ≡ true = z in cc
  gather-code (assign_elem d k i e) ih z = let e : false ≡ true = z in cc
  gather-code (seq P Q) ih z =
      by-or (reaches W.reach P r) (reaches W.reach Q r) z
      (λ y. G.seq₁ P Q (gather-code P (λ p i. ih p (in_left _ (reaches W.reach Q p) i)) y))
      (λ y. G.seq₂ P Q (gather-code Q (λ p i. ih p (in_right (reaches W.reach P p) _ i)) y))
  gather-code (par P Q) ih z =
      by-or (reaches W.reach P r) (reaches W.reach Q r) z
      (λ y. G.par₁ P Q (gather-code P (λ p i. ih p (in_left _ (reaches W.reach Q p) i)) y))
      (λ y. G.par₂ P Q (gather-code Q (λ p i. ih p (in_right (reaches W.reach P p) _ i)) y))
  gather-code (ite d e P Q) ih z =
      by-or (reaches W.reach P r) (reaches W.reach Q r) z
      (λ y. G.ite₁ d e P Q (gather-code P (λ p i. ih p (in_left _ (reaches W.reach Q p) i)) y))
      (λ y. G.ite₂ d e P Q (gather-code Q (λ p i. ih p (in_right (reaches W.reach P p) _ i)) y))
  gather-code (while d e P) ih z = G.whiles d e P (gather-code P ih z)
  gather-code (repeat d e P) ih z = G.repeats d e P (gather-code P ih z)
  gather-code (loop d P) ih z = G.loops d P (gather-code P ih z)
  gather-code exit ih z = let e : false ≡ true = z in cc
  gather-code (call d p) ih z =
      by-or (eqb r p) (W.reach p r) z
      (λ y. G.calls d p (subst (λ (k : ℕ). test (W.bodies k) ≡ true) (eqb-true r p y) here))
      (λ y. G.calls d p (ih p (in_left _ (W.reach p p) (eq-eqb p p refl)) (sym (W.reach-is p r) ∙ y)))

  gather-below : (k p : ℕ) → p < k → reaches W.reach (W.bodies p) r ≡ true → test (W.bodies p) ≡ true
  gather-below zero p l z = absurd (omega arith)
  gather-below (suc k) p l z = gather-code (W.bodies p) (λ p' i. gather-below k p' (omega (arith, W.lower p p' i))) z

  gather : (P : Code) → reaches W.reach P r ≡ true → test P ≡ true
  gather P z = gather-code P (λ p i. gather-below (suc p) p (omega arith)) z

reach-laws : (W : World) (q : ℕ) → Gathers W (λ P. reaches W.reach P q)
unfolding reaches
reach-laws W q =
    record {
      seq₁ = λ P Q e. in_left _ (reaches W.reach Q q) e;
      seq₂ = λ P Q e. in_right (reaches W.reach P q) _ e;
      par₁ = λ P Q e. in_left _ (reaches W.reach Q q) e;
      par₂ = λ P Q e. in_right (reaches W.reach P q) _ e;
      ite₁ = λ d c P Q e. in_left _ (reaches W.reach Q q) e;
      ite₂ = λ d c P Q e. in_right (reaches W.reach P q) _ e;
      whiles = λ d c P e. e;
      repeats = λ d c P e. e;
      loops = λ d P e. e;
      calls = λ d p e. in_right (eqb q p) _ (W.reach-is p q ∙ e);
    }

write-laws : (W : World) (x : ℕ) → Gathers W (λ P. writes (means W P) x)
unfolding writes inline
write-laws W x =
    record {
      seq₁ = λ P Q e. in_left _ (writes (means W Q) x) e;
      seq₂ = λ P Q e. in_right (writes (means W P) x) _ e;
      par₁ = λ P Q e. in_left _ (writes (means W Q) x) e;
      par₂ = λ P Q e. in_right (writes (means W P) x) _ e;
      ite₁ = λ d c P Q e. in_left _ (writes (means W Q) x) e;
      ite₂ = λ d c P Q e. in_right (writes (means W P) x) _ e;
      whiles = λ d c P e. e;
      repeats = λ d c P e. e;
      loops = λ d P e. e;
      calls = λ d p e. ap (λ (S : Stmt). writes S x) (W.flat-is p) ∙ e;
    }

-- what is reached from a body that is reached
pub reach-on : (W : World) (P : Code) (r q : ℕ) → reaches W.reach P r ≡ true → reaches W.reach P q ≡ false
    → reaches W.reach (W.bodies r) q ≡ false
reach-on W P r q z n =
    by_bool (reaches W.reach (W.bodies r) q)
    (λ h. let e : reaches W.reach P q ≡ true = gather W (λ P. reaches W.reach P q) (reach-laws W q) r h P z in cc) (λ h. h)

-- what is written by one
pub reach-writes : (W : World) (P : Code) (r x : ℕ) → reaches W.reach P r ≡ true → writes (means W P) x ≡ false
    → writes (means W (W.bodies r)) x ≡ false
reach-writes W P r x z n =
    by_bool (writes (means W (W.bodies r)) x)
    (λ h. let e : writes (means W P) x ≡ true = gather W (λ P. writes (means W P) x) (write-laws W x) r h P z in cc) (λ h. h)
