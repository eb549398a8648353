-- The rules with calls, as a reader expects them, are those of the statement without calls: any table of the bodies' ends that obeys them says of each
-- statement what its rules without calls say, and such a table exists.
-- Assumes nothing.
use Prim.Native.Nat.{ℕ, zero, suc, ◌<◌, ◌≤◌}
use Rattle.std.specs.Prelude.{◌≡◌, refl, false, List, ◌↔◌, length}
use Rattle.std.proofs.Common.{sym, arith}
use Rattle.std.proofs.Math.Path.{subst}
use Rattle.std.proofs.Math.Logic.{inl, inr, ⊎_elim}
use Rattle.model.specs.Program.{Expr, Code, Stmt, ok, tick, assign, assign_elem, seq, par, ite, while, repeat, loop, exit, call, Program}
use Rattle.model.specs.Procedures.{body_at, inline, inlined, meaning}
use Rattle.model.specs.Rules.{Costs, extended, Postponed, Store, Course, WhileEnds, WhileLeaves, RepeatEnds, RepeatLeaves, LoopEnds, Ends, Leaves}
use Rattle.model.specs.Calling.{EndsIn, LeavesIn, Obeying}
use Rattle.laws.specs.Program.Fit.{Earlier, exits}
use Rattle.laws.specs.Program.Admitted.{Admitted, flat-is, plain_closed}
use Rattle.laws.specs.Rules.Uses.{never-left}

-- Loops ----------------------------------------------------------------------------------------------------------------------------------

-- of bodies that do what others do
module _ (R R' L L' : Course) (h : (σ : Store) (t : ℕ) (σ' : Store) → R σ t σ' → R' σ t σ') (l : (σ : Store) (t : ℕ) (σ' : Store) → L σ t σ' → L' σ t σ')
    (d : ℕ) where
  module _ (e : Expr) where
    while-ends : (n : ℕ) (σ : Store) (t : ℕ) (σ' : Store) → WhileEnds R d e n σ t σ' → WhileEnds R' d e n σ t σ'
    unfolding WhileEnds
    while-ends zero σ t σ' w = w
    while-ends (suc n) σ t σ' w = (w.0, w.1, w.2, w.3, h σ w.0 w.1 w.4, while-ends n w.1 w.2 σ' w.5, w.6)

    while-leaves : (n : ℕ) (σ : Store) (t : ℕ) (σ' : Store) → WhileLeaves R L d e n σ t σ' → WhileLeaves R' L' d e n σ t σ'
    unfolding WhileLeaves
    while-leaves zero σ t σ' w = (w.0, w.1, l σ w.0 σ' w.2, w.3)
    while-leaves (suc n) σ t σ' w = (w.0, w.1, w.2, w.3, h σ w.0 w.1 w.4, while-leaves n w.1 w.2 σ' w.5, w.6)

    repeat-ends : (n : ℕ) (σ : Store) (t : ℕ) (σ' : Store) → RepeatEnds R d e n σ t σ' → RepeatEnds R' d e n σ t σ'
    unfolding RepeatEnds
    repeat-ends zero σ t σ' w = (w.0, h σ w.0 σ' w.1, w.2, w.3)
    repeat-ends (suc n) σ t σ' w = (w.0, w.1, w.2, h σ w.0 w.1 w.3, w.4, repeat-ends n w.1 w.2 σ' w.5, w.6)

    repeat-leaves : (n : ℕ) (σ : Store) (t : ℕ) (σ' : Store) → RepeatLeaves R L d e n σ t σ' → RepeatLeaves R' L' d e n σ t σ'
    unfolding RepeatLeaves
    repeat-leaves zero σ t σ' w = l σ t σ' w
    repeat-leaves (suc n) σ t σ' w = (w.0, w.1, w.2, h σ w.0 w.1 w.3, w.4, repeat-leaves n w.1 w.2 σ' w.5, w.6)

  loop-ends : (n : ℕ) (σ : Store) (t : ℕ) (σ' : Store) → LoopEnds R L d n σ t σ' → LoopEnds R' L' d n σ t σ'
  unfolding LoopEnds
  loop-ends zero σ t σ' w = l σ t σ' w
  loop-ends (suc n) σ t σ' w = (w.0, w.1, w.2, h σ w.0 w.1 w.3, loop-ends n w.1 w.2 σ' w.4, w.5)

postponed-same : (n : ℕ) (R R' : Course) → ((σ : Store) (t : ℕ) (σ' : Store) → R σ t σ' ↔ R' σ t σ')
    → (σ : Store) (t : ℕ) (σ' : Store) → Postponed n R σ t σ' ↔ Postponed n R' σ t σ'
postponed-same zero R R' h σ t σ' = h σ t σ'
postponed-same (suc n) R R' h σ t σ' = (λ w. (w.0, (h σ w.0 σ').0 w.1, w.2), λ w. (w.0, (h σ w.0 σ').1 w.1, w.2))

-- Statements -----------------------------------------------------------------------------------------------------------------------------

module _ (κ : Costs) (bodies : List Code) (C : ℕ → Course) (k : ℕ) (closed : (p : ℕ) → exits (inlined bodies p) ≡ false)
    (told : (p : ℕ) → p < k → (σ : Store) (t : ℕ) (σ' : Store) → C p σ t σ' ↔ Ends κ (inlined bodies p) σ t σ') where
  abbrev I : ℕ → Stmt
  I = inlined bodies

  abbrev Same : Code → Type 0
  Same P =
      (σ : Store) (t : ℕ) (σ' : Store)
      → (EndsIn κ bodies C P σ t σ' ↔ Ends κ (inline I P) σ t σ') × (LeavesIn κ bodies C P σ t σ' ↔ Leaves κ (inline I P) σ t σ')

  same : (P : Code) → Earlier k P → Same P
  unfolding EndsIn LeavesIn Ends Leaves inline
  same ok g σ t σ' = ((λ w. w, λ w. w), (λ w. w, λ w. w))
  same (tick d) g σ t σ' = ((λ w. w, λ w. w), (λ w. w, λ w. w))
  same (assign d x e) g σ t σ' = ((λ w. w, λ w. w), (λ w. w, λ w. w))
  same (assign_elem d j i e) g σ t σ' = ((λ w. w, λ w. w), (λ w. w, λ w. w))
  same (seq P Q) g σ t σ' =
      let p = same P g.0 in
      let q = same Q g.1 in (
        (
          (λ w. (w.0, w.1, w.2, (p σ w.0 w.1).0.0 w.3, (q w.1 w.2 σ').0.0 w.4, w.5)),
          (λ w. (w.0, w.1, w.2, (p σ w.0 w.1).0.1 w.3, (q w.1 w.2 σ').0.1 w.4, w.5)),
        ),
        (
          (λ w.
              ⊎_elim (λ v. inl ((p σ t σ').1.0 v))
              (λ v. inr (v.0, v.1, v.2, (p σ v.0 v.1).0.0 v.3, (q v.1 v.2 σ').1.0 v.4, v.5)) w),
          (λ w.
              ⊎_elim (λ v. inl ((p σ t σ').1.1 v))
              (λ v. inr (v.0, v.1, v.2, (p σ v.0 v.1).0.1 v.3, (q v.1 v.2 σ').1.1 v.4, v.5)) w),
        ),
      )
  same (par P Q) g σ t σ' =
      let p = same P g.0 in
      let q = same Q g.1 in (
        (
          (λ w. (w.0, w.1, w.2, w.3, (p σ w.0 w.1).0.0 w.4, (q σ w.2 w.3).0.0 w.5, w.6, w.7)),
          (λ w. (w.0, w.1, w.2, w.3, (p σ w.0 w.1).0.1 w.4, (q σ w.2 w.3).0.1 w.5, w.6, w.7)),
        ),
        (λ w. w, λ w. w),
      )
  same (ite d e P Q) g σ t σ' =
      let p = same P g.2 in
      let q = same Q g.3 in (
        (
          (λ w. (w.0, λ z. (p σ w.0 σ').0.0 (w.1 z), λ z. (q σ w.0 σ').0.0 (w.2 z), w.3)),
          (λ w. (w.0, λ z. (p σ w.0 σ').0.1 (w.1 z), λ z. (q σ w.0 σ').0.1 (w.2 z), w.3)),
        ),
        (
          (λ w. (w.0, λ z. (p σ w.0 σ').1.0 (w.1 z), λ z. (q σ w.0 σ').1.0 (w.2 z), w.3)),
          (λ w. (w.0, λ z. (p σ w.0 σ').1.1 (w.1 z), λ z. (q σ w.0 σ').1.1 (w.2 z), w.3)),
        ),
      )
  same (while d e P) g σ t σ' =
      let p = same P g.2 in
      let R = EndsIn κ bodies C P in
      let L = LeavesIn κ bodies C P in
      let R' = Ends κ (inline I P) in
      let L' = Leaves κ (inline I P) in (
        (
          (λ w. (w.0, while-ends R R' L L' (λ σ t σ'. (p σ t σ').0.0) (λ σ t σ'. (p σ t σ').1.0) (extended κ.latch d) e w.0 σ t σ' w.1)),
          (λ w. (w.0, while-ends R' R L' L (λ σ t σ'. (p σ t σ').0.1) (λ σ t σ'. (p σ t σ').1.1) (extended κ.latch d) e w.0 σ t σ' w.1)),
        ),
        (
          (λ w. (w.0, while-leaves R R' L L' (λ σ t σ'. (p σ t σ').0.0) (λ σ t σ'. (p σ t σ').1.0) (extended κ.latch d) e w.0 σ t σ' w.1)),
          (λ w. (w.0, while-leaves R' R L' L (λ σ t σ'. (p σ t σ').0.1) (λ σ t σ'. (p σ t σ').1.1) (extended κ.latch d) e w.0 σ t σ' w.1)),
        ),
      )
  same (repeat d e P) g σ t σ' =
      let p = same P g.2 in
      let R = Postponed κ.latch (EndsIn κ bodies C P) in
      let L = Postponed κ.latch (LeavesIn κ bodies C P) in
      let R' = Postponed κ.latch (Ends κ (inline I P)) in
      let L' = Postponed κ.latch (Leaves κ (inline I P)) in
      let h = postponed-same κ.latch (EndsIn κ bodies C P) (Ends κ (inline I P)) (λ σ t σ'. (p σ t σ').0) in
      let l = postponed-same κ.latch (LeavesIn κ bodies C P) (Leaves κ (inline I P)) (λ σ t σ'. (p σ t σ').1) in (
        (
          (λ w. (w.0, repeat-ends R R' L L' (λ σ t σ'. (h σ t σ').0) (λ σ t σ'. (l σ t σ').0) d e w.0 σ t σ' w.1)),
          (λ w. (w.0, repeat-ends R' R L' L (λ σ t σ'. (h σ t σ').1) (λ σ t σ'. (l σ t σ').1) d e w.0 σ t σ' w.1)),
        ),
        (
          (λ w. (w.0, repeat-leaves R R' L L' (λ σ t σ'. (h σ t σ').0) (λ σ t σ'. (l σ t σ').0) d e w.0 σ t σ' w.1)),
          (λ w. (w.0, repeat-leaves R' R L' L (λ σ t σ'. (h σ t σ').1) (λ σ t σ'. (l σ t σ').1) d e w.0 σ t σ' w.1)),
        ),
      )
  same (loop d P) g σ t σ' =
      let p = same P g.1 in
      let R = EndsIn κ bodies C P in
      let L = LeavesIn κ bodies C P in
      let R' = Ends κ (inline I P) in
      let L' = Leaves κ (inline I P) in (
        (
          (λ w. (w.0, loop-ends R R' L L' (λ σ t σ'. (p σ t σ').0.0) (λ σ t σ'. (p σ t σ').1.0) d w.0 σ t σ' w.1)),
          (λ w. (w.0, loop-ends R' R L' L (λ σ t σ'. (p σ t σ').0.1) (λ σ t σ'. (p σ t σ').1.1) d w.0 σ t σ' w.1)),
        ),
        (λ w. w, λ w. w),
      )
  same exit g σ t σ' = ((λ w. w, λ w. w), (λ w. w, λ w. w))
  -- "the delay, then the body"; "an exit stays within its body"
  same (call d p) g σ t σ' = (
    (
      (λ w. (d, σ, w.0, (refl, refl), (told p g.1 σ w.0 σ').0 w.1, w.2)),
      (λ w.
          let q : Ends κ (I p) σ w.2 σ' = subst (λ (τ : Store). Ends κ (I p) τ w.2 σ') w.3.1 w.4 in
          (w.2, (told p g.1 σ w.2 σ').1 q, omega (arith, w.3.0, w.5))),
    ),
    (
      (λ w. absurd w),
      (λ w. ⊎_elim (λ v. v) (λ v. never-left κ (I p) (closed p) v.1 v.2 σ' v.4) w),
    ),
  )

-- Programs -------------------------------------------------------------------------------------------------------------------------------

module _ (κ : Costs) (S : Program) (A : Admitted S) where
  closed : (p : ℕ) → exits (inlined S.bodies p) ≡ false
  closed = plain_closed S A

  -- what the bodies mean obeys the rules
  pub meanings-obey : Obeying κ S.bodies (λ p. Ends κ (inlined S.bodies p))
  meanings-obey p l σ t σ' =
      let s =
      (same κ S.bodies (λ p. Ends κ (inlined S.bodies p)) p closed (λ q o σ t σ'. (λ z. z, λ z. z)) (body_at S.bodies p) (A.body p).earlier σ t σ').0 in (
        (λ w. s.1 (subst (λ (P : Stmt). Ends κ P σ t σ') (flat-is S A p) w)),
        (λ w. subst (λ (P : Stmt). Ends κ P σ t σ') (sym (flat-is S A p)) (s.0 w)),
      )

  -- and nothing else does: by the numbers, since a body calls only earlier ones
  module _ (C : ℕ → Course) (obeys : Obeying κ S.bodies C) where
    only : (k : ℕ) → k ≤ length S.bodies → (p : ℕ) → p < k → (σ : Store) (t : ℕ) (σ' : Store) → C p σ t σ' ↔ Ends κ (inlined S.bodies p) σ t σ'
    only zero o p l σ t σ' = absurd (omega arith)
    only (suc k) o p l σ t σ' =
        let s = (same κ S.bodies C p closed (λ q j. only k (omega arith) q (omega arith)) (body_at S.bodies p) (A.body p).earlier σ t σ').0 in
        let b = obeys p (omega arith) σ t σ' in (
          (λ w. subst (λ (P : Stmt). Ends κ P σ t σ') (sym (flat-is S A p)) (s.0 (b.0 w))),
          (λ w. b.1 (s.1 (subst (λ (P : Stmt). Ends κ P σ t σ') (flat-is S A p) w))),
        )

    pub main-rules : (σ : Store) (t : ℕ) (σ' : Store) → EndsIn κ S.bodies C S.main σ t σ' ↔ Ends κ (meaning S) σ t σ'
    unfolding meaning
    main-rules σ t σ' =
        (same κ S.bodies C (length S.bodies) closed (only (length S.bodies) (omega arith)) S.main A.main.earlier σ t σ').0
