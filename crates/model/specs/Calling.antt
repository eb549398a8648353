-- The rules of programs with procedures as a reader expects them: those of model/Rules, with the same costs, and a clause for a call. Any table of the
-- bodies' ends that obeys them tells the ends of the statement without calls that the program means: `Programs.calling` in model/ProgramPromises.
-- Assumes nothing: definitions.
use Rattle.std.specs.Prelude.{ℕ, ◌+◌, ◌<◌, max, ◌≡◌, ◌⊎◌, ◌↔◌, List, length}
use Rattle.model.specs.Word.{element_word}
use Rattle.model.specs.Program.{Code, ok, tick, assign, assign_elem, seq, par, ite, while, repeat, loop, exit, call}
use Rattle.model.specs.Procedures.{body_at, inline, inlined}
use Rattle.model.specs.Rules.{Store, eval, put, kept, IsTrue, IsFalse, Course, WhileEnds, WhileLeaves, RepeatEnds, RepeatLeaves, LoopEnds, Costs, extended, Postponed}

unfoldable mutual
  -- P, run from σ, ends after t instants with the words σ', where C p tells the ends of body p
  pub EndsIn : Costs → List Code → (ℕ → Course) → Code → Course
  EndsIn κ bodies C ok σ t σ' = (t ≡ 0) × (σ' ≡ σ)
  EndsIn κ bodies C (tick d) σ t σ' = (t ≡ d) × (σ' ≡ σ)
  -- "it takes d + w", w being `imperative w`'s write
  EndsIn κ bodies C (assign d x e) σ t σ' = (t ≡ d + κ.write) × (σ' ≡ put σ x (eval e σ))
  EndsIn κ bodies C (assign_elem d k i e) σ t σ' = (t ≡ d + κ.write) × (σ' ≡ put σ (element_word k (eval i σ)) (eval e σ))
  EndsIn κ bodies C (seq P Q) σ t σ' =
      (t₁ : ℕ) × (σ₁ : Store) × (t₂ : ℕ) × EndsIn κ bodies C P σ t₁ σ₁ × EndsIn κ bodies C Q σ₁ t₂ σ' × (t ≡ t₁ + t₂)
  -- what a side writes it writes itself or by a body that it calls
  EndsIn κ bodies C (par P Q) σ t σ' =
      (t₁ : ℕ) × (σ₁ : Store) × (t₂ : ℕ) × (σ₂ : Store) × EndsIn κ bodies C P σ t₁ σ₁ × EndsIn κ bodies C Q σ t₂ σ₂ × (t ≡ max t₁ t₂)
      × (σ' ≡ kept (inline (inlined bodies) P) (inline (inlined bodies) Q) σ σ₁ σ₂)
  EndsIn κ bodies C (ite d e P Q) σ t σ' =
      (t₁ : ℕ) × (IsTrue e σ → EndsIn κ bodies C P σ t₁ σ') × (IsFalse e σ → EndsIn κ bodies C Q σ t₁ σ') × (t ≡ d + t₁)
  EndsIn κ bodies C (while d e P) σ t σ' = (n : ℕ) × WhileEnds (EndsIn κ bodies C P) (extended κ.latch d) e n σ t σ'
  EndsIn κ bodies C (repeat d e P) σ t σ' = (n : ℕ) × RepeatEnds (Postponed κ.latch (EndsIn κ bodies C P)) d e n σ t σ'
  EndsIn κ bodies C (loop d P) σ t σ' = (n : ℕ) × LoopEnds (EndsIn κ bodies C P) (λ σ t σ'. LeavesIn κ bodies C P σ t σ') d n σ t σ'
  EndsIn κ bodies C exit σ t σ' = ⊥
  -- "Its rule: the delay, then the body."
  EndsIn κ bodies C (call d p) σ t σ' = (t₁ : ℕ) × C p σ t₁ σ' × (t ≡ d + t₁)

  -- P, run from σ, comes after t instants, with the words σ', to an exit that ends the loop around P
  pub LeavesIn : Costs → List Code → (ℕ → Course) → Code → Course
  LeavesIn κ bodies C ok σ t σ' = ⊥
  LeavesIn κ bodies C (tick d) σ t σ' = ⊥
  LeavesIn κ bodies C (assign d x e) σ t σ' = ⊥
  LeavesIn κ bodies C (assign_elem d k i e) σ t σ' = ⊥
  LeavesIn κ bodies C (seq P Q) σ t σ' =
      LeavesIn κ bodies C P σ t σ'
      ⊎ ((t₁ : ℕ) × (σ₁ : Store) × (t₂ : ℕ) × EndsIn κ bodies C P σ t₁ σ₁ × LeavesIn κ bodies C Q σ₁ t₂ σ' × (t ≡ t₁ + t₂))
  LeavesIn κ bodies C (par P Q) σ t σ' = ⊥
  LeavesIn κ bodies C (ite d e P Q) σ t σ' =
      (t₁ : ℕ) × (IsTrue e σ → LeavesIn κ bodies C P σ t₁ σ') × (IsFalse e σ → LeavesIn κ bodies C Q σ t₁ σ') × (t ≡ d + t₁)
  LeavesIn κ bodies C (while d e P) σ t σ' =
      (n : ℕ) × WhileLeaves (λ σ t σ'. EndsIn κ bodies C P σ t σ') (LeavesIn κ bodies C P) (extended κ.latch d) e n σ t σ'
  LeavesIn κ bodies C (repeat d e P) σ t σ' =
      (n : ℕ) × RepeatLeaves (Postponed κ.latch (λ σ t σ'. EndsIn κ bodies C P σ t σ')) (Postponed κ.latch (LeavesIn κ bodies C P)) d e n σ t σ'
  LeavesIn κ bodies C (loop d P) σ t σ' = ⊥
  LeavesIn κ bodies C exit σ t σ' = (t ≡ 0) × (σ' ≡ σ)
  -- "an exit stays within its body"
  LeavesIn κ bodies C (call d p) σ t σ' = ⊥

-- C obeys the rules: what it tells of each body, the clauses tell
abbrev pub Obeying : Costs → List Code → (ℕ → Course) → Type 0
Obeying κ bodies C = (p : ℕ) → p < length bodies → (σ : Store) (t : ℕ) (σ' : Store) → C p σ t σ' ↔ EndsIn κ bodies C (body_at bodies p) σ t σ'
