-- The two sides of a parallel, one after the other on the same words: from the first's last words the second does what it does from the start.
-- Assumes that the sides are apart (`Separate`), and variables below 16 (`Formed`).
use mathlib.Core.Path.{◌≡◌, refl, sym, ◌∙◌, ap, subst, fun_ext}
use mathlib.Core.Bool.{true, false}
use mathlib.Core.List.{List}
use Prim.Native.Nat.{ℕ}
use Rattle.model.specs.Word.{pick}
use Rattle.model.specs.Program.{Stmt, par, writes, touches}
use Rattle.model.specs.Rules.{Costs, Store, at_end, at_exit, Run, done, ended, still, owner, over, kept, both, run}
use Rattle.laws.specs.Program.Fit.{Formed, Separate}
use Rattle.laws.specs.Refusals.Laws.{by_bool}
use Rattle.laws.specs.Rules.Laws.{not-way}
use Rattle.laws.specs.Rules.Uses.{unwritten, writes-touches, apart-unwritten}
use Rattle.rules.specs.declared.ways.Ran.{Ran}
use Rattle.rules.specs.declared.ways.Ran.TheVariants.{Ended, Left, Unfinished}
use Rattle.rules.specs.Ran.{run_of, Unended}
use Rattle.rules.proofs.Agree.{Agree, Alike, run-alike}

-- a run that is like one that ended
ended-like : (U : ℕ → Type 0) (r : Run) (t : ℕ) (τ : Store) → Alike U r (ended t τ) → (σ : Store) × (r ≡ ended t σ) × Agree U σ τ
ended-like U (done at_end u σ) t τ h = (σ, ap (λ (t : ℕ). ended t σ) h.1, h.2)
ended-like U (done at_exit u σ) t τ h = not-way (sym h.0)
ended-like U still t τ h = absurd h

-- a second side that is like one that has not ended
unended-like : (U : ℕ → Type 0) (j : Store → Store → Store) (t : ℕ) (σ : Store) (r : Run) (g : Ran) (w : List ℕ) → Unended g → Alike U r (run_of g w)
    → both j (ended t σ) r ≡ still
unfolding both
unended-like U j t σ (done at_end u τ) (Ended v) w n h = absurd (n v refl)
unended-like U j t σ (done at_end u τ) (Left v) w n h = not-way h.0
unended-like U j t σ (done at_end u τ) Unfinished w n h = absurd h
unended-like U j t σ (done at_exit u τ) g w n h = refl
unended-like U j t σ still g w n h = refl

-- the first side ended with σ₁
module _ (κ : Costs) (P Q : Stmt) (formed : Formed (par P Q)) (apart : Separate (par P Q)) (k t : ℕ) (σ σ₁ : Store) (p : run κ k P σ ≡ ended t σ₁) where
  abbrev Touched : ℕ → Type 0
  Touched x = touches Q (owner x) ≡ true

  -- it has written nothing that the second touches
  second_alike : Alike Touched (run κ k Q σ) (run κ k Q σ₁)
  second_alike =
      run-alike Touched κ Q formed.1 (λ x r. r) k σ σ₁
      (λ x r. sym (unwritten κ P formed.0 x (apart-unwritten P Q apart.2.0 (owner x) r) k at_end t σ σ₁ p))

  pub second-unended : (g : Ran) (w : List ℕ) → Unended g → run κ k Q σ₁ ≡ run_of g w → both (kept P Q σ) (ended t σ₁) (run κ k Q σ) ≡ still
  second-unended g w n q = unended-like Touched (kept P Q σ) t σ₁ (run κ k Q σ) g w n (subst (Alike Touched (run κ k Q σ)) q second_alike)

  -- the words after both are those that each side wrote
  words-kept : (u : ℕ) (σ₂ τ : Store) → run κ k Q σ₁ ≡ ended u τ → Agree Touched σ₂ τ → τ ≡ kept P Q σ σ₁ σ₂
  unfolding kept over
  words-kept u σ₂ τ q a = fun_ext (λ x. by_bool (writes P (owner x)) (written x) (alone x))
    where
      Kept : ℕ → Type 0
      Kept x = τ x ≡ pick (writes P (owner x)) (σ₁ x) (pick (writes Q (owner x)) (σ₂ x) (σ x))

      stays : (x : ℕ) → writes Q (owner x) ≡ false → τ x ≡ σ₁ x
      stays x v = unwritten κ Q formed.1 x v k at_end u σ₁ τ q

      written : (x : ℕ) → writes P (owner x) ≡ true → Kept x
      written x b = rw b (stays x (apart-unwritten Q P apart.2.1 (owner x) (writes-touches P (owner x) b)))

      alone : (x : ℕ) → writes P (owner x) ≡ false → Kept x
      alone x b =
          rw b
          (by_bool (writes Q (owner x)) (λ v. rw v (sym (a x (writes-touches Q (owner x) v))))
          (λ v. rw v (stays x v ∙ unwritten κ P formed.0 x b k at_end t σ σ₁ p)))

  pub second_ended : (u : ℕ) (τ : Store) → run κ k Q σ₁ ≡ ended u τ → (σ₂ : Store) × (run κ k Q σ ≡ ended u σ₂) × (τ ≡ kept P Q σ σ₁ σ₂)
  second_ended u τ q =
      let s = ended-like Touched (run κ k Q σ) u τ (subst (Alike Touched (run κ k Q σ)) q second_alike) in
      (s.0, s.1, words-kept u s.0 τ q s.2)
