-- The run of each kind of statement but loops, in the form in which the code takes it.
-- Assumes of a parallel that its sides are apart (`Separate`), and variables below 16 (`Formed`).
use mathlib.Core.Path.{◌≡◌, refl, sym, ◌∙◌, ap, ap₂}
use mathlib.Core.List.{List}
use Prim.Native.Nat.{ℕ, ◌+◌, ◌-◌, ◌≤◌, ◌<◌, max}
use native.Mathlib.Omega.{arith}
use native.Mathlib.Nat.{add-zero}
use borrow.Author.Tests.{eq-eqb, ne_eqb}
use Rattle.model.specs.Word.{element_word}
use Rattle.model.specs.Program.{Expr, Stmt, ok, tick, assign, assign_elem, seq, par, ite, exit}
use Rattle.model.specs.Rules.{Costs, Store, Run, ended, still, eval, put, kept, after, wait, chain, both, run}
use Rattle.laws.specs.Program.Fit.{Formed, Separate}
use Rattle.laws.specs.Rules.Laws.{wait-is, wait-short, both_of, ite-then, ite-else}
use Rattle.rules.specs.declared.ways.Ran.{Ran}
use Rattle.rules.specs.declared.ways.Ran.TheVariants.{Ended, Left, Unfinished}
use Rattle.rules.specs.Ran.{store_of, run_of, time_of, Unended, Stands}
use Rattle.rules.proofs.Sides.{second_ended, second-unended}

-- Runs in code -------------------------------------------------------------------------------------------------------------------------

-- nothing goes on after what has not ended
pub chain-unended : (r : Ran) (w : List ℕ) → Unended r → (c : ℕ → Store → Run) → chain (run_of r w) c ≡ run_of r w
unfolding chain
chain-unended (Ended t) w n c = absurd (n t refl)
chain-unended (Left t) w n c = refl
chain-unended Unfinished w n c = refl

pub stands-still : {k : ℕ} {R : Run} {w : List ℕ} → R ≡ still → Stands k R Unfinished w
stands-still e = record { is = sym e; within = omega arith }

-- the same statement by another name
pub stands-as : (κ : Costs) {P Q : Stmt} (k : ℕ) (σ : Store) (r : Ran) (w : List ℕ) → P ≡ Q → Stands k (run κ k Q σ) r w → Stands k (run κ k P σ) r w
stands-as κ k σ r w e S = record { is = S.is ∙ sym (ap (λ (P : Stmt). run κ k P σ) e); within = S.within }

-- Waiting ------------------------------------------------------------------------------------------------------------------------------

pub wait-ends : (d k : ℕ) (σ : Store) → d ≤ k → wait d k (λ k₁. ended 0 σ) ≡ ended d σ
unfolding after
wait-ends d k σ h = wait-is d k _ h ∙ ap (λ (t : ℕ). ended t σ) (add-zero d)

module _ (κ : Costs) (k : ℕ) (σ : Store) (r : Ran) (w : List ℕ) where
  pub run-assign : (d x : ℕ) (e : Expr) (v : ℕ) (τ : Store) → v ≡ eval e σ → τ ≡ put σ x v
      → Stands k (wait (d + κ.write) k (λ k₁. ended 0 τ)) r w → Stands k (run κ k (assign d x e) σ) r w
  unfolding run
  run-assign d x e v τ ev et S =
      let f : τ ≡ put σ x (eval e σ) = et ∙ ap (put σ x) ev in
      record { is = S.is ∙ ap (λ (τ : Store). wait (d + κ.write) k (λ k₁. ended 0 τ)) f; within = S.within }

  pub run-assign-elem : (d j : ℕ) (i e : Expr) (y x v : ℕ) (τ : Store) → y ≡ eval i σ → x ≡ element_word j y → v ≡ eval e σ → τ ≡ put σ x v
      → Stands k (wait (d + κ.write) k (λ k₁. ended 0 τ)) r w → Stands k (run κ k (assign_elem d j i e) σ) r w
  unfolding run
  run-assign-elem d j i e y x v τ ey ex ev et S =
      let f : τ ≡ put σ (element_word j (eval i σ)) (eval e σ) = et ∙ ap₂ (put σ) (ex ∙ ap (element_word j) ey) ev in
      record { is = S.is ∙ ap (λ (τ : Store). wait (d + κ.write) k (λ k₁. ended 0 τ)) f; within = S.within }

-- neither nothing nor an exit takes time
module _ (κ : Costs) (k : ℕ) (w : List ℕ) where
  pub run_ok : Stands k (run κ k ok (store_of w)) (Ended 0) w
  unfolding run
  run_ok = record { is = refl; within = omega arith }

  pub run-exit : Stands k (run κ k exit (store_of w)) (Left 0) w
  unfolding run
  run-exit = record { is = refl; within = omega arith }

-- Sequence -----------------------------------------------------------------------------------------------------------------------------

module _ (κ : Costs) (P Q : Stmt) (k : ℕ) (σ : Store) (u : List ℕ) where
  pub seq-ends : (t : ℕ) → Stands k (run κ k P σ) (Ended t) u → (g r : Ran) (w : List ℕ) → Stands (k - t) (run κ (k - t) Q (store_of u)) g w
      → Stands (t + time_of g) (after t (run_of g w)) r w → Stands k (run κ k (seq P Q) σ) r w
  unfolding run chain
  seq-ends t F g r w G S =
      record {
        is = S.is ∙ ap (after t) G.is ∙ ap (λ (q : Run). chain q (λ t σ₁. run κ (k - t) Q σ₁)) F.is;
        within = omega (arith, F.within, G.within, S.within);
      }

  -- a first part that has not ended is the whole run
  pub seq-unended : (f : Ran) → Stands k (run κ k P σ) f u → Unended f → Stands k (run κ k (seq P Q) σ) f u
  unfolding run
  seq-unended f F n =
      record {
        is = sym (chain-unended f u n (λ t σ₁. run κ (k - t) Q σ₁)) ∙ ap (λ (q : Run). chain q (λ t σ₁. run κ (k - t) Q σ₁)) F.is;
        within = F.within;
      }

-- a call is its delay, and then the body
module _ (κ : Costs) (d : ℕ) (P : Stmt) (k : ℕ) (σ : Store) (w : List ℕ) where
  pub call-still : k < d → Stands k (run κ k (seq (tick d) P) σ) Unfinished w
  unfolding run chain
  call-still l = stands-still (ap (λ (q : Run). chain q (λ t σ₁. run κ (k - t) P σ₁)) (wait-short d k _ l))

  pub call-on : d ≤ k → (g r : Ran) → Stands (d + time_of g) (after d (run_of g w)) r w → Stands (k - d) (run κ (k - d) P σ) g w
      → Stands k (run κ k (seq (tick d) P) σ) r w
  unfolding run chain
  call-on l g r S G =
      record {
        is = S.is ∙ ap (after d) G.is ∙ sym (ap (λ (q : Run). chain q (λ t σ₁. run κ (k - t) P σ₁)) (wait-ends d k σ l));
        within = omega (arith, S.within, G.within);
      }

-- Parallel -----------------------------------------------------------------------------------------------------------------------------

module _ (κ : Costs) (P Q : Stmt) (k : ℕ) (σ : Store) where
  pub par-still : (f : Ran) (u : List ℕ) → Stands k (run κ k P σ) f u → Unended f → (w : List ℕ) → Stands k (run κ k (par P Q) σ) Unfinished w
  unfolding run both
  par-still f u F n w = stands-still (ap (λ (q : Run). both (kept P Q σ) q (run κ k Q σ)) (sym F.is) ∙ go f n)
    where
      go : (f : Ran) → Unended f → both (kept P Q σ) (run_of f u) (run κ k Q σ) ≡ still
      go (Ended t) n = absurd (n t refl)
      go (Left t) n = refl
      go Unfinished n = refl

  -- the first side ended and left u; the second g ran from u and left w
  module _ (formed : Formed (par P Q)) (apart : Separate (par P Q)) (t : ℕ) (u : List ℕ) (F : Stands k (run κ k P σ) (Ended t) u) where
    pub par-second-still : (g : Ran) (w : List ℕ) → Stands k (run κ k Q (store_of u)) g w → Unended g → (v : List ℕ) → Stands k (run κ k (par P Q) σ) Unfinished v
    unfolding run
    par-second-still g w G n v =
        stands-still
        (ap (λ (q : Run). both (kept P Q σ) q (run κ k Q σ)) (sym F.is)
        ∙ second-unended κ P Q formed apart k t σ (store_of u) (sym F.is) g w n (sym G.is))

    pub par-ends : (t' : ℕ) (w : List ℕ) → Stands k (run κ k Q (store_of u)) (Ended t') w → (m : ℕ) → m ≡ max t t' → Stands k (run κ k (par P Q) σ) (Ended m) w
    unfolding run
    par-ends t' w G m em =
        let q = second_ended κ P Q formed apart k t σ (store_of u) (sym F.is) t' (store_of w) (sym G.is) in
        record {
          is = ap₂ ended em q.2 ∙ sym (both_of (kept P Q σ) _ _ (sym F.is) q.1);
          within = omega (arith, em, F.within, G.within);
        }

-- If -----------------------------------------------------------------------------------------------------------------------------------

module _ (κ : Costs) (d : ℕ) (e : Expr) (P Q : Stmt) (k : ℕ) (σ : Store) where
  pub if-still : k < d → (w : List ℕ) → Stands k (run κ k (ite d e P Q) σ) Unfinished w
  unfolding run
  if-still l w = stands-still (wait-short d k _ l)

  module _ (l : d ≤ k) (v : ℕ) (ev : v ≡ eval e σ) (g r : Ran) (w : List ℕ) (S : Stands (d + time_of g) (after d (run_of g w)) r w) where
    pub if-else : v ≡ 0 → Stands (k - d) (run κ (k - d) Q σ) g w → Stands k (run κ k (ite d e P Q) σ) r w
    if-else z G =
        record {
          is = S.is ∙ ap (after d) G.is ∙ sym (ite-else κ k d e P Q σ (eq-eqb _ 0 (sym ev ∙ z)) ∙ wait-is d k _ l);
          within = omega (arith, S.within, G.within);
        }

    pub if-then : (v ≡ 0 → ⊥) → Stands (k - d) (run κ (k - d) P σ) g w → Stands k (run κ k (ite d e P Q) σ) r w
    if-then n G =
        record {
          is = S.is ∙ ap (after d) G.is ∙ sym (ite-then κ k d e P Q σ (ne_eqb _ 0 (λ z. n (ev ∙ z))) ∙ wait-is d k _ l);
          within = omega (arith, S.within, G.within);
        }
