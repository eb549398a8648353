-- What a functional circuit does from a start pulse, up to a horizon, beside what the rules say. Assumes nothing.
use Prim.Native.Nat.{ℕ, suc, ◌+◌, ◌-◌, ◌≤◌}
use Rattle.std.specs.Prelude.{◌≡◌, refl, true, false, eqb}
use Rattle.std.proofs.Common.{◌∙◌, ap, ap₂}
use Rattle.std.proofs.Math.Path.{subst, fun_ext}
use Rattle.std.proofs.Math.Logic.{inl, inr}
use native.Mathlib.Omega.{arith}
use Rattle.model.specs.Word.{pick}
use Rattle.model.specs.Program.{Expr, Stmt, ok, tick, assign, seq}
use Rattle.model.specs.Circuit.{Sig}
use Rattle.model.specs.Rules.{functional, run, Store, eval, put, Run, ended, still, at_end}
use Rattle.laws.specs.Refusals.Laws.{by_le, not-both}
use Rattle.laws.specs.Program.Fit.{Timed, exits}
use Rattle.laws.specs.Rules.Laws.{by_runs, done-time, done-words, done-still, wait-done, wait-still, chain-ended, chain-still, still_before, still-below, steady}
use Rattle.laws.specs.Rules.Uses.{never-leaves}
use Rattle.theory.specs.Control.Signal.{Quiet, glue, creep, delayed-at, delayed-quiet}
use Rattle.theory.specs.Control.Pulses.{at}
use Rattle.theory.specs.Functional.Merges.{clear-after, spaced-on, spaced-before}
use Rattle.theory.specs.Functional.Wiring.{Words, Tags, lft, rgt, Net, Seq}
use Rattle.theory.specs.Functional.Calm.{Calm, Late, calm-late, calm-closed, Flying, rest}

-- The statement -------------------------------------------------------------------------------------------------------------------------

-- on [a, b] these wires carry the words σ
abbrev pub Stable : Words → Store → ℕ → ℕ → Type 0
Stable v σ a b = (t x : ℕ) → a ≤ t → t ≤ b → v t x ≡ σ x

pub eval-stable : (e : Expr) (v : Words) (σ : Store) (a b : ℕ) → Stable v σ a b → (t : ℕ) → a ≤ t → t ≤ b → eval e (v t) ≡ eval e σ
eval-stable e v σ a b h t l k = ap (eval e) (fun_ext (λ x. h t x l k))

-- P gets a pulse at a, with nothing in flight, and no other up to b; and on [a, b] it gets the words σ
pub record Begins (E : Tags) (P : Stmt) (σ : Store) (s f : Sig) (v w : Words) (a b : ℕ) : Type 0 where
  pub calm : Calm E P a s f v w
  pub start : s a ≡ true
  pub after : Quiet s (suc a) (suc b)
  pub words : Stable v σ a b

-- P ends at c, nothing is left in flight, and it hands on the words σ from c on, up to b
pub record Ended (E : Tags) (P : Stmt) (σ : Store) (s f : Sig) (v w : Words) (a c b : ℕ) : Type 0 where
  pub quiet : Quiet f a c
  pub high : f c ≡ true
  pub words : Stable w σ c b
  pub calm : Calm E P (suc c) s f v w

-- up to the horizon u, which is the instant b, the circuit does as the rules say
pub record Does (E : Tags) (P : Stmt) (σ : Store) (s f : Sig) (v w : Words) (a b u : ℕ) : Type 0 where
  pub goes_on : run functional u P σ ≡ still → Quiet f a (suc b)
  pub ends : (t : ℕ) (σ' : Store) → run functional u P σ ≡ ended t σ' → Ended E P σ' s f v w a (a + t) b
  -- as long as it goes on, something is in flight
  pub alive : run functional u P σ ≡ still → Flying E P (suc b)
  -- and no pulse has entered a delay that held one
  pub so_far : run functional u P σ ≡ still → Late E P (suc b) s f v w

abbrev pub RunOf : Stmt → Type 1
RunOf P = (E : Tags) (σ : Store) (s f : Sig) (v w : Words) (a b u : ℕ) → a + u ≡ b → Begins E P σ s f v w a b → Does E P σ s f v w a b u

-- a statement without exits ends or goes on
pub by-ended : {A : Type 0} (P : Stmt) → exits P ≡ false → (k : ℕ) (σ : Store) → ((t : ℕ) (σ' : Store) → run functional k P σ ≡ ended t σ' → A)
    → (run functional k P σ ≡ still → A) → A
by-ended P x k σ f g = by_runs (run functional k P σ) f (λ t σ' q. never-leaves functional P x k t σ σ' q) g

-- a run that ended took no longer than its budget
pub in-time : (P : Stmt) → Timed P → (σ : Store) (u t : ℕ) (σ' : Store) → run functional u P σ ≡ ended t σ' → t ≤ u
in-time P h σ u t σ' p = (steady functional P h σ u at_end t σ' p).0

-- up to the horizon no pulse has entered a delay that held one
pub lately : (E : Tags) (P : Stmt) → Timed P → (σ : Store) (s f : Sig) (v w : Words) (a b u : ℕ) → a + u ≡ b → exits P ≡ false → Quiet s (suc a) (suc b)
    → Does E P σ s f v w a b u → Late E P (suc b) s f v w
lately E P timed σ s f v w a b u h x q D =
    by-ended P x u σ
    (λ t σ' p.
    let o : t ≤ u = in-time P timed σ u t σ' p in
    calm-late E P (suc b) s f v w
    (rest P timed E s f v w (suc (a + t)) (suc b) (D.ends t σ' p).calm (omega arith) (λ k l r. q k (omega arith) r)).calm)
    D.so_far

-- A part that is started at a, of which the surroundings stay out as long as it has not ended --------------------------------------------

pub record Launched (E : Tags) (P : Stmt) (σ : Store) (s f : Sig) (v w : Words) (a u : ℕ) : Type 0 where
  pub goes_on : run functional u P σ ≡ still → Quiet f a (suc (a + u))
  pub ends : (t : ℕ) (σ' : Store) → run functional u P σ ≡ ended t σ' → Ended E P σ' s f v w a (a + t) (a + t)
  pub alive : run functional u P σ ≡ still → Flying E P (suc (a + u))
  pub so_far : run functional u P σ ≡ still → Late E P (suc (a + u)) s f v w

module _ (E : Tags) (P : Stmt) (timed : Timed P) (does : RunOf P) (σ : Store) (s f : Sig) (v w : Words) (a u : ℕ)
    (calm : Calm E P a s f v w) (start : s a ≡ true)
    (cause : (n : ℕ) → n ≤ u → Quiet f a (a + n) → Quiet s (suc a) (suc (a + n)) × Stable v σ a (a + n)) where
  launch-to : (n : ℕ) → n ≤ u → Quiet f a (a + n) → Does E P σ s f v w a (a + n) n
  launch-to n o q =
      let c = cause n o q in
      does E σ s f v w a (a + n) n refl (record { calm = calm; start = start; after = c.0; words = c.1 })

  pub launch : Launched E P σ s f v w a u
  launch =
      let r : ℕ → Run = λ k. run functional k P σ in
      let going : run functional u P σ ≡ still → Quiet f a (suc (a + u)) =
      λ p.
      creep f a (suc (a + u))
      (λ n h q.
      (launch-to n (omega arith) q).goes_on (still-below r (steady functional P timed σ) u n p (omega arith)) (a + n) (omega arith) (omega arith)) in
      record {
        goes_on = going;
        alive = λ p. (launch-to u (omega arith) (λ t l k. going p t l (omega arith))).alive p;
        so_far = λ p. (launch-to u (omega arith) (λ t l k. going p t l (omega arith))).so_far p;
        ends = λ t σ' p.
            let i = steady functional P timed σ u at_end t σ' p in
            let q : Quiet f a (a + t) =
            creep f a (a + t)
            (λ n h q.
            (launch-to n (omega (arith, i.0)) q).goes_on (still_before r (steady functional P timed σ) u at_end t n σ' p (omega arith))
            (a + n) (omega arith) (omega arith)) in
            (launch-to t i.0 q).ends t σ' (i.1 t (omega arith));
      }

-- ok, tick, assignment ----------------------------------------------------------------------------------------------------------------------

pub run_ok : RunOf ok
unfolding run Calm Net
run_ok E σ s f v w a b u h B =
    record {
      goes_on = λ p. done-still p;
      alive = λ p. done-still p;
      so_far = λ p. done-still p;
      ends = λ t σ' p.
          let z : 0 ≡ t = done-time p in
          let q : a ≡ a + t = omega arith in
          record {
            quiet = λ k l r. absurd (omega arith);
            high = B.calm.fin (a + t) ∙ at s q B.start;
            words = λ k x l r. B.calm.words k x ∙ B.words k x (omega arith) r ∙ ap (λ (τ : Store). τ x) (done-words p);
            calm = B.calm;
          };
    }

pub run-tick : (d : ℕ) → RunOf (tick d)
unfolding run Calm Net
run-tick d E σ s f v w a b u h B =
    let q : Quiet f a (a + d) = λ t l k. B.calm.0.fin t ∙ delayed-quiet d s a a B.calm.1.0 (λ t l k. absurd (omega arith)) t l k in
    record {
      goes_on = λ p. by_le d u (λ k. done-still (wait-still d u (λ k₁. ended 0 σ) p k)) (λ k t l r. q t l (omega arith));
      alive = λ p.
          by_le d u (λ k. done-still (wait-still d u (λ k₁. ended 0 σ) p k))
          (λ k. (s, B.calm.1.1, λ c. not-both B.start (c a (omega arith) (omega arith))));
      so_far = λ p. (B.calm.0, (spaced-on d s a (suc b) B.calm.1.2 (spaced-before d s a B.calm.1.0) B.after, B.calm.1.1));
      ends = λ t σ' p.
          let i = wait-done d u (λ k₁. ended 0 σ) p in
          let z : 0 ≡ i.0 = done-time i.2 in
          let o : a + d ≡ a + t = omega (arith, i.3) in
          record {
            quiet = λ k l r. q k l (omega arith);
            high = B.calm.0.fin (a + t) ∙ delayed-at d s a (a + t) o ∙ B.start;
            words = λ k x l r. B.calm.0.words k x ∙ B.words k x (omega arith) r ∙ ap (λ (τ : Store). τ x) (done-words i.2);
            calm = (
              B.calm.0,
              (
                clear-after d s a (a + t) (omega arith) (λ k l r. B.after k l (omega (arith, i.1))),
                B.calm.1.1,
                spaced-on d s a (suc (a + t)) B.calm.1.2 (spaced-before d s a B.calm.1.0) (λ k l r. B.after k l (omega (arith, i.1))),
              ),
            );
          };
    }

pub run-assign : (d y : ℕ) (e : Expr) → RunOf (assign d y e)
unfolding run Calm Net put
run-assign d y e E σ s f v w a b u h B =
    let q : Quiet f a (a + d) = λ t l k. B.calm.0.fin t ∙ delayed-quiet d s a a B.calm.1.0 (λ t l k. absurd (omega arith)) t l k in
    let σ₁ : Store = put σ y (eval e σ) in
    record {
      goes_on = λ p. by_le d u (λ k. done-still (wait-still (d + 0) u (λ k₁. ended 0 σ₁) p (omega arith))) (λ k t l r. q t l (omega arith));
      alive = λ p.
          by_le d u (λ k. done-still (wait-still (d + 0) u (λ k₁. ended 0 σ₁) p (omega arith)))
          (λ k. (s, B.calm.1.1, λ c. not-both B.start (c a (omega arith) (omega arith))));
      so_far = λ p. (B.calm.0, (spaced-on d s a (suc b) B.calm.1.2 (spaced-before d s a B.calm.1.0) B.after, B.calm.1.1));
      ends = λ t σ' p.
          let i = wait-done (d + 0) u (λ k₁. ended 0 σ₁) p in
          let z : 0 ≡ i.0 = done-time i.2 in
          let o : a + d ≡ a + t = omega (arith, i.3) in
          record {
            quiet = λ k l r. q k l (omega arith);
            high = B.calm.0.fin (a + t) ∙ delayed-at d s a (a + t) o ∙ B.start;
            words = λ k x l r.
                B.calm.0.words k x
                ∙ ap₂ (λ (m n : ℕ). pick (eqb x y) m n) (eval-stable e v σ a b B.words k (omega arith) r) (B.words k x (omega arith) r)
                ∙ ap (λ (τ : Store). τ x) (done-words i.2);
            calm = (
              B.calm.0,
              (
                clear-after d s a (a + t) (omega arith) (λ k l r. B.after k l (omega (arith, i.1))),
                B.calm.1.1,
                spaced-on d s a (suc (a + t)) B.calm.1.2 (spaced-before d s a B.calm.1.0) (λ k l r. B.after k l (omega (arith, i.1))),
              ),
            );
          };
    }

-- Sequence ------------------------------------------------------------------------------------------------------------------------------------

module _ (E : Tags) (P Q : Stmt) (timedP : Timed P) (timedQ : Timed Q) (doesP : RunOf P) (doesQ : RunOf Q)
    (σ : Store) (s f : Sig) (v w : Words) (a b u : ℕ) (h : a + u ≡ b) (B : Begins E (seq P Q) σ s f v w a b)
    (n : Seq (Calm (lft E) P a) (Calm (rgt E) Q a) s f v w) where
  -- the first part
  seq-first : Does (lft E) P σ s n.mid v n.w₁ a b u
  seq-first = doesP (lft E) σ s n.mid v n.w₁ a b u h (record { calm = n.left; start = B.start; after = B.after; words = B.words })

  module _ (t₁ : ℕ) (σ₁ : Store) (o : t₁ ≤ u) (X : Ended (lft E) P σ₁ s n.mid v n.w₁ a (a + t₁) b) where
    -- the second part, where the first has ended
    seq-second : Does (rgt E) Q σ₁ n.mid f n.w₁ w (a + t₁) b (u - t₁)
    seq-second =
        doesQ (rgt E) σ₁ n.mid f n.w₁ w (a + t₁) b (u - t₁) (omega arith)
        (record {
          calm = (rest Q timedQ (rgt E) n.mid f n.w₁ w a (a + t₁) n.right (omega arith) X.quiet).calm;
          start = X.high;
          after = (rest P timedP (lft E) s n.mid v n.w₁ (suc (a + t₁)) (suc b) X.calm (omega arith) (λ t l k. B.after t (omega arith) k)).fin;
          words = X.words;
        })

    seq-quiet : Quiet f a (a + t₁)
    seq-quiet = (rest Q timedQ (rgt E) n.mid f n.w₁ w a (a + t₁) n.right (omega arith) X.quiet).fin

    seq-ends : (t t₂ : ℕ) (σ₂ : Store) → t ≡ t₁ + t₂ → run functional (u - t₁) Q σ₁ ≡ ended t₂ σ₂ → Ended E (seq P Q) σ₂ s f v w a (a + t) b
    unfolding Calm Net
    seq-ends t t₂ σ₂ z p =
        let q : a + t₁ + t₂ ≡ a + t = omega arith in
        let o₂ : t₂ ≤ u - t₁ = in-time Q timedQ σ₁ (u - t₁) t₂ σ₂ p in
        let E₂ : Ended (rgt E) Q σ₂ n.mid f n.w₁ w (a + t₁) (a + t) b =
        subst (λ (c : ℕ). Ended (rgt E) Q σ₂ n.mid f n.w₁ w (a + t₁) c b) q (seq-second.ends t₂ σ₂ p) in
        let r =
        rest P timedP (lft E) s n.mid v n.w₁ (suc (a + t₁)) (suc (a + t)) X.calm (omega arith) (λ t l k. B.after t (omega arith) (omega arith)) in
        record {
          quiet = glue f a (a + t₁) (a + t) seq-quiet E₂.quiet;
          high = E₂.high;
          words = E₂.words;
          calm = record { mid = n.mid; w₁ = n.w₁; left = r.calm; right = E₂.calm };
        }

  seq-does : Does E (seq P Q) σ s f v w a b u
  unfolding run Net
  seq-does =
      let onward : ℕ → Store → Run = λ t σ₁. run functional (u - t) Q σ₁ in
      record {
        goes_on = λ p.
            by-ended P (calm-closed (lft E) P a s n.mid v n.w₁ n.left) u σ
            (λ t₁ σ₁ e.
            let o : t₁ ≤ u = in-time P timedP σ u t₁ σ₁ e in
            let X = seq-first.ends t₁ σ₁ e in
            glue f a (a + t₁) (suc b) (seq-quiet t₁ σ₁ o X) ((seq-second t₁ σ₁ o X).goes_on (chain-still (run functional u P σ) onward e p)))
            (λ e. (rest Q timedQ (rgt E) n.mid f n.w₁ w a (suc b) n.right (omega arith) (seq-first.goes_on e)).fin);
        alive = λ p.
            by-ended P (calm-closed (lft E) P a s n.mid v n.w₁ n.left) u σ
            (λ t₁ σ₁ e.
            let o : t₁ ≤ u = in-time P timedP σ u t₁ σ₁ e in
            inr ((seq-second t₁ σ₁ o (seq-first.ends t₁ σ₁ e)).alive (chain-still (run functional u P σ) onward e p)))
            (λ e. inl (seq-first.alive e));
        so_far = λ p.
            by-ended P (calm-closed (lft E) P a s n.mid v n.w₁ n.left) u σ
            (λ t₁ σ₁ e.
            let o : t₁ ≤ u = in-time P timedP σ u t₁ σ₁ e in
            let X = seq-first.ends t₁ σ₁ e in
            record {
              mid = n.mid;
              w₁ = n.w₁;
              left =
                  lately (lft E) P timedP σ s n.mid v n.w₁ a b u h (calm-closed (lft E) P a s n.mid v n.w₁ n.left) B.after seq-first;
              right = (seq-second t₁ σ₁ o X).so_far (chain-still (run functional u P σ) onward e p);
            })
            (λ e.
            record {
              mid = n.mid;
              w₁ = n.w₁;
              left = seq-first.so_far e;
              right = calm-late (rgt E) Q (suc b) n.mid f n.w₁ w
                  (rest Q timedQ (rgt E) n.mid f n.w₁ w a (suc b) n.right (omega arith) (seq-first.goes_on e)).calm;
            });
        ends = λ t σ' p.
            let i = chain-ended (run functional u P σ) onward p in
            let o : i.0 ≤ u = in-time P timedP σ u i.0 i.1 i.3 in
            seq-ends i.0 i.1 o (seq-first.ends i.0 i.1 i.3) t i.2 σ' i.5 i.4;
      }

pub run-seq : (P Q : Stmt) → Timed P → Timed Q → RunOf P → RunOf Q → RunOf (seq P Q)
unfolding Calm Net
run-seq P Q timedP timedQ doesP doesQ E σ s f v w a b u h B = seq-does E P Q timedP timedQ doesP doesQ σ s f v w a b u h B B.calm
