-- What the functional circuits of a parallel and of an if do. Assumes nothing.
use Rattle.std.specs.Prelude.{ℕ, suc, ◌+◌, ◌-◌, ◌≤◌, ◌<◌, max, ◌≡◌, refl, Bool, true, false, not, ◌&&◌, ◌||◌}
use Rattle.std.proofs.Common.{sym, ◌∙◌, ap, ap₂, arith}
use Rattle.std.proofs.Math.Path.{subst}
use Rattle.std.proofs.Math.Bool.{or_comm}
use Rattle.std.proofs.Math.Logic.{inl, inr}
use Rattle.model.specs.Word.{pick, is_zero}
use Rattle.model.specs.Program.{Expr, Stmt, par, ite}
use Rattle.model.specs.Circuit.{Sig, delayed}
use Rattle.model.specs.Rules.{functional, run, Store, eval, over, kept, ended, still}
use Rattle.laws.specs.Refusals.Laws.{by_bool, by_le, not-both}
use Rattle.laws.specs.Program.Fit.{Timed}
use Rattle.laws.specs.Rules.Laws.{wait-done, wait-still, both-done, both-still, ite-then, ite-else}
use Rattle.laws.specs.Rules.Uses.{never-leaves}
use Rattle.theory.specs.Control.Wiring.{◌≈◌, either}
use Rattle.theory.specs.Control.Signal.{Quiet, Clear, glue, delayed-at, delayed-quiet}
use Rattle.theory.specs.Control.Pulses.{at}
use Rattle.theory.specs.Functional.Merges.{glue_at, delayed-after, clear-after, Spaced, spaced-on, spaced-before, Empty, Meets, meets, meets-swap, empty-swap, merged-left, merged-right}
use Rattle.theory.specs.Functional.Wiring.{Words, here, Tags, lft, rgt, Net, Par, Ite}
use Rattle.theory.specs.Functional.Calm.{Calm, Late, calm-late, calm-closed, Flying, Rests, rest}
use Rattle.theory.specs.Functional.Runs.{Stable, eval-stable, Begins, Ended, Does, RunOf, in-time, lately}

-- Parallel --------------------------------------------------------------------------------------------------------------------------------

kept_same : (P Q : Stmt) (σ σ₁ σ₂ τ τ₁ τ₂ : Store) (x : ℕ) → σ x ≡ τ x → σ₁ x ≡ τ₁ x → σ₂ x ≡ τ₂ x → kept P Q σ σ₁ σ₂ x ≡ kept P Q τ τ₁ τ₂ x
unfolding kept over
kept_same P Q σ σ₁ σ₂ τ τ₁ τ₂ x p q r = rw (p, q, r) refl

module _ (E : Tags) (P Q : Stmt) (timedP : Timed P) (timedQ : Timed Q) (doesP : RunOf P) (doesQ : RunOf Q)
    (σ : Store) (s f : Sig) (v w : Words) (a b u : ℕ) (h : a + u ≡ b) (B : Begins E (par P Q) σ s f v w a b)
    (n : Par P Q (Calm (lft E) P a) (Calm (rgt E) Q a) (λ f g. Empty f g a × E.merge here f g) s f v w) where
  side₁ : Does (lft E) P σ s n.f₁ v n.w₁ a b u
  side₁ = doesP (lft E) σ s n.f₁ v n.w₁ a b u h (record { calm = n.left; start = B.start; after = B.after; words = B.words })

  side₂ : Does (rgt E) Q σ s n.f₂ v n.w₂ a b u
  side₂ = doesQ (rgt E) σ s n.f₂ v n.w₂ a b u h (record { calm = n.right; start = B.start; after = B.after; words = B.words })

  module _ (t₁ : ℕ) (σ₁ : Store) (t₂ : ℕ) (σ₂ : Store) (t : ℕ) (o : t ≤ u) (y : t ≡ max t₁ t₂)
      (E₁ : Ended (lft E) P σ₁ s n.f₁ v n.w₁ a (a + t₁) b) (E₂ : Ended (rgt E) Q σ₂ s n.f₂ v n.w₂ a (a + t₂) b) where
    rests₁ : Rests (lft E) P s n.f₁ v n.w₁ (suc (a + t₁)) (suc (a + t))
    rests₁ =
        rest P timedP (lft E) s n.f₁ v n.w₁ (suc (a + t₁)) (suc (a + t)) E₁.calm (omega arith) (λ k l r. B.after k (omega arith) (omega arith))

    rests₂ : Rests (rgt E) Q s n.f₂ v n.w₂ (suc (a + t₂)) (suc (a + t))
    rests₂ =
        rest Q timedQ (rgt E) s n.f₂ v n.w₂ (suc (a + t₂)) (suc (a + t)) E₂.calm (omega arith) (λ k l r. B.after k (omega arith) (omega arith))

    par-meets : Quiet f a (a + t) × Meets n.f₁ n.f₂ (a + t)
    par-meets =
        by_le t₁ t₂
        (λ k.
        let q : a + t₂ ≡ a + t = omega arith in
        let g : Quiet n.f₂ a (a + t) = λ t l r. E₂.quiet t l (omega arith) in (
          λ t l r. n.fin t ∙ merged-right n.f₁ n.f₂ a (suc t) n.merge.0 (λ i j k. g i j (omega arith)) t l (omega arith),
          meets n.f₁ n.f₂ a (a + t₁) (a + t) (omega arith) (omega arith) n.merge.0 E₁.quiet E₁.high rests₁.fin g
              (at n.f₂ q E₂.high),
        ))
        (λ k.
        let q : a + t₁ ≡ a + t = omega arith in
        let g : Quiet n.f₁ a (a + t) = λ t l r. E₁.quiet t l (omega arith) in (
          λ t l r. n.fin t ∙ merged-left n.f₁ n.f₂ a (suc t) n.merge.0 (λ i j k. g i j (omega arith)) t l (omega arith),
          meets-swap n.f₁ n.f₂ (a + t)
              (meets n.f₂ n.f₁ a (a + t₂) (a + t) (omega arith) (omega arith) (empty-swap n.f₁ n.f₂ a n.merge.0) E₂.quiet E₂.high
              rests₂.fin g (at n.f₁ q E₁.high)),
        ))

    par-ends : Ended E (par P Q) (kept P Q σ σ₁ σ₂) s f v w a (a + t) b
    unfolding Calm Net
    par-ends =
        record {
          quiet = par-meets.0;
          high = n.fin (a + t) ∙ par-meets.1.0;
          words = λ k x l r.
              n.words k x
              ∙ kept_same P Q (v k) (n.w₁ k) (n.w₂ k) σ σ₁ σ₂ x (B.words k x (omega arith) r) (E₁.words k x (omega arith) r)
              (E₂.words k x (omega arith) r);
          calm = record {
            f₁ = n.f₁;
            w₁ = n.w₁;
            f₂ = n.f₂;
            w₂ = n.w₂;
            left = rests₁.calm;
            right = rests₂.calm;
            words = n.words;
            fin = n.fin;
            merge = (par-meets.1.1, n.merge.1);
          };
        }

  par-does : Does E (par P Q) σ s f v w a b u
  unfolding run Net
  par-does =
      record {
        goes_on = λ p.
            both-still (kept P Q σ) (run functional u P σ) (run functional u Q σ) p
            (λ t σ' q. never-leaves functional P (calm-closed (lft E) P a s n.f₁ v n.w₁ n.left) u t σ σ' q)
            (λ t σ' q. never-leaves functional Q (calm-closed (rgt E) Q a s n.f₂ v n.w₂ n.right) u t σ σ' q)
            (λ q t l k. n.fin t ∙ merged-left n.f₁ n.f₂ a (suc b) n.merge.0 (side₁.goes_on q) t l k)
            (λ q t l k. n.fin t ∙ merged-right n.f₁ n.f₂ a (suc b) n.merge.0 (side₂.goes_on q) t l k);
        alive = λ p.
            both-still (kept P Q σ) (run functional u P σ) (run functional u Q σ) p
            (λ t σ' q. never-leaves functional P (calm-closed (lft E) P a s n.f₁ v n.w₁ n.left) u t σ σ' q)
            (λ t σ' q. never-leaves functional Q (calm-closed (rgt E) Q a s n.f₂ v n.w₂ n.right) u t σ σ' q)
            (λ q. inl (side₁.alive q)) (λ q. inr (side₂.alive q));
        so_far = λ p.
            record {
              f₁ = n.f₁;
              w₁ = n.w₁;
              f₂ = n.f₂;
              w₂ = n.w₂;
              left =
                  lately (lft E) P timedP σ s n.f₁ v n.w₁ a b u h (calm-closed (lft E) P a s n.f₁ v n.w₁ n.left) B.after side₁;
              right =
                  lately (rgt E) Q timedQ σ s n.f₂ v n.w₂ a b u h (calm-closed (rgt E) Q a s n.f₂ v n.w₂ n.right) B.after side₂;
              words = n.words;
              fin = n.fin;
              merge = (tt, n.merge.1);
            };
        ends = λ t σ' p.
            let i = both-done (kept P Q σ) (run functional u P σ) (run functional u Q σ) p in
            let o₁ : i.0 ≤ u = in-time P timedP σ u i.0 i.1 i.4 in
            let o₂ : i.2 ≤ u = in-time Q timedQ σ u i.2 i.3 i.5 in
            subst (λ (τ : Store). Ended E (par P Q) τ s f v w a (a + t) b) (sym i.7)
            (par-ends i.0 i.1 i.2 i.3 t (omega (arith, i.6)) i.6 (side₁.ends i.0 i.1 i.4) (side₂.ends i.2 i.3 i.5));
      }

pub run-par : (P Q : Stmt) → Timed P → Timed Q → RunOf P → RunOf Q → RunOf (par P Q)
unfolding Calm Net
run-par P Q timedP timedQ doesP doesQ E σ s f v w a b u h B = par-does E P Q timedP timedQ doesP doesQ σ s f v w a b u h B B.calm

-- A branch --------------------------------------------------------------------------------------------------------------------------------

-- the branch R, which is taken, ends at c and hands on σ', and the other, O, has been at rest
pub record Branched (ER EO : Tags) (R O : Stmt) (σ' : Store) (f sR fR : Sig) (wR : Words) (sO fO : Sig) (wO v : Words) (a c b : ℕ) : Type 0 where
  pub quiet : Quiet f a c
  pub high : f c ≡ true
  pub words : Stable wR σ' c b
  pub taken : Calm ER R (suc c) sR fR v wR
  pub other : Calm EO O (suc c) sO fO v wO

pub record Branch (ER EO : Tags) (R O : Stmt) (σ : Store) (f sR fR : Sig) (wR : Words) (sO fO : Sig) (wO v : Words) (a b u d : ℕ) : Type 0 where
  pub goes_on : run functional (u - d) R σ ≡ still → Quiet f a (suc b)
  pub alive : run functional (u - d) R σ ≡ still → Flying ER R (suc b)
  pub taken : run functional (u - d) R σ ≡ still → Late ER R (suc b) sR fR v wR
  pub other : Late EO O (suc b) sO fO v wO
  pub ends : (t t₁ : ℕ) (σ' : Store) → t ≡ d + t₁ → run functional (u - d) R σ ≡ ended t₁ σ' → Branched ER EO R O σ' f sR fR wR sO fO wO v a (a + t) b

-- R gets its pulse at a + d, and O gets none
module _ (ER EO : Tags) (R O : Stmt) (timedR : Timed R) (timedO : Timed O) (doesR : RunOf R) (σ : Store) (f : Sig) (v : Words) (a b u d : ℕ)
    (h : a + u ≡ b) (o : d ≤ u) (sR fR : Sig) (wR : Words) (sO fO : Sig) (wO : Words)
    (calmR : Calm ER R a sR fR v wR) (calmO : Calm EO O a sO fO v wO) (fin : f ≈ either fR fO)
    (before : Quiet sR a (a + d)) (on : sR (a + d) ≡ true) (after : Quiet sR (suc (a + d)) (suc b)) (off : Quiet sO a (suc b))
    (words : Stable v σ a b) where
  waits : Rests ER R sR fR v wR a (a + d)
  waits = rest R timedR ER sR fR v wR a (a + d) calmR (omega arith) before

  other : (c : ℕ) → a ≤ c → c ≤ suc b → Rests EO O sO fO v wO a c
  other c l k = rest O timedO EO sO fO v wO a c calmO l (λ t l₁ k₁. off t l₁ (omega arith))

  taken : Does ER R σ sR fR v wR (a + d) b (u - d)
  taken =
      doesR ER σ sR fR v wR (a + d) b (u - d) (omega arith)
      (record { calm = waits.calm; start = on; after = after; words = λ t x l k. words t x (omega arith) k })

  branch-ends : (t t₁ : ℕ) (σ' : Store) → t ≡ d + t₁ → run functional (u - d) R σ ≡ ended t₁ σ' → Branched ER EO R O σ' f sR fR wR sO fO wO v a (a + t) b
  branch-ends t t₁ σ' y p =
      let q : a + d + t₁ ≡ a + t = omega arith in
      let o₁ : t₁ ≤ u - d = in-time R timedR σ (u - d) t₁ σ' p in
      let E : Ended ER R σ' sR fR v wR (a + d) (a + t) b = subst (λ (c : ℕ). Ended ER R σ' sR fR v wR (a + d) c b) q (taken.ends t₁ σ' p) in
      let q₁ : Quiet fR a (a + t) = glue fR a (a + d) (a + t) waits.fin E.quiet in
      let r = other (suc (a + t)) (omega arith) (omega arith) in
      record {
        quiet = λ t l k. fin t ∙ ap₂ ◌||◌ (q₁ t l k) (r.fin t l (omega arith));
        high = fin (a + t) ∙ ap₂ ◌||◌ E.high (r.fin (a + t) (omega arith) (omega arith));
        words = E.words;
        taken = E.calm;
        other = r.calm;
      }

  pub branch : Branch ER EO R O σ f sR fR wR sO fO wO v a b u d
  branch =
      record {
        goes_on = λ p t l k.
            fin t ∙ ap₂ ◌||◌ (glue fR a (a + d) (suc b) waits.fin (taken.goes_on p) t l k) ((other (suc b) (omega arith) (omega arith)).fin t l k);
        ends = branch-ends;
        alive = taken.alive;
        taken = taken.so_far;
        other = calm-late EO O (suc b) sO fO v wO (other (suc b) (omega arith) (omega arith)).calm;
      }

-- If ----------------------------------------------------------------------------------------------------------------------------------------

module _ (E : Tags) (d : ℕ) (e : Expr) (P Q : Stmt) (timedP : Timed P) (timedQ : Timed Q) (doesP : RunOf P) (doesQ : RunOf Q)
    (σ : Store) (s f : Sig) (v w : Words) (a b u : ℕ) (h : a + u ≡ b) (B : Begins E (ite d e P Q) σ s f v w a b)
    (n : Ite d e (Calm (lft E) P a) (Calm (rgt E) Q a) (λ s. Clear d s a × E.delay here d s × Spaced d s a) s f v w) where
  ite-before : Quiet (delayed d s) a (a + d)
  ite-before = delayed-quiet d s a a n.delay.0 (λ t l k. absurd (omega arith))

  ite-pulse : delayed d s (a + d) ≡ true
  ite-pulse = delayed-at d s a (a + d) refl ∙ B.start

  ite-after : Quiet (delayed d s) (suc (a + d)) (suc b)
  ite-after t l k = delayed-after d s (suc a) (suc b) B.after t (omega arith) (omega arith)

  -- the starts of the two branches, where the delay says nothing
  ite-off₁ : (t : ℕ) → delayed d s t ≡ false → n.s₁ t ≡ false
  ite-off₁ t q = n.yes₁ t ∙ ap (λ (c : Bool). c && not (is_zero (eval e (v t)))) q

  ite-off₂ : (t : ℕ) → delayed d s t ≡ false → n.s₂ t ≡ false
  ite-off₂ t q = n.no₂ t ∙ ap (λ (c : Bool). c && is_zero (eval e (v t))) q

  -- the test has not come
  ite-short : u < d → Quiet f a (suc b)
  ite-short short t l r =
      n.fin t
      ∙ ap₂ ◌||◌
      ((rest P timedP (lft E) n.s₁ n.f₁ v n.w₁ a (suc b) n.left (omega arith) (λ t l k. ite-off₁ t (ite-before t l (omega arith)))).fin t l r)
      ((rest Q timedQ (rgt E) n.s₂ n.f₂ v n.w₂ a (suc b) n.right (omega arith) (λ t l k. ite-off₂ t (ite-before t l (omega arith)))).fin t l r)

  -- the condition's word, on the whole of [a, b]
  ite-test : (t : ℕ) → a ≤ t → t ≤ b → is_zero (eval e (v t)) ≡ is_zero (eval e σ)
  ite-test t l k = ap is_zero (eval-stable e v σ a b B.words t l k)

  -- with both branches at rest, and the start's pulse gone through, nothing is in flight
  ite-calm : (c : ℕ) → d ≤ c → c ≤ u → Calm (lft E) P (suc (a + c)) n.s₁ n.f₁ v n.w₁ → Calm (rgt E) Q (suc (a + c)) n.s₂ n.f₂ v n.w₂
      → Calm E (ite d e P Q) (suc (a + c)) s f v w
  unfolding Calm Net
  ite-calm c o₁ o₂ p q =
      record {
        s₁ = n.s₁;
        f₁ = n.f₁;
        w₁ = n.w₁;
        s₂ = n.s₂;
        f₂ = n.f₂;
        w₂ = n.w₂;
        left = p;
        right = q;
        yes₁ = n.yes₁;
        no₂ = n.no₂;
        words = n.words;
        fin = n.fin;
        delay = (
          clear-after d s a (a + c) (omega arith) (λ t l k. B.after t l (omega arith)),
          n.delay.1,
          spaced-on d s a (suc (a + c)) n.delay.2 (spaced-before d s a n.delay.0) (λ t l k. B.after t l (omega arith)),
        );
      }

  -- and so up to the horizon
  ite-late : Late (lft E) P (suc b) n.s₁ n.f₁ v n.w₁ → Late (rgt E) Q (suc b) n.s₂ n.f₂ v n.w₂ → Late E (ite d e P Q) (suc b) s f v w
  unfolding Net
  ite-late p q =
      record {
        s₁ = n.s₁;
        f₁ = n.f₁;
        w₁ = n.w₁;
        s₂ = n.s₂;
        f₂ = n.f₂;
        w₂ = n.w₂;
        left = p;
        right = q;
        yes₁ = n.yes₁;
        no₂ = n.no₂;
        words = n.words;
        fin = n.fin;
        delay = (spaced-on d s a (suc b) n.delay.2 (spaced-before d s a n.delay.0) B.after, n.delay.1);
      }

  module _ (o : d ≤ u) where
    then-branch : is_zero (eval e σ) ≡ false → Branch (lft E) (rgt E) P Q σ f n.s₁ n.f₁ n.w₁ n.s₂ n.f₂ n.w₂ v a b u d
    then-branch z =
        branch (lft E) (rgt E) P Q timedP timedQ doesP σ f v a b u d h o n.s₁ n.f₁ n.w₁ n.s₂ n.f₂ n.w₂ n.left n.right n.fin
        (λ t l k. ite-off₁ t (ite-before t l k))
        (n.yes₁ (a + d) ∙ ap₂ (λ (p q : Bool). p && not q) ite-pulse (ite-test (a + d) (omega arith) (omega arith) ∙ z))
        (λ t l k. ite-off₁ t (ite-after t l k))
        (glue_at n.s₂ a (a + d) (suc b) (λ t l k. ite-off₂ t (ite-before t l k))
        (n.no₂ (a + d) ∙ ap₂ (λ (p q : Bool). p && q) ite-pulse (ite-test (a + d) (omega arith) (omega arith) ∙ z))
        (λ t l k. ite-off₂ t (ite-after t l k)))
        B.words

    else-branch : is_zero (eval e σ) ≡ true → Branch (rgt E) (lft E) Q P σ f n.s₂ n.f₂ n.w₂ n.s₁ n.f₁ n.w₁ v a b u d
    else-branch z =
        branch (rgt E) (lft E) Q P timedQ timedP doesQ σ f v a b u d h o n.s₂ n.f₂ n.w₂ n.s₁ n.f₁ n.w₁ n.right n.left
        (λ t. n.fin t ∙ or_comm (n.f₁ t) (n.f₂ t)) (λ t l k. ite-off₂ t (ite-before t l k))
        (n.no₂ (a + d) ∙ ap₂ (λ (p q : Bool). p && q) ite-pulse (ite-test (a + d) (omega arith) (omega arith) ∙ z))
        (λ t l k. ite-off₂ t (ite-after t l k))
        (glue_at n.s₁ a (a + d) (suc b) (λ t l k. ite-off₁ t (ite-before t l k))
        (n.yes₁ (a + d) ∙ ap₂ (λ (p q : Bool). p && not q) ite-pulse (ite-test (a + d) (omega arith) (omega arith) ∙ z))
        (λ t l k. ite-off₁ t (ite-after t l k)))
        B.words

  ite-does : Does E (ite d e P Q) σ s f v w a b u
  ite-does =
      record {
        goes_on = λ p.
            by_le d u
            (λ o.
            by_bool (is_zero (eval e σ))
            (λ z. (else-branch o z).goes_on (wait-still d u (λ k. run functional k Q σ) (sym (ite-else functional u d e P Q σ z) ∙ p) o))
            (λ z. (then-branch o z).goes_on (wait-still d u (λ k. run functional k P σ) (sym (ite-then functional u d e P Q σ z) ∙ p) o)))
            (λ o. ite-short o);
        alive = λ p.
            by_le d u
            (λ o.
            by_bool (is_zero (eval e σ))
            (λ z. inr (inr ((else-branch o z).alive (wait-still d u (λ k. run functional k Q σ) (sym (ite-else functional u d e P Q σ z) ∙ p) o))))
            (λ z. inr (inl ((then-branch o z).alive (wait-still d u (λ k. run functional k P σ) (sym (ite-then functional u d e P Q σ z) ∙ p) o)))))
            (λ o. inl (s, n.delay.1, λ c. not-both B.start (c a (omega arith) (omega arith))));
        so_far = λ p.
            by_le d u
            (λ o.
            by_bool (is_zero (eval e σ))
            (λ z.
            let X = else-branch o z in
            ite-late X.other (X.taken (wait-still d u (λ k. run functional k Q σ) (sym (ite-else functional u d e P Q σ z) ∙ p) o)))
            (λ z.
            let X = then-branch o z in
            ite-late (X.taken (wait-still d u (λ k. run functional k P σ) (sym (ite-then functional u d e P Q σ z) ∙ p) o)) X.other))
            (λ o.
            ite-late
            (calm-late (lft E) P (suc b) n.s₁ n.f₁ v n.w₁
            (rest P timedP (lft E) n.s₁ n.f₁ v n.w₁ a (suc b) n.left (omega arith) (λ t l k. ite-off₁ t (ite-before t l (omega arith)))).calm)
            (calm-late (rgt E) Q (suc b) n.s₂ n.f₂ v n.w₂
            (rest Q timedQ (rgt E) n.s₂ n.f₂ v n.w₂ a (suc b) n.right (omega arith) (λ t l k. ite-off₂ t (ite-before t l (omega arith)))).calm));
        ends = λ t σ' p.
            by_bool (is_zero (eval e σ))
            (λ z.
            let i = wait-done d u (λ k. run functional k Q σ) (sym (ite-else functional u d e P Q σ z) ∙ p) in
            let o₁ : i.0 ≤ u - d = in-time Q timedQ σ (u - d) i.0 σ' i.2 in
            let X = (else-branch i.1 z).ends t i.0 σ' i.3 i.2 in
            record {
              quiet = X.quiet;
              high = X.high;
              words = λ k x l r.
                  n.words k x ∙ ap (λ (c : Bool). pick c (n.w₂ k x) (n.w₁ k x)) (ite-test k (omega arith) r ∙ z) ∙ X.words k x l r;
              calm = ite-calm t (omega (arith, i.3)) (omega (arith, i.1, i.3)) X.other X.taken;
            })
            (λ z.
            let i = wait-done d u (λ k. run functional k P σ) (sym (ite-then functional u d e P Q σ z) ∙ p) in
            let o₁ : i.0 ≤ u - d = in-time P timedP σ (u - d) i.0 σ' i.2 in
            let X = (then-branch i.1 z).ends t i.0 σ' i.3 i.2 in
            record {
              quiet = X.quiet;
              high = X.high;
              words = λ k x l r.
                  n.words k x ∙ ap (λ (c : Bool). pick c (n.w₂ k x) (n.w₁ k x)) (ite-test k (omega arith) r ∙ z) ∙ X.words k x l r;
              calm = ite-calm t (omega (arith, i.3)) (omega (arith, i.1, i.3)) X.taken X.other;
            });
      }

pub run-ite : (d : ℕ) (e : Expr) (P Q : Stmt) → Timed P → Timed Q → RunOf P → RunOf Q → RunOf (ite d e P Q)
unfolding Calm Net
run-ite d e P Q timedP timedQ doesP doesQ E σ s f v w a b u h B = ite-does E d e P Q timedP timedQ doesP doesQ σ s f v w a b u h B B.calm
