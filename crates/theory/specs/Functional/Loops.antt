-- What the functional circuits of the two loops do. Assumes nothing.
use Prim.Native.Nat.{ℕ, zero, suc, ◌+◌, ◌-◌, ◌≤◌, ◌<◌}
use Rattle.std.specs.Prelude.{◌≡◌, refl, Bool, true, ◌&&◌, ◌||◌, ◌⊎◌}
use Rattle.std.proofs.Common.{sym, ◌∙◌, ap₂}
use Rattle.std.proofs.Math.Path.{ap, subst}
use Rattle.std.proofs.Math.Bool.{false, not, or-true}
use Rattle.std.proofs.Math.Logic.{inl, inr, ⊎_elim}
use native.Mathlib.Omega.{arith}
use Rattle.std.specs.Int.Bits.{bit_or, or_zero_r}
use Rattle.std.proofs.lemmas.Nat.{or_comm}
use Rattle.model.specs.Word.{pick, is_zero}
use Rattle.model.specs.Program.{Expr, Stmt, while, repeat}
use Rattle.model.specs.Circuit.{Sig, delayed}
use Rattle.model.specs.Rules.{functional, postponed, Store, eval, Run, at_end, ended, still, wait, chain, whiles, repeats, run}
use Rattle.laws.specs.Refusals.Laws.{by_bool, by_le, not-both}
use Rattle.laws.specs.Program.Fit.{Timed, Formed}
use Rattle.laws.specs.Rules.Laws.{steady, by_runs, done-time, done-words, done-still, wait-done, wait-still, chain-ended, chain-still, whiles-stop, whiles-more, again, repeats-is, again-more, again-stop}
use Rattle.theory.specs.Control.Wiring.{◌≈◌, either}
use Rattle.theory.specs.Control.Signal.{Quiet, Clear, glue, delayed-at, delayed-off}
use Rattle.theory.specs.Control.Pulses.{at}
use Rattle.theory.specs.Functional.Merges.{glue_at, delayed-after, Spaced, spaced-off, spaced-on, spaced-one}
use Rattle.laws.specs.Rules.Uses.{unwritten, never-leaves}
use Rattle.theory.specs.Functional.Wiring.{Words, here, also, Tags, lft, Net, While, Repeat, loaded, Loads, written}
use Rattle.theory.specs.Functional.Calm.{Calm, Late, calm-late, calm-closed, Flying, Rests, rest, WhileRests, while-rests, RepeatRests, repeat-rests}
use Rattle.theory.specs.Functional.Runs.{Stable, eval-stable, Begins, Ended, Does, RunOf, by-ended, in-time, Launched, launch}

-- Latches -------------------------------------------------------------------------------------------------------------------------------------

-- what a load at a puts in: the words that p brings, or those that q brings
abbrev Brings : Sig → Sig → Words → Words → Store → ℕ → Type 0
Brings p q v w σ a = (x : ℕ) → bit_or (pick (p a) (v a x) 0) (pick (q a) (w a x) 0) ≡ σ x

module _ (b : ℕ → Bool) (p q : Sig) (v w l : Words) (loads : Loads b p q v w l) (σ : Store) (a : ℕ) where
  brings-first : p a ≡ true → q a ≡ false → ((x : ℕ) → v a x ≡ σ x) → Brings p q v w σ a
  brings-first i j h x = ap₂ (λ (b c : Bool). bit_or (pick b (v a x) 0) (pick c (w a x) 0)) i j ∙ or_zero_r (v a x) ∙ h x

  brings-second : p a ≡ false → q a ≡ true → ((x : ℕ) → w a x ≡ σ x) → Brings p q v w σ a
  brings-second i j h x =
      ap₂ (λ (b c : Bool). bit_or (pick b (v a x) 0) (pick c (w a x) 0)) i j ∙ or_comm 0 (w a x) ∙ or_zero_r (w a x) ∙ h x

  module _ (on : either p q a ≡ true) (new : Brings p q v w σ a) where
    latch-n : (n : ℕ) → Quiet (either p q) (suc a) (suc a + n) → (x : ℕ) → b x ≡ true → l (suc a + n) x ≡ σ x
    unfolding loaded
    latch-n zero off x e =
        let z : suc a ≡ suc a + 0 = omega arith in
        subst (λ (k : ℕ). l k x ≡ σ x) z
        (loads.latched a x e ∙ ap (λ (b : Bool). pick b (bit_or (pick (p a) (v a x) 0) (pick (q a) (w a x) 0)) (l a x)) on ∙ new x)
    latch-n (suc n) off x e =
        let z : suc (suc a + n) ≡ suc a + suc n = omega arith in
        let i : l (suc a + n) x ≡ σ x = latch-n n (λ t l h. off t l (omega arith)) x e in
        subst (λ (k : ℕ). l k x ≡ σ x) z
        (loads.latched (suc a + n) x e
        ∙ ap (λ (b : Bool). pick b (bit_or (pick (p (suc a + n)) (v (suc a + n) x) 0) (pick (q (suc a + n)) (w (suc a + n) x) 0)) (l (suc a + n) x))
        (off (suc a + n) (omega arith) (omega arith))
        ∙ i)

    -- after a load, and until the instant of the next one, the latches have what it brought; the words that go by are σ₀'s, and so σ's
    latch-stable : (σ₀ : Store) (c d : ℕ) → Stable v σ₀ a d → ((x : ℕ) → b x ≡ false → σ x ≡ σ₀ x) → c ≤ d → Quiet (either p q) (suc a) c → Stable l σ (suc a) c
    latch-stable σ₀ c d ins same o₁ off t x o k =
        by_bool (b x)
        (λ e.
        let z : suc a + (t - suc a) ≡ t = omega arith in
        subst (λ (k : ℕ). l k x ≡ σ x) z (latch-n (t - suc a) (λ t l h. off t l (omega arith)) x e))
        (λ e. loads.passed t x e ∙ ins t x (omega arith) (omega arith) ∙ sym (same x e))

-- While -----------------------------------------------------------------------------------------------------------------------------------

-- A loop ends at c and hands on σ up to b. Its finish has been quiet since just after a; g feeds its delay of D
pub record Leaves (E : Tags) (P : Stmt) (D : ℕ) (g : Sig) (σ : Store) (s₁ f₁ f : Sig) (l w₁ w : Words) (a c b : ℕ) : Type 0 where
  pub quiet : Quiet f (suc a) c
  pub high : f c ≡ true
  pub words : Stable w σ c b
  pub calm : Calm E P (suc c) s₁ f₁ l w₁
  pub clear : Clear D g (suc c)
  pub spaced : Spaced D g (suc c)

-- The latches are loaded at a, by the start of the loop or the end of its body
record Turns (E : Tags) (P : Stmt) (D : ℕ) (σ₀ σ : Store) (s s₁ f₁ : Sig) (v w w₁ : Words) (a b : ℕ) : Type 0 where
  before : (t : ℕ) → t < a → a < t + D → either s f₁ t ≡ false
  spaced : Spaced D (either s f₁) a
  pulse : either s f₁ a ≡ true
  calm : Calm E P (suc a) s₁ f₁ w w₁
  after : Quiet s (suc a) (suc b)
  words : Brings s f₁ v w₁ σ a
  ins : Stable v σ₀ a b
  kept : (x : ℕ) → written P x ≡ false → σ x ≡ σ₀ x

-- What n turns come to
record Turned (E : Tags) (D : ℕ) (e : Expr) (P : Stmt) (s f s₁ f₁ : Sig) (w w₁ : Words) (n : ℕ) (σ : Store) (a b u : ℕ) : Type 0 where
  goes_on : u < n → whiles (λ k σ. run functional k P σ) D e n u σ ≡ still → Quiet f (suc a) (suc b)
  ends : (t : ℕ) (σ' : Store) → whiles (λ k σ. run functional k P σ) D e n u σ ≡ ended t σ'
      → Leaves E P D (either s f₁) σ' s₁ f₁ f w w₁ w a (a + t) b
  alive : u < n → whiles (λ k σ. run functional k P σ) D e n u σ ≡ still → (Clear D (either s f₁) (suc b) → ⊥) ⊎ Flying E P (suc b)
  so_far : u < n → whiles (λ k σ. run functional k P σ) D e n u σ ≡ still → Spaced D (either s f₁) (suc b) × Late E P (suc b) s₁ f₁ w w₁

module _ (E : Tags) (D : ℕ) (e : Expr) (P : Stmt) (pos : 2 ≤ D) (timed : Timed P) (formed : Formed P) (does : RunOf P) (s f s₁ f₁ : Sig) (v w w₁ : Words) (σ₀ : Store)
    (latches : Loads (written P) s f₁ v w₁ w)
    (begin : (t : ℕ) → s₁ t ≡ (delayed D (either s f₁) t && not (is_zero (eval e (w t)))))
    (fin : (t : ℕ) → f t ≡ (delayed D (either s f₁) t && is_zero (eval e (w t)))) where
  while-off : (t : ℕ) → delayed D (either s f₁) t ≡ false → f t ≡ false
  while-off t q = fin t ∙ ap (λ (c : Bool). c && is_zero (eval e (w t))) q

  while-off₁ : (t : ℕ) → delayed D (either s f₁) t ≡ false → s₁ t ≡ false
  while-off₁ t q = begin t ∙ ap (λ (c : Bool). c && not (is_zero (eval e (w t)))) q

  module _ (σ : Store) (a b u : ℕ) (h : a + u ≡ b) (T : Turns E P D σ₀ σ s s₁ f₁ v w w₁ a b) where
    while-before : Quiet (delayed D (either s f₁)) (suc a) (a + D)
    while-before t l k = delayed-off D (either s f₁) t (λ i q. T.before i (omega arith) (omega arith))

    while-pulse : delayed D (either s f₁) (a + D) ≡ true
    while-pulse = delayed-at D (either s f₁) a (a + D) refl ∙ T.pulse

    while-rest : Rests E P s₁ f₁ w w₁ (suc a) (a + D)
    while-rest = rest P timed E s₁ f₁ w w₁ (suc a) (a + D) T.calm (omega arith) (λ t l k. while-off₁ t (while-before t l k))

    while-short : u < D → Quiet f (suc a) (suc b)
    while-short o t l k = while-off t (while-before t l (omega arith))

    -- as long as the body has not ended, nothing more is loaded
    while-feed : (c : ℕ) → c ≤ suc b → Quiet f₁ (a + D) c → Quiet (either s f₁) (suc a) c
    while-feed c o q t l k = ap₂ ◌||◌ (T.after t l (omega arith)) (by_le (a + D) t (λ g. q t g k) (λ g. while-rest.fin t l g))

    -- while nothing is loaded, no pulse enters
    while-spaced : (c : ℕ) → Quiet (either s f₁) (suc a) c → Spaced D (either s f₁) c
    while-spaced c q = spaced-on D (either s f₁) a c T.spaced T.before q

    while-waits : u < D → Spaced D (either s f₁) (suc b) × Late E P (suc b) s₁ f₁ w w₁
    while-waits o = (
      while-spaced (suc b) (while-feed (suc b) (omega arith) (λ t l k. absurd (omega arith))),
      calm-late E P (suc b) s₁ f₁ w w₁
          (rest P timed E s₁ f₁ w w₁ (suc a) (suc b) T.calm (omega arith) (λ t l k. while-off₁ t (while-before t l (omega arith)))).calm,
    )

    while-words : (c : ℕ) → c ≤ b → Quiet f₁ (a + D) c → Stable w σ (suc a) c
    while-words c o q =
        latch-stable (written P) s f₁ v w₁ w latches σ a T.pulse T.words σ₀ c b T.ins T.kept o (while-feed c (omega arith) q)

    module _ (o : D ≤ u) where
      while-test : is_zero (eval e (w (a + D))) ≡ is_zero (eval e σ)
      while-test =
          ap is_zero
          (eval-stable e w σ (suc a) (a + D) (while-words (a + D) (omega arith) (λ t l k. absurd (omega arith))) (a + D) (omega arith) (omega arith))

      -- the condition is false: the loop ends
      while-leaves : is_zero (eval e σ) ≡ true → Leaves E P D (either s f₁) σ s₁ f₁ f w w₁ w a (a + D) b
      while-leaves z =
          let off : Quiet s₁ (suc a) (suc (a + D)) =
          glue_at s₁ (suc a) (a + D) (suc (a + D)) (λ t l k. while-off₁ t (while-before t l k))
          (begin (a + D) ∙ ap₂ (λ (p q : Bool). p && not q) while-pulse (while-test ∙ z)) (λ t l k. absurd (omega arith)) in
          let r = rest P timed E s₁ f₁ w w₁ (suc a) (suc (a + D)) T.calm (omega arith) off in
          let clear : Clear D (either s f₁) (suc (a + D)) =
          λ t l k. ap₂ ◌||◌ (T.after t (omega arith) (omega arith)) (r.fin t (omega arith) l) in
          let hold : WhileRests E P D s s₁ f₁ w w₁ (suc (a + D)) (suc b) =
          while-rests E P D (omega arith) (rest P timed) s s₁ f₁ w w₁ (λ t. not (is_zero (eval e (w t)))) begin (suc (a + D)) (suc b) (omega arith)
          r.calm clear (λ t l k. T.after t (omega arith) k) in
          let off₁ : Quiet f₁ (a + D) b =
          λ t l k. by_le (suc (a + D)) t (λ g. hold.fin t g (omega arith)) (λ g. r.fin t (omega arith) g) in
          record {
            quiet = λ t l k. while-off t (while-before t l k);
            high = fin (a + D) ∙ ap₂ ◌&&◌ while-pulse (while-test ∙ z);
            words = λ t x l k. while-words b (omega arith) off₁ t x (omega arith) k;
            calm = r.calm;
            clear = clear;
            spaced = while-spaced (suc (a + D)) (λ t l k. ap₂ ◌||◌ (T.after t l (omega arith)) (r.fin t l k));
          }

      module _ (z : is_zero (eval e σ) ≡ false) where
        while-on : s₁ (a + D) ≡ true
        while-on = begin (a + D) ∙ ap₂ (λ (p q : Bool). p && not q) while-pulse (while-test ∙ z)

        while-not : f (a + D) ≡ false
        while-not = fin (a + D) ∙ ap₂ ◌&&◌ while-pulse (while-test ∙ z)

        while-later : (c : ℕ) → c ≤ suc b → Quiet f₁ (a + D) c → Quiet (delayed D (either s f₁)) (suc (a + D)) (c + D)
        while-later c o₁ q t l k = delayed-after D (either s f₁) (suc a) c (while-feed c o₁ q) t (omega arith) k

        while-body : Launched E P σ s₁ f₁ w w₁ (a + D) (u - D)
        while-body =
            launch E P timed does σ s₁ f₁ w w₁ (a + D) (u - D) while-rest.calm while-on
            (λ n o₁ q. (
              λ t l k. while-off₁ t (while-later (a + D + n) (omega arith) q t l (omega arith)),
              λ t x l k. while-words (a + D + n) (omega arith) q t x (omega arith) k,
            ))

        -- the finish, while the body has not ended
        while-quiet : (c : ℕ) → c ≤ suc b → a + D ≤ c → Quiet f₁ (a + D) c → Quiet f (suc a) (suc c)
        while-quiet c o₁ o₂ q =
            glue_at f (suc a) (a + D) (suc c) (λ t l k. while-off t (while-before t l k)) while-not
            (λ t l k. while-off t (while-later c o₁ q t l (omega arith)))

        module _ (t₁ : ℕ) (σ₁ : Store) (o₁ : t₁ ≤ u - D) (p : run functional (u - D) P σ ≡ ended t₁ σ₁)
            (Y : Ended E P σ₁ s₁ f₁ w w₁ (a + D) (a + D + t₁) (a + D + t₁)) where
          while-again : Turns E P D σ₀ σ₁ s s₁ f₁ v w w₁ (a + D + t₁) b
          while-again =
              record {
                before = λ t l k. while-feed (a + D + t₁) (omega arith) Y.quiet t (omega arith) l;
                spaced = while-spaced (a + D + t₁) (while-feed (a + D + t₁) (omega arith) Y.quiet);
                pulse = ap (λ (c : Bool). s (a + D + t₁) || c) Y.high ∙ or-true (s (a + D + t₁));
                calm = Y.calm;
                after = λ t l k. T.after t (omega arith) k;
                words =
                    brings-second (written P) s f₁ v w₁ w latches σ₁ (a + D + t₁) (T.after (a + D + t₁) (omega arith) (omega arith)) Y.high
                    (λ x. Y.words (a + D + t₁) x (omega arith) (omega arith));
                ins = λ t x l k. T.ins t x (omega arith) k;
                kept = λ x e. unwritten functional P formed x e (u - D) at_end t₁ σ σ₁ p ∙ T.kept x e;
              }

          while-so-far : Quiet f (suc a) (suc (a + D + t₁))
          while-so-far = while-quiet (a + D + t₁) (omega arith) (omega arith) Y.quiet

  module _ (n : ℕ) (ih : (σ : Store) (a b u : ℕ) → a + u ≡ b → Turns E P D σ₀ σ s s₁ f₁ v w w₁ a b → Turned E D e P s f s₁ f₁ w w₁ n σ a b u)
      (σ : Store) (a b u : ℕ) (h : a + u ≡ b) (T : Turns E P D σ₀ σ s s₁ f₁ v w w₁ a b) where
    abbrev onward : ℕ → ℕ → Store → Run
    onward k t σ₁ = whiles (λ k σ. run functional k P σ) D e n (k - t) σ₁

    abbrev body : ℕ → Store → Run
    body k σ = run functional k P σ

    while-turn-goes-on : (o : D ≤ u) (z : is_zero (eval e σ) ≡ false) → u < suc n
        → chain (run functional (u - D) P σ) (onward (u - D)) ≡ still → Quiet f (suc a) (suc b)
    while-turn-goes-on o z l p =
        by-ended P (calm-closed E P (suc a) s₁ f₁ w w₁ T.calm) (u - D) σ
        (λ t₁ σ₁ q.
        let o₁ : t₁ ≤ u - D = in-time P timed σ (u - D) t₁ σ₁ q in
        let Y = (while-body σ a b u h T o z).ends t₁ σ₁ q in
        let I : Turned E D e P s f s₁ f₁ w w₁ n σ₁ (a + D + t₁) b (u - D - t₁) =
        ih σ₁ (a + D + t₁) b (u - D - t₁) (omega arith) (while-again σ a b u h T o z t₁ σ₁ o₁ q Y) in
        glue f (suc a) (suc (a + D + t₁)) (suc b) (while-so-far σ a b u h T o z t₁ σ₁ o₁ q Y)
        (I.goes_on (omega arith) (chain-still (run functional (u - D) P σ) (onward (u - D)) q p)))
        (λ q t l k.
        while-quiet σ a b u h T o z b (omega arith) (omega arith) (λ t l k. (while-body σ a b u h T o z).goes_on q t l (omega arith)) t l k)

    while-turn-alive : (o : D ≤ u) (z : is_zero (eval e σ) ≡ false) → u < suc n
        → chain (run functional (u - D) P σ) (onward (u - D)) ≡ still → (Clear D (either s f₁) (suc b) → ⊥) ⊎ Flying E P (suc b)
    while-turn-alive o z l p =
        by-ended P (calm-closed E P (suc a) s₁ f₁ w w₁ T.calm) (u - D) σ
        (λ t₁ σ₁ q.
        let o₁ : t₁ ≤ u - D = in-time P timed σ (u - D) t₁ σ₁ q in
        let Y = (while-body σ a b u h T o z).ends t₁ σ₁ q in
        (ih σ₁ (a + D + t₁) b (u - D - t₁) (omega arith) (while-again σ a b u h T o z t₁ σ₁ o₁ q Y)).alive (omega arith)
        (chain-still (run functional (u - D) P σ) (onward (u - D)) q p))
        (λ q.
        let y : a + D + (u - D) ≡ b = omega arith in
        inr (subst (λ (k : ℕ). Flying E P (suc k)) y ((while-body σ a b u h T o z).alive q)))

    while-turn-so-far : (o : D ≤ u) (z : is_zero (eval e σ) ≡ false) → u < suc n
        → chain (run functional (u - D) P σ) (onward (u - D)) ≡ still → Spaced D (either s f₁) (suc b) × Late E P (suc b) s₁ f₁ w w₁
    while-turn-so-far o z l p =
        by-ended P (calm-closed E P (suc a) s₁ f₁ w w₁ T.calm) (u - D) σ
        (λ t₁ σ₁ q.
        let o₁ : t₁ ≤ u - D = in-time P timed σ (u - D) t₁ σ₁ q in
        let Y = (while-body σ a b u h T o z).ends t₁ σ₁ q in
        (ih σ₁ (a + D + t₁) b (u - D - t₁) (omega arith) (while-again σ a b u h T o z t₁ σ₁ o₁ q Y)).so_far (omega arith)
        (chain-still (run functional (u - D) P σ) (onward (u - D)) q p))
        (λ q.
        let y : a + D + (u - D) ≡ b = omega arith in (
          while-spaced σ a b u h T (suc b)
              (while-feed σ a b u h T (suc b) (omega arith) (λ t l k. (while-body σ a b u h T o z).goes_on q t l (omega arith))),
          subst (λ (k : ℕ). Late E P (suc k) s₁ f₁ w w₁) y ((while-body σ a b u h T o z).so_far q),
        ))

    while-turn-ends : (o : D ≤ u) (z : is_zero (eval e σ) ≡ false) (t t₀ : ℕ) (σ' : Store) → t ≡ D + t₀
        → chain (run functional (u - D) P σ) (onward (u - D)) ≡ ended t₀ σ' → Leaves E P D (either s f₁) σ' s₁ f₁ f w w₁ w a (a + t) b
    while-turn-ends o z t t₀ σ' y p =
        let i = chain-ended (run functional (u - D) P σ) (onward (u - D)) p in
        let t₁ : ℕ = i.0 in
        let σ₁ : Store = i.1 in
        let o₁ : t₁ ≤ u - D = in-time P timed σ (u - D) t₁ σ₁ i.3 in
        let Y = (while-body σ a b u h T o z).ends t₁ σ₁ i.3 in
        let I : Turned E D e P s f s₁ f₁ w w₁ n σ₁ (a + D + t₁) b (u - D - t₁) =
        ih σ₁ (a + D + t₁) b (u - D - t₁) (omega arith) (while-again σ a b u h T o z t₁ σ₁ o₁ i.3 Y) in
        let q : a + D + t₁ + i.2 ≡ a + t = omega (arith, i.5) in
        let X : Leaves E P D (either s f₁) σ' s₁ f₁ f w w₁ w (a + D + t₁) (a + t) b =
        subst (λ (c : ℕ). Leaves E P D (either s f₁) σ' s₁ f₁ f w w₁ w (a + D + t₁) c b) q (I.ends i.2 σ' i.4) in
        record {
          quiet = glue f (suc a) (suc (a + D + t₁)) (a + t) (while-so-far σ a b u h T o z t₁ σ₁ o₁ i.3 Y) X.quiet;
          high = X.high;
          words = X.words;
          calm = X.calm;
          clear = X.clear;
          spaced = X.spaced;
        }

    while-turn : Turned E D e P s f s₁ f₁ w w₁ (suc n) σ a b u
    while-turn =
        record {
          goes_on = λ l p.
              by_bool (is_zero (eval e σ))
              (λ z.
              by_le D u
              (λ o. done-still (wait-still D u (λ k. ended 0 σ) (sym (whiles-stop body D e n u σ z) ∙ p) o))
              (λ o. while-short σ a b u h T o))
              (λ z.
              by_le D u
              (λ o. while-turn-goes-on o z l (wait-still D u (λ k. chain (body k σ) (onward k)) (sym (whiles-more body D e n u σ z) ∙ p) o))
              (λ o. while-short σ a b u h T o));
          alive = λ l p.
              by_le D u
              (λ o.
              by_bool (is_zero (eval e σ))
              (λ z. done-still (wait-still D u (λ k. ended 0 σ) (sym (whiles-stop body D e n u σ z) ∙ p) o))
              (λ z. while-turn-alive o z l (wait-still D u (λ k. chain (body k σ) (onward k)) (sym (whiles-more body D e n u σ z) ∙ p) o)))
              (λ o. inl (λ c. not-both T.pulse (c a (omega arith) (omega arith))));
          so_far = λ l p.
              by_le D u
              (λ o.
              by_bool (is_zero (eval e σ))
              (λ z. done-still (wait-still D u (λ k. ended 0 σ) (sym (whiles-stop body D e n u σ z) ∙ p) o))
              (λ z. while-turn-so-far o z l (wait-still D u (λ k. chain (body k σ) (onward k)) (sym (whiles-more body D e n u σ z) ∙ p) o)))
              (λ o. while-waits σ a b u h T o);
          ends = λ t σ' p.
              by_bool (is_zero (eval e σ))
              (λ z.
              let i = wait-done D u (λ k. ended 0 σ) (sym (whiles-stop body D e n u σ z) ∙ p) in
              let y : 0 ≡ i.0 = done-time i.2 in
              let q : a + D ≡ a + t = omega (arith, i.3) in
              subst (λ (τ : Store). Leaves E P D (either s f₁) τ s₁ f₁ f w w₁ w a (a + t) b) (done-words i.2)
              (subst (λ (c : ℕ). Leaves E P D (either s f₁) σ s₁ f₁ f w w₁ w a c b) q (while-leaves σ a b u h T i.1 z)))
              (λ z.
              let i = wait-done D u (λ k. chain (body k σ) (onward k)) (sym (whiles-more body D e n u σ z) ∙ p) in
              while-turn-ends i.1 z t i.0 σ' i.3 i.2);
        }

  while-turns : (n : ℕ) (σ : Store) (a b u : ℕ) → a + u ≡ b → Turns E P D σ₀ σ s s₁ f₁ v w w₁ a b → Turned E D e P s f s₁ f₁ w w₁ n σ a b u
  unfolding whiles
  while-turns zero σ a b u h T =
      record {
        goes_on = λ l p. absurd (omega arith);
        alive = λ l p. absurd (omega arith);
        so_far = λ l p. absurd (omega arith);
        ends = λ t σ' p. done-still (sym p);
      }
  while-turns (suc n) σ a b u h T = while-turn n (while-turns n) σ a b u h T

module _ (E₀ : Tags) (d : ℕ) (e : Expr) (P : Stmt) (pos : 1 ≤ d) (timed : Timed P) (formed : Formed P) (does : RunOf P)
    (σ : Store) (s f : Sig) (v w : Words) (a b u : ℕ) (h : a + u ≡ b) (B : Begins E₀ (while d e P) σ s f v w a b)
    (n : While (written P) d e (Calm (lft E₀) P a) (λ s. Clear (suc d) s a × E₀.delay here (suc d) s × Spaced (suc d) s a) s f v w) where
  while-first : delayed (suc d) (either s n.f₁) a ≡ false
  while-first = delayed-off (suc d) (either s n.f₁) a (λ i q. n.delay.0 i (omega arith) (omega arith))

  while-enters : Turns (lft E₀) P (suc d) σ σ s n.s₁ n.f₁ v w n.w₁ a b
  while-enters =
      let r : Rests (lft E₀) P n.s₁ n.f₁ w n.w₁ a (suc a) =
      rest P timed (lft E₀) n.s₁ n.f₁ w n.w₁ a (suc a) n.body (omega arith)
      (λ t l k. at n.s₁ (omega arith) (n.begin a ∙ ap (λ (c : Bool). c && not (is_zero (eval e (w a)))) while-first)) in
      record {
        before = λ t l k. n.delay.0 t l (omega arith);
        spaced = n.delay.2;
        pulse = ap (λ (c : Bool). c || n.f₁ a) B.start;
        calm = r.calm;
        after = B.after;
        words =
            brings-first (written P) s n.f₁ v n.w₁ w n.latches σ a B.start (r.fin a (omega arith) (omega arith))
            (λ x. B.words a x (omega arith) (omega arith));
        ins = B.words;
        kept = λ x e. refl;
      }

  while-turned : Turned (lft E₀) (suc d) e P s f n.s₁ n.f₁ w n.w₁ (suc u) σ a b u
  while-turned =
      while-turns (lft E₀) (suc d) e P (omega arith) timed formed does s f n.s₁ n.f₁ v w n.w₁ σ n.latches n.begin n.fin (suc u) σ a b u h while-enters

  while-does : Does E₀ (while d e P) σ s f v w a b u
  unfolding run Calm Net
  while-does =
      let off : f a ≡ false = n.fin a ∙ ap (λ (c : Bool). c && is_zero (eval e (w a))) while-first in
      record {
        goes_on = λ p. glue_at f a a (suc b) (λ t l k. absurd (omega arith)) off (while-turned.goes_on (omega arith) p);
        alive = λ p. ⊎_elim (λ c. inl (either s n.f₁, n.delay.1, c)) (λ x. inr x) (while-turned.alive (omega arith) p);
        so_far = λ p.
            let X = while-turned.so_far (omega arith) p in
            record {
              s₁ = n.s₁;
              f₁ = n.f₁;
              w₁ = n.w₁;
              body = X.1;
              latches = n.latches;
              begin = n.begin;
              fin = n.fin;
              delay = (X.0, n.delay.1);
            };
        ends = λ t σ' p.
            let X = while-turned.ends t σ' p in
            record {
              quiet = glue_at f a a (a + t) (λ t l k. absurd (omega arith)) off X.quiet;
              high = X.high;
              words = X.words;
              calm = record {
                s₁ = n.s₁;
                f₁ = n.f₁;
                w₁ = n.w₁;
                body = X.calm;
                latches = n.latches;
                begin = n.begin;
                fin = n.fin;
                delay = (X.clear, n.delay.1, X.spaced);
              };
            };
      }

pub run-while : (d : ℕ) (e : Expr) (P : Stmt) → 1 ≤ d → Timed P → Formed P → RunOf P → RunOf (while d e P)
unfolding Calm Net
run-while d e P pos timed formed does E σ s f v w a b u h B = while-does E d e P pos timed formed does σ s f v w a b u h B B.calm

-- Repeat ------------------------------------------------------------------------------------------------------------------------------------

-- A repeat ends at c and hands on σ up to b
record Departs (E : Tags) (P : Stmt) (d : ℕ) (σ : Store) (s s₁ f₁ g f : Sig) (l w : Words) (a c b : ℕ) : Type 0 where
  quiet : Quiet f (suc a) c
  high : f c ≡ true
  words : Stable w σ c b
  calm : Calm E P (suc c) s₁ f₁ l w
  empty : Clear 1 (either s g) (suc c)
  clear : Clear d f₁ (suc c)
  spaced : Spaced d f₁ (suc c)

-- The latches are loaded at a, by the start of the loop or a test that is false
record Starts (E : Tags) (P : Stmt) (d : ℕ) (σ₀ σ : Store) (s s₁ f₁ g : Sig) (v l w : Words) (a b : ℕ) : Type 0 where
  before : (t : ℕ) → t ≤ a → a < t + d → f₁ t ≡ false
  spaced : Spaced d f₁ (suc a)
  pulse : either s g a ≡ true
  calm : Calm E P (suc a) s₁ f₁ l w
  after : Quiet s (suc a) (suc b)
  words : Brings s g v w σ a
  ins : Stable v σ₀ a b
  kept : (x : ℕ) → written P x ≡ false → σ x ≡ σ₀ x

-- the body, which begins one instant after its words are latched
abbrev Round : Stmt → ℕ → Store → Run
Round P = postponed 1 (λ k σ. run functional k P σ)

round_is : (P : Stmt) (k : ℕ) (σ : Store) → Round P k σ ≡ wait 1 k (λ k₁. run functional k₁ P σ)
round_is P k σ = refl

record Repeated (E : Tags) (d : ℕ) (e : Expr) (P : Stmt) (s f s₁ f₁ g : Sig) (l w : Words) (n : ℕ) (σ : Store) (a b u : ℕ) : Type 0 where
  goes_on : u < n → repeats (Round P) d e n u σ ≡ still → Quiet f (suc a) (suc b)
  ends : (t : ℕ) (σ' : Store) → repeats (Round P) d e n u σ ≡ ended t σ' → Departs E P d σ' s s₁ f₁ g f l w a (a + t) b
  alive : u < n → repeats (Round P) d e n u σ ≡ still → (Clear 1 (either s g) (suc b) → ⊥) ⊎ ((Clear d f₁ (suc b) → ⊥) ⊎ Flying E P (suc b))
  so_far : u < n → repeats (Round P) d e n u σ ≡ still → Spaced d f₁ (suc b) × Late E P (suc b) s₁ f₁ l w

module _ (E : Tags) (d : ℕ) (e : Expr) (P : Stmt) (pos : 1 ≤ d) (timed : Timed P) (formed : Formed P) (does : RunOf P) (s f s₁ f₁ g : Sig) (v l w : Words) (σ₀ : Store)
    (latches : Loads (written P) s g v w l) (begin : s₁ ≈ delayed 1 (either s g))
    (more : (t : ℕ) → g t ≡ (delayed d f₁ t && is_zero (eval e (w t))))
    (fin : (t : ℕ) → f t ≡ (delayed d f₁ t && not (is_zero (eval e (w t))))) where
  repeat-off : (t : ℕ) → delayed d f₁ t ≡ false → f t ≡ false
  repeat-off t q = fin t ∙ ap (λ (c : Bool). c && not (is_zero (eval e (w t)))) q

  repeat-none : (t : ℕ) → delayed d f₁ t ≡ false → g t ≡ false
  repeat-none t q = more t ∙ ap (λ (c : Bool). c && is_zero (eval e (w t))) q

  module _ (σ : Store) (a b u : ℕ) (h : a + u ≡ b) (T : Starts E P d σ₀ σ s s₁ f₁ g v l w a b) where
    repeat-on : s₁ (suc a) ≡ true
    repeat-on = begin (suc a) ∙ delayed-at 1 (either s g) a (suc a) (omega arith) ∙ T.pulse

    repeat-later : (c : ℕ) → Quiet f₁ (suc a) c → Quiet (delayed d f₁) (suc a) (c + d)
    repeat-later c q t o k =
        delayed-off d f₁ t (λ i y. by_le (suc a) i (λ j. q i j (omega arith)) (λ j. T.before i (omega arith) (omega arith)))

    -- as long as the body's finish has not gone through the delay, nothing more is loaded
    repeat-load : (c m : ℕ) → m ≤ suc b → m ≤ c + d → Quiet f₁ (suc a) c → Quiet (either s g) (suc a) m
    repeat-load c m o₁ o₂ q t o k = ap₂ ◌||◌ (T.after t o (omega arith)) (repeat-none t (repeat-later c q t o (omega arith)))

    repeat-started : (m : ℕ) → Quiet (either s g) (suc a) m → Quiet s₁ (suc (suc a)) (suc m)
    repeat-started m q t o k = begin t ∙ delayed-after 1 (either s g) (suc a) m q t (omega arith) (omega arith)

    repeat-latched : (m : ℕ) → m ≤ b → Quiet (either s g) (suc a) m → Stable l σ (suc a) m
    repeat-latched m o q = latch-stable (written P) s g v w l latches σ a T.pulse T.words σ₀ m b T.ins T.kept o q

    module _ (o : 1 ≤ u) where
      repeat-body : Launched E P σ s₁ f₁ l w (suc a) (u - 1)
      repeat-body =
          launch E P timed does σ s₁ f₁ l w (suc a) (u - 1) T.calm repeat-on
          (λ n o₁ q.
          let r : Quiet (either s g) (suc a) (suc a + n) = repeat-load (suc a + n) (suc a + n) (omega arith) (omega arith) q in
          (repeat-started (suc a + n) r, repeat-latched (suc a + n) (omega arith) r))

      repeat-running : run functional (u - 1) P σ ≡ still → Quiet f (suc a) (suc b)
      repeat-running p t j k =
          repeat-off t (repeat-later (suc b) (λ t j k. repeat-body.goes_on p t j (omega arith)) t j (omega arith))

      module _ (t₁ : ℕ) (σ₁ : Store) (p : run functional (u - 1) P σ ≡ ended t₁ σ₁) where
        repeat-ended : Ended E P σ₁ s₁ f₁ l w (suc a) (suc a + t₁) (suc a + t₁)
        repeat-ended = repeat-body.ends t₁ σ₁ p

        -- the body's finish enters the delay
        repeat-spaced : (c : ℕ) → Quiet f₁ (suc (suc a + t₁)) c → Spaced d f₁ c
        repeat-spaced c q =
            spaced-on d f₁ (suc a + t₁) c (spaced-off d f₁ (suc a) (suc a + t₁) T.spaced repeat-ended.quiet)
            (λ t j k. by_le (suc a) t (λ i. repeat-ended.quiet t i j) (λ i. T.before t (omega arith) (omega arith))) q

        -- and the test has not come
        repeat-waits : u < suc t₁ + d → t₁ ≤ u - 1 → Spaced d f₁ (suc b) × Late E P (suc b) s₁ f₁ l w
        repeat-waits o₁ o₂ =
            let q : Quiet (either s g) (suc a) (suc b) = repeat-load (suc a + t₁) (suc b) (omega arith) (omega arith) repeat-ended.quiet in
            let r : Rests E P s₁ f₁ l w (suc (suc a + t₁)) (suc b) =
            rest P timed E s₁ f₁ l w (suc (suc a + t₁)) (suc b) repeat-ended.calm (omega arith)
            (λ t j k. repeat-started (suc b) q t (omega arith) (omega arith)) in
            (repeat-spaced (suc b) r.fin, calm-late E P (suc b) s₁ f₁ l w r.calm)

        repeat-so-far : Quiet f (suc a) (suc a + t₁ + d)
        repeat-so-far t j k = repeat-off t (repeat-later (suc a + t₁) repeat-ended.quiet t j k)

        -- the body's words, as long as nothing more is loaded
        repeat-held : (m : ℕ) → suc a + t₁ ≤ m → m ≤ b → Quiet (either s g) (suc a) m → Stable w σ₁ (suc a + t₁) m
        repeat-held m o₁ o₂ q =
            ((does E σ s₁ f₁ l w (suc a) m (m - suc a) (omega arith)
            (record { calm = T.calm; start = repeat-on; after = repeat-started m q; words = repeat-latched m o₂ q })
            ).ends t₁ σ₁ ((steady functional P timed σ (u - 1) at_end t₁ σ₁ p).1 (m - suc a) (omega arith))).words

        module _ (o₁ : suc t₁ + d ≤ u) where
          repeat-unloaded : Quiet (either s g) (suc a) (suc a + t₁ + d)
          repeat-unloaded = repeat-load (suc a + t₁) (suc a + t₁ + d) (omega arith) (omega arith) repeat-ended.quiet

          repeat-rest : Rests E P s₁ f₁ l w (suc (suc a + t₁)) (suc (suc a + t₁ + d))
          repeat-rest =
              rest P timed E s₁ f₁ l w (suc (suc a + t₁)) (suc (suc a + t₁ + d)) repeat-ended.calm (omega arith)
              (λ t j k. repeat-started (suc a + t₁ + d) repeat-unloaded t (omega arith) k)

          repeat-pulse : delayed d f₁ (suc a + t₁ + d) ≡ true
          repeat-pulse = delayed-at d f₁ (suc a + t₁) (suc a + t₁ + d) refl ∙ repeat-ended.high

          repeat-words : Stable w σ₁ (suc a + t₁) (suc a + t₁ + d)
          repeat-words = repeat-held (suc a + t₁ + d) (omega arith) (omega arith) repeat-unloaded

          repeat-test : is_zero (eval e (w (suc a + t₁ + d))) ≡ is_zero (eval e σ₁)
          repeat-test =
              ap is_zero (eval-stable e w σ₁ (suc a + t₁) (suc a + t₁ + d) repeat-words (suc a + t₁ + d) (omega arith) (omega arith))

          repeat-quiet : s (suc a + t₁ + d) ≡ false
          repeat-quiet = T.after (suc a + t₁ + d) (omega arith) (omega arith)

          repeat-clear : Clear d f₁ (suc (suc a + t₁ + d))
          repeat-clear t j k = repeat-rest.fin t (omega arith) j

          -- the condition is true: the loop ends
          repeat-leaves : is_zero (eval e σ₁) ≡ false → Departs E P d σ₁ s s₁ f₁ g f l w a (suc a + t₁ + d) b
          repeat-leaves z =
              let none : either s g (suc a + t₁ + d) ≡ false =
              ap₂ ◌||◌ repeat-quiet (more (suc a + t₁ + d) ∙ ap₂ ◌&&◌ repeat-pulse (repeat-test ∙ z)) in
              let empty : Clear 1 (either s g) (suc (suc a + t₁ + d)) = λ t j k. at (either s g) (omega arith) none in
              let hold : RepeatRests E P d s s₁ f₁ g l w (suc (suc a + t₁ + d)) (suc b) =
              repeat-rests E P d pos (rest P timed) s s₁ f₁ g l w (λ t. is_zero (eval e (w t))) begin more (suc (suc a + t₁ + d)) (suc b) (omega arith)
              repeat-rest.calm empty repeat-clear (λ t j k. T.after t (omega arith) k) in
              let off : Quiet (either s g) (suc a) b =
              glue_at (either s g) (suc a) (suc a + t₁ + d) b repeat-unloaded none (λ t j k. hold.load t j (omega arith)) in
              record {
                quiet = repeat-so-far;
                high = fin (suc a + t₁ + d) ∙ ap₂ (λ (c c' : Bool). c && not c') repeat-pulse (repeat-test ∙ z);
                words = λ t x j k. repeat-held b (omega arith) (omega arith) off t x (omega arith) k;
                calm = repeat-rest.calm;
                empty = empty;
                clear = repeat-clear;
                spaced = repeat-spaced (suc (suc a + t₁ + d)) repeat-rest.fin;
              }

          module _ (z : is_zero (eval e σ₁) ≡ true) where
            repeat-more : g (suc a + t₁ + d) ≡ true
            repeat-more = more (suc a + t₁ + d) ∙ ap₂ ◌&&◌ repeat-pulse (repeat-test ∙ z)

            repeat-through : Quiet f (suc a) (suc (suc a + t₁ + d))
            repeat-through =
                glue_at f (suc a) (suc a + t₁ + d) (suc (suc a + t₁ + d)) repeat-so-far
                (fin (suc a + t₁ + d) ∙ ap₂ (λ (c c' : Bool). c && not c') repeat-pulse (repeat-test ∙ z)) (λ t j k. absurd (omega arith))

            repeat-again : Starts E P d σ₀ σ₁ s s₁ f₁ g v l w (suc a + t₁ + d) b
            repeat-again =
                record {
                  before = λ t j k. repeat-rest.fin t (omega arith) (omega arith);
                  spaced = repeat-spaced (suc (suc a + t₁ + d)) repeat-rest.fin;
                  pulse = ap (λ (c : Bool). s (suc a + t₁ + d) || c) repeat-more ∙ or-true (s (suc a + t₁ + d));
                  calm = repeat-rest.calm;
                  after = λ t j k. T.after t (omega arith) k;
                  words =
                      brings-second (written P) s g v w l latches σ₁ (suc a + t₁ + d) repeat-quiet repeat-more
                      (λ x. repeat-words (suc a + t₁ + d) x (omega arith) (omega arith));
                  ins = λ t x j k. T.ins t x (omega arith) k;
                  kept = λ x i. unwritten functional P formed x i (u - 1) at_end t₁ σ σ₁ p ∙ T.kept x i;
                }

  module _ (n : ℕ)
      (ih : (σ : Store) (a b u : ℕ) → a + u ≡ b → Starts E P d σ₀ σ s s₁ f₁ g v l w a b → Repeated E d e P s f s₁ f₁ g l w n σ a b u)
      (σ : Store) (a b u : ℕ) (h : a + u ≡ b) (T : Starts E P d σ₀ σ s s₁ f₁ g v l w a b) where
    -- t₀ is when the body ended, with the instant of its latching
    module _ (o : 1 ≤ u) (t₁ : ℕ) (σ₁ : Store) (p : run functional (u - 1) P σ ≡ ended t₁ σ₁) (t₀ : ℕ) (y : t₀ ≡ 1 + t₁) where
      repeat-next : suc t₁ + d ≤ u → is_zero (eval e σ₁) ≡ true → Repeated E d e P s f s₁ f₁ g l w n σ₁ (suc a + t₁ + d) b (u - t₀ - d)
      repeat-next o₁ z = ih σ₁ (suc a + t₁ + d) b (u - t₀ - d) (omega arith) (repeat-again σ a b u h T o t₁ σ₁ p o₁ z)

      repeat-turn-goes-on : u < suc n → again (Round P) d e n (u - t₀) σ₁ ≡ still → Quiet f (suc a) (suc b)
      repeat-turn-goes-on j q =
          by_le (suc t₁ + d) u
          (λ o₁.
          by_bool (is_zero (eval e σ₁))
          (λ z.
          let r : repeats (Round P) d e n (u - t₀ - d) σ₁ ≡ still =
          wait-still d (u - t₀) (λ k. repeats (Round P) d e n k σ₁) (sym (again-more (Round P) d e n (u - t₀) σ₁ z) ∙ q) (omega arith) in
          glue f (suc a) (suc (suc a + t₁ + d)) (suc b) (repeat-through σ a b u h T o t₁ σ₁ p o₁ z) ((repeat-next o₁ z).goes_on (omega arith) r))
          (λ z.
          done-still (wait-still d (u - t₀) (λ k. ended 0 σ₁) (sym (again-stop (Round P) d e n (u - t₀) σ₁ z) ∙ q) (omega arith))))
          (λ o₁ t j k. repeat-so-far σ a b u h T o t₁ σ₁ p t j (omega arith))

      repeat-turn-so-far : u < suc n → again (Round P) d e n (u - t₀) σ₁ ≡ still → Spaced d f₁ (suc b) × Late E P (suc b) s₁ f₁ l w
      repeat-turn-so-far j q =
          by_le (suc t₁ + d) u
          (λ o₁.
          by_bool (is_zero (eval e σ₁))
          (λ z.
          let r : repeats (Round P) d e n (u - t₀ - d) σ₁ ≡ still =
          wait-still d (u - t₀) (λ k. repeats (Round P) d e n k σ₁) (sym (again-more (Round P) d e n (u - t₀) σ₁ z) ∙ q) (omega arith) in
          (repeat-next o₁ z).so_far (omega arith) r)
          (λ z.
          done-still (wait-still d (u - t₀) (λ k. ended 0 σ₁) (sym (again-stop (Round P) d e n (u - t₀) σ₁ z) ∙ q) (omega arith))))
          (λ o₁. repeat-waits σ a b u h T o t₁ σ₁ p o₁ (in-time P timed σ (u - 1) t₁ σ₁ p))

      repeat-turn-alive : u < suc n → again (Round P) d e n (u - t₀) σ₁ ≡ still
          → (Clear 1 (either s g) (suc b) → ⊥) ⊎ ((Clear d f₁ (suc b) → ⊥) ⊎ Flying E P (suc b))
      repeat-turn-alive j q =
          by_le (suc t₁ + d) u
          (λ o₁.
          by_bool (is_zero (eval e σ₁))
          (λ z.
          (repeat-next o₁ z).alive (omega arith)
          (wait-still d (u - t₀) (λ k. repeats (Round P) d e n k σ₁) (sym (again-more (Round P) d e n (u - t₀) σ₁ z) ∙ q) (omega arith)))
          (λ z.
          done-still (wait-still d (u - t₀) (λ k. ended 0 σ₁) (sym (again-stop (Round P) d e n (u - t₀) σ₁ z) ∙ q) (omega arith))))
          (λ o₁.
          let o₂ : t₁ ≤ u - 1 = in-time P timed σ (u - 1) t₁ σ₁ p in
          inr (inl (λ c. not-both (repeat-ended σ a b u h T o t₁ σ₁ p).high (c (suc a + t₁) (omega arith) (omega arith)))))

      repeat-turn-ends : (t t₂ : ℕ) (σ' : Store) → t ≡ t₀ + t₂ → again (Round P) d e n (u - t₀) σ₁ ≡ ended t₂ σ'
          → Departs E P d σ' s s₁ f₁ g f l w a (a + t) b
      repeat-turn-ends t t₂ σ' x q =
          by_bool (is_zero (eval e σ₁))
          (λ z.
          let i = wait-done d (u - t₀) (λ k. repeats (Round P) d e n k σ₁) (sym (again-more (Round P) d e n (u - t₀) σ₁ z) ∙ q) in
          let o₁ : suc t₁ + d ≤ u = omega (arith, i.1) in
          let r : suc a + t₁ + d + i.0 ≡ a + t = omega (arith, i.3) in
          let X : Departs E P d σ' s s₁ f₁ g f l w (suc a + t₁ + d) (a + t) b =
          subst (λ (c : ℕ). Departs E P d σ' s s₁ f₁ g f l w (suc a + t₁ + d) c b) r ((repeat-next o₁ z).ends i.0 σ' i.2) in
          record {
            quiet = glue f (suc a) (suc (suc a + t₁ + d)) (a + t) (repeat-through σ a b u h T o t₁ σ₁ p o₁ z) X.quiet;
            high = X.high;
            words = X.words;
            calm = X.calm;
            empty = X.empty;
            clear = X.clear;
            spaced = X.spaced;
          })
          (λ z.
          let i = wait-done d (u - t₀) (λ k. ended 0 σ₁) (sym (again-stop (Round P) d e n (u - t₀) σ₁ z) ∙ q) in
          let x₁ : 0 ≡ i.0 = done-time i.2 in
          let r : suc a + t₁ + d ≡ a + t = omega (arith, i.3) in
          subst (λ (τ : Store). Departs E P d τ s s₁ f₁ g f l w a (a + t) b) (done-words i.2)
          (subst (λ (c : ℕ). Departs E P d σ₁ s s₁ f₁ g f l w a c b) r (repeat-leaves σ a b u h T o t₁ σ₁ p (omega (arith, i.1)) z)))

    repeat-turn : Repeated E d e P s f s₁ f₁ g l w (suc n) σ a b u
    repeat-turn =
        let onward : ℕ → Store → Run = λ t σ₁. again (Round P) d e n (u - t) σ₁ in
        record {
          goes_on = λ j p.
              by_runs (Round P u σ)
              (λ t₀ σ₁ q.
              let i = wait-done 1 u (λ k. run functional k P σ) (sym (round_is P u σ) ∙ q) in
              repeat-turn-goes-on i.1 i.0 σ₁ i.2 t₀ i.3 j
              (chain-still (Round P u σ) onward q (sym (repeats-is (Round P) d e n u σ) ∙ p)))
              (λ t₀ σ₁ q.
              let i = wait-done 1 u (λ k. run functional k P σ) (sym (round_is P u σ) ∙ q) in
              never-leaves functional P (calm-closed E P (suc a) s₁ f₁ l w T.calm) (u - 1) i.0 σ σ₁ i.2)
              (λ q.
              by_le 1 u (λ o. repeat-running σ a b u h T o (wait-still 1 u (λ k. run functional k P σ) (sym (round_is P u σ) ∙ q) o))
              (λ o t j k. absurd (omega arith)));
          alive = λ j p.
              by_runs (Round P u σ)
              (λ t₀ σ₁ q.
              let i = wait-done 1 u (λ k. run functional k P σ) (sym (round_is P u σ) ∙ q) in
              repeat-turn-alive i.1 i.0 σ₁ i.2 t₀ i.3 j
              (chain-still (Round P u σ) onward q (sym (repeats-is (Round P) d e n u σ) ∙ p)))
              (λ t₀ σ₁ q.
              let i = wait-done 1 u (λ k. run functional k P σ) (sym (round_is P u σ) ∙ q) in
              never-leaves functional P (calm-closed E P (suc a) s₁ f₁ l w T.calm) (u - 1) i.0 σ σ₁ i.2)
              (λ q.
              by_le 1 u
              (λ o.
              let y : suc a + (u - 1) ≡ b = omega arith in
              inr
              (inr
              (subst (λ (k : ℕ). Flying E P (suc k)) y
              ((repeat-body σ a b u h T o).alive (wait-still 1 u (λ k. run functional k P σ) (sym (round_is P u σ) ∙ q) o)))))
              (λ o. inl (λ c. not-both T.pulse (c a (omega arith) (omega arith)))));
          so_far = λ j p.
              by_runs (Round P u σ)
              (λ t₀ σ₁ q.
              let i = wait-done 1 u (λ k. run functional k P σ) (sym (round_is P u σ) ∙ q) in
              repeat-turn-so-far i.1 i.0 σ₁ i.2 t₀ i.3 j
              (chain-still (Round P u σ) onward q (sym (repeats-is (Round P) d e n u σ) ∙ p)))
              (λ t₀ σ₁ q.
              let i = wait-done 1 u (λ k. run functional k P σ) (sym (round_is P u σ) ∙ q) in
              never-leaves functional P (calm-closed E P (suc a) s₁ f₁ l w T.calm) (u - 1) i.0 σ σ₁ i.2)
              (λ q.
              by_le 1 u
              (λ o.
              let y : suc a + (u - 1) ≡ b = omega arith in
              let r : run functional (u - 1) P σ ≡ still = wait-still 1 u (λ k. run functional k P σ) (sym (round_is P u σ) ∙ q) o in
              let X = repeat-body σ a b u h T o in (
                spaced-off d f₁ (suc a) (suc b) T.spaced (λ t j k. X.goes_on r t j (omega arith)),
                subst (λ (k : ℕ). Late E P (suc k) s₁ f₁ l w) y (X.so_far r),
              ))
              (λ o.
              let y : a ≡ b = omega arith in (
                subst (λ (k : ℕ). Spaced d f₁ (suc k)) y T.spaced,
                subst (λ (k : ℕ). Late E P (suc k) s₁ f₁ l w) y (calm-late E P (suc a) s₁ f₁ l w T.calm),
              )));
          ends = λ t σ' p.
              let c = chain-ended (Round P u σ) onward (sym (repeats-is (Round P) d e n u σ) ∙ p) in
              let i = wait-done 1 u (λ k. run functional k P σ) (sym (round_is P u σ) ∙ c.3) in
              repeat-turn-ends i.1 i.0 c.1 i.2 c.0 i.3 t c.2 σ' c.5 c.4;
        }

  repeat-turns : (n : ℕ) (σ : Store) (a b u : ℕ) → a + u ≡ b → Starts E P d σ₀ σ s s₁ f₁ g v l w a b → Repeated E d e P s f s₁ f₁ g l w n σ a b u
  unfolding repeats
  repeat-turns zero σ a b u h T =
      record {
        goes_on = λ j p. absurd (omega arith);
        alive = λ j p. absurd (omega arith);
        so_far = λ j p. absurd (omega arith);
        ends = λ t σ' p. done-still (sym p);
      }
  repeat-turns (suc n) σ a b u h T = repeat-turn n (repeat-turns n) σ a b u h T

module _ (E₀ : Tags) (d : ℕ) (e : Expr) (P : Stmt) (pos : 1 ≤ d) (timed : Timed P) (formed : Formed P) (does : RunOf P)
    (σ : Store) (s f : Sig) (v w : Words) (a b u : ℕ) (h : a + u ≡ b) (B : Begins E₀ (repeat d e P) σ s f v w a b)
    (n : Repeat (written P) d e (Calm (lft E₀) P a) (λ s. Clear 1 s a × E₀.delay also 1 s × Spaced 1 s a) (λ s. Clear d s a × E₀.delay here d s × Spaced d s a) s f v w) where
  repeat-first : delayed d n.f₁ a ≡ false
  repeat-first = delayed-off d n.f₁ a (λ i q. n.delay.0 i (omega arith) (omega arith))

  repeat-enters : Starts (lft E₀) P d σ σ s n.s₁ n.f₁ n.g v n.l w a b
  repeat-enters =
      let off : n.s₁ a ≡ false = n.begin a ∙ delayed-off 1 (either s n.g) a (λ i q. n.load.0 i (omega arith) (omega arith)) in
      let none : n.g a ≡ false = n.more a ∙ ap (λ (c : Bool). c && is_zero (eval e (w a))) repeat-first in
      let r : Rests (lft E₀) P n.s₁ n.f₁ n.l w a (suc a) =
      rest P timed (lft E₀) n.s₁ n.f₁ n.l w a (suc a) n.body (omega arith) (λ t j k. at n.s₁ (omega arith) off) in
      record {
        before = λ t j k. by_le a t (λ i. r.fin t i (omega arith)) (λ i. n.delay.0 t i (omega arith));
        spaced = spaced-off d n.f₁ a (suc a) n.delay.2 r.fin;
        pulse = ap (λ (c : Bool). c || n.g a) B.start;
        calm = r.calm;
        after = B.after;
        words = brings-first (written P) s n.g v w n.l n.latches σ a B.start none (λ x. B.words a x (omega arith) (omega arith));
        ins = B.words;
        kept = λ x e. refl;
      }

  repeat-repeated : Repeated (lft E₀) d e P s f n.s₁ n.f₁ n.g n.l w (suc u) σ a b u
  repeat-repeated =
      repeat-turns (lft E₀) d e P pos timed formed does s f n.s₁ n.f₁ n.g v n.l w σ n.latches n.begin n.more n.fin (suc u) σ a b u h repeat-enters

  repeat-does : Does E₀ (repeat d e P) σ s f v w a b u
  unfolding run Calm Net
  repeat-does =
      let off : f a ≡ false = n.fin a ∙ ap (λ (c : Bool). c && not (is_zero (eval e (w a)))) repeat-first in
      record {
        goes_on = λ p. glue_at f a a (suc b) (λ t j k. absurd (omega arith)) off (repeat-repeated.goes_on (omega arith) p);
        alive = λ p.
            ⊎_elim (λ c. inl (either s n.g, n.load.1, c)) (λ x. inr (⊎_elim (λ c. inl (n.f₁, n.delay.1, c)) (λ y. inr y) x))
            (repeat-repeated.alive (omega arith) p);
        so_far = λ p.
            let X = repeat-repeated.so_far (omega arith) p in
            record {
              s₁ = n.s₁;
              f₁ = n.f₁;
              g = n.g;
              l = n.l;
              body = X.1;
              latches = n.latches;
              begin = n.begin;
              more = n.more;
              fin = n.fin;
              load = (spaced-one (either s n.g) (suc b), n.load.1);
              delay = (X.0, n.delay.1);
            };
        ends = λ t σ' p.
            let X = repeat-repeated.ends t σ' p in
            record {
              quiet = glue_at f a a (a + t) (λ t j k. absurd (omega arith)) off X.quiet;
              high = X.high;
              words = X.words;
              calm = record {
                s₁ = n.s₁;
                f₁ = n.f₁;
                g = n.g;
                l = n.l;
                body = X.calm;
                latches = n.latches;
                begin = n.begin;
                more = n.more;
                fin = n.fin;
                load = (X.empty, n.load.1, spaced-one (either s n.g) (suc (a + t)));
                delay = (X.clear, n.delay.1, X.spaced);
              };
            };
      }

pub run-repeat : (d : ℕ) (e : Expr) (P : Stmt) → 1 ≤ d → Timed P → Formed P → RunOf P → RunOf (repeat d e P)
unfolding Calm Net
run-repeat d e P pos timed formed does E σ s f v w a b u h B = repeat-does E d e P pos timed formed does σ s f v w a b u h B B.calm
