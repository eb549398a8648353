-- What the circuit of an if does. Its condition is read w times, and its words stay meanwhile. Assumes nothing.
use Rattle.std.specs.Prelude.{ℕ, suc, ◌+◌, ◌-◌, ◌≤◌, ◌<◌, ◌≡◌, Bool, true, false, not, ◌&&◌, ◌||◌}
use Rattle.std.proofs.Common.{sym, ◌∙◌, ap, ap₂, arith}
use Rattle.std.proofs.Math.Bool.{or_comm}
use Rattle.model.specs.Word.{is_zero}
use Rattle.model.specs.Program.{Expr, Code, ite, reads, touches}
use Rattle.model.specs.Procedures.{inline, reaches}
use Rattle.model.specs.Rules.{imperative, Store, owner, eval}
use Rattle.model.specs.Circuit.{Sig, delayed}
use Rattle.laws.specs.Refusals.Laws.{by_bool, by_le, not-both}
use Rattle.laws.specs.Program.Fit.{FormedExpr}
use Rattle.laws.specs.Rules.Laws.{wait-still, ite-then, ite-else, wait-done}
use Rattle.model.specs.Program.{gap}
use Rattle.theory.specs.Control.Ways.{at-time}
use Rattle.theory.specs.Control.Signal.{Quiet, delayed-quiet}
use Rattle.theory.specs.Control.Pulses.{Pulse, Firm, pulse-less, pulse-delayed, pulse-firm, either-firm}
use Rattle.theory.specs.Control.History.{Stable, stable-off, stable-on, Spaced, spaced-on}
use Rattle.theory.specs.Control.Wiring.{ideal, Gives, Ite, Circuit, Test, Each}
use Rattle.theory.specs.Control.World.{World, Built, means, Paced, goes, each_of}
use Rattle.theory.specs.Control.Memories.{joined-swap}
use Rattle.theory.specs.Control.Calm.{Calm, calmly, Sofar, lately, calm-sofar}
use Rattle.theory.specs.Control.Rest.{Rests, rest, hush}
use Rattle.theory.specs.Control.Surge.{surge, gated-firm, test-same}
use Rattle.theory.specs.Control.Bodies.{Owned, Owns, owns-both, pause-sofar}
use Rattle.theory.specs.Control.Runs.{Begins, free, Going, Does, RunOf, ShortOf, done-as, going-as}
use Rattle.theory.specs.Control.Tests.{Waits, waited, Firmed, test_words, test-is}
use Rattle.theory.specs.Control.Sides.{branch}

module _ (W : World) (d : ℕ) (e : Expr) (formed : FormedExpr e) (P Q : Code) (timedP : Paced W P) (timedQ : Paced W Q)
    (doesP : RunOf W P) (doesQ : RunOf W Q) (U : Owned) (σ : Store) (s f : Sig) (g : Gives)
    (n : Ite (ideal W.m) d e (Built W P) (Built W Q) s f g) where
  abbrev K₁ : ℕ → Type 0
  K₁ = Calm W P n.s₁ n.f₁ n.g₁ n.left

  abbrev L₁ : ℕ → Type 0
  L₁ = Sofar W P n.s₁ n.f₁ n.g₁ n.left

  abbrev K₂ : ℕ → Type 0
  K₂ = Calm W Q n.s₂ n.f₂ n.g₂ n.right

  abbrev L₂ : ℕ → Type 0
  L₂ = Sofar W Q n.s₂ n.f₂ n.g₂ n.right

  abbrev K : ℕ → Type 0
  K t = Test (calmly W.w W.m t) d e s × K₁ t × K₂ t

  abbrev L : ℕ → Type 0
  L t = Test (lately W.w W.m t) d e s × L₁ t × L₂ t

  -- the starts of the two branches, where the delay says nothing
  ite-off₁ : (t : ℕ) → delayed d s t ≡ false → n.s₁ t ≡ false
  ite-off₁ t q = n.yes₁ t ∙ ap (λ (c : Bool). c && not (is_zero (eval e (W.m t)))) q

  ite-off₂ : (t : ℕ) → delayed d s t ≡ false → n.s₂ t ≡ false
  ite-off₂ t q = n.no₂ t ∙ ap (λ (c : Bool). c && is_zero (eval e (W.m t))) q

  module _ (a c j u : ℕ) (h : a + u ≡ c) (o' : c < j) (B : Begins W (ite d e P Q) U σ K s g a c j) where
    ite-before : Quiet (delayed d s) a (a + d)
    ite-before = delayed-quiet d s a a B.ready.calm.0.0 (λ t l k. absurd (omega arith))

    ite-pulse : Pulse W.w (delayed d s) (a + d) (j + d)
    ite-pulse = pulse-delayed d B.pulse

    ite-rest₁ : (b : ℕ) → a ≤ b → b ≤ a + d → Rests n.f₁ n.g₁ K₁ a b
    ite-rest₁ b o o₁ =
        rest W P timedP n.s₁ n.f₁ n.g₁ n.left a b B.ready.calm.1 o (λ t l k. ite-off₁ t (ite-before t l (omega arith)))

    ite-rest₂ : (b : ℕ) → a ≤ b → b ≤ a + d → Rests n.f₂ n.g₂ K₂ a b
    ite-rest₂ b o o₁ =
        rest W Q timedQ n.s₂ n.f₂ n.g₂ n.right a b B.ready.calm.2 o (λ t l k. ite-off₂ t (ite-before t l (omega arith)))

    ite-line : (b : ℕ) → b ≤ j → Spaced W.w d s b
    ite-line b o = spaced-on W.w d s a b B.ready.calm.0.1 B.ready.calm.0.0 (pulse-less o B.pulse)

    -- the test has not come
    ite-short : u < d → Going W U K L f g a c
    ite-short k =
        let r₁ = ite-rest₁ (suc c) (omega arith) (omega arith) in
        let r₂ = ite-rest₂ (suc c) (omega arith) (omega arith) in
        record {
          fin = λ t l r. n.fin t ∙ ap₂ ◌||◌ (r₁.fin t l r) (r₂.fin t l r);
          out = λ t l r. n.joined.out t ∙ ap₂ ◌||◌ (r₁.out t l r) (r₂.out t l r);
          sofar = (
            (tt, ite-line (suc c) (omega arith), stable-off W.m d e s a (suc c) B.ready.calm.0.2 (λ t l r. ite-before t l (omega arith))),
            calm-sofar W P n.s₁ n.f₁ n.g₁ n.left (suc c) r₁.calm,
            calm-sofar W Q n.s₂ n.f₂ n.g₂ n.right (suc c) r₂.calm,
          );
          alive = λ k₁. not-both (B.pulse.high a (omega arith) (omega arith) (omega arith)) (k₁.0.0 a (omega arith) (omega arith));
          bodies = pause-sofar W U g a (suc c) j (omega arith) B.ready.settled (λ t l r. B.silent t l (omega arith) (omega arith))
              (λ q t l r. n.joined.called q t ∙ ap₂ ◌||◌ (r₁.called q t (omega arith) (omega arith)) (r₂.called q t (omega arith) (omega arith)));
        }

    -- what the condition reads, and what a branch uses, the if uses
    ite-uses : ((x : ℕ) → reads e x ≡ true → U.vars x) × ((x : ℕ) → (touches (means W P) x || touches (means W Q) x) ≡ true → U.vars x)
    unfolding touches inline
    ite-uses = each_of (reads e) (λ x. touches (means W P) x || touches (means W Q) x) B.ready.owns.mine

    ite-owns : Owns W P U × Owns W Q U
    unfolding reaches
    ite-owns = owns-both W P Q U ite-uses.1 B.ready.owns.reach

    module _ (o : d ≤ u) where
      rest₁ : Rests n.f₁ n.g₁ K₁ a (a + d)
      rest₁ = ite-rest₁ (a + d) (omega arith) (omega arith)

      rest₂ : Rests n.f₂ n.g₂ K₂ a (a + d)
      rest₂ = ite-rest₂ (a + d) (omega arith) (omega arith)

      -- up to a gap after the test nothing is called
      ite-uncalled : (q : ℕ) → Quiet (g.calls q) a (a + d + gap W.w)
      ite-uncalled q t l k =
          n.joined.called q t
          ∙ by_le (a + d) t
          (λ z.
          ap₂ ◌||◌ (hush W P timedP n.s₁ n.f₁ n.g₁ n.left (a + d) rest₁.calm q t z k)
          (hush W Q timedQ n.s₂ n.f₂ n.g₂ n.right (a + d) rest₂.calm q t z k))
          (λ z. ap₂ ◌||◌ (rest₁.called q t l (omega arith)) (rest₂.called q t l (omega arith)))

      ite-waits : Waits W U g d σ a c j
      ite-waits =
          record {
            room = omega arith;
            last = o';
            free = free B;
            low = λ x t l k. n.joined.clocks x t ∙ ap₂ ◌||◌ (rest₁.clocks x t l (omega arith)) (rest₂.clocks x t l (omega arith));
            uncalled = λ q t l k k'. ite-uncalled q t (omega arith) k;
          }

      ite-firm : Firmed W U g d a c
      ite-firm k l l₁ l₂ q x =
          let D : Firm (delayed d s) (a + d) k = pulse-firm k (omega arith) (omega arith) ite-pulse in
          let z = test-same W e formed U.vars (a + d) k ite-uses.0 q in
          let r =
          surge W P timedP n.s₁ n.f₁ n.g₁ n.left (a + d) k rest₁.calm l (omega arith)
          (gated-firm (delayed d s) n.s₁ (λ t. not (is_zero (eval e (W.m t)))) (a + d) k (λ t l h. n.yes₁ t) D (λ t l h. ap not (z t l h)))
          (λ y r. q y (ite-owns.0.mine (owner y) r)) in
          let r' =
          surge W Q timedQ n.s₂ n.f₂ n.g₂ n.right (a + d) k rest₂.calm l (omega arith)
          (gated-firm (delayed d s) n.s₂ (λ t. is_zero (eval e (W.m t))) (a + d) k (λ t l h. n.no₂ t) D z)
          (λ y r. q y (ite-owns.1.mine (owner y) r)) in
          either-firm (n.g₁.clk x) (n.g₂.clk x) (g.clk x) (a + d) (suc k) (n.joined.clocks x) (r.clocks x) (r'.clocks x)

      ite-test : (t : ℕ) → a + d ≤ t → t < a + d + W.w → t < j → is_zero (eval e (W.m t)) ≡ is_zero (eval e σ)
      ite-test = test-is ite-waits ite-firm e formed ite-uses.0

      ite-used : (b : ℕ) → b ≤ j → Stable W.m d e s b
      ite-used b o₁ =
          stable-on W.w W.m d e s a b σ B.ready.calm.0.2 B.ready.calm.0.0 (pulse-less o₁ B.pulse)
          (λ k x r v l k₁ k₂. test_words ite-waits ite-firm e formed ite-uses.0 x r v l k₁ (omega arith))

      -- what is known of the delay, at the end and so far
      ite-calm : c + gap W.w ≤ j → Test (calmly W.w W.m j) d e s
      ite-calm k = (λ t l k'. B.pulse.low t (omega arith) l, ite-line j (omega arith), ite-used j (omega arith))

      ite-sofar : (b : ℕ) → b ≤ j → Test (lately W.w W.m b) d e s
      ite-sofar b o₁ = (tt, ite-line b o₁, ite-used b o₁)

      -- a branch's start, where the condition is its
      ite-off : (r : Sig) → ((t : ℕ) → delayed d s t ≡ false → r t ≡ false)
          → ((t : ℕ) → a + d ≤ t → t < a + d + W.w → t < j → r t ≡ false) → Quiet r a j
      ite-off r p q t l k =
          by_le (a + d) t
          (λ y₀. by_le (a + d + W.w) t (λ y₁. p t (ite-pulse.low t y₁ (omega arith))) (λ y₁. q t y₀ y₁ k))
          (λ y₀. p t (ite-before t l y₀))

      then-branch : is_zero (eval e σ) ≡ false → Does W U (goes W (u - d) P σ) (λ t. K₁ t × K₂ t) (λ t. L₁ t × L₂ t) f g a c j (u - d)
      then-branch z =
          branch W P Q timedP timedQ doesP U σ f g n.s₁ n.f₁ n.g₁ n.left n.s₂ n.f₂ n.g₂ n.right n.joined n.fin
          a c j u d h o o' B.ready.calm.1 B.ready.calm.2 (λ t l k. ite-off₁ t (ite-before t l k))
          (record {
            high = λ t l k k'.
                n.yes₁ t ∙ ap₂ (λ (p q : Bool). p && not q) (ite-pulse.high t l k (omega arith)) (ite-test t l k k' ∙ z);
            low = λ t l k. ite-off₁ t (ite-pulse.low t l (omega arith));
          })
          (ite-off n.s₂ ite-off₂
          (λ t l k k'. n.no₂ t ∙ ap₂ (λ (p q : Bool). p && q) (ite-pulse.high t l k (omega arith)) (ite-test t l k k' ∙ z)))
          ite-owns.0 (waited ite-waits)

      else-branch : is_zero (eval e σ) ≡ true → Does W U (goes W (u - d) Q σ) (λ t. K₂ t × K₁ t) (λ t. L₂ t × L₁ t) f g a c j (u - d)
      else-branch z =
          branch W Q P timedQ timedP doesQ U σ f g n.s₂ n.f₂ n.g₂ n.right n.s₁ n.f₁ n.g₁ n.left
          (joined-swap n.g₁ n.g₂ g n.joined) (λ t. n.fin t ∙ or_comm (n.f₁ t) (n.f₂ t))
          a c j u d h o o' B.ready.calm.2 B.ready.calm.1 (λ t l k. ite-off₂ t (ite-before t l k))
          (record {
            high = λ t l k k'.
                n.no₂ t ∙ ap₂ (λ (p q : Bool). p && q) (ite-pulse.high t l k (omega arith)) (ite-test t l k k' ∙ z);
            low = λ t l k. ite-off₂ t (ite-pulse.low t l (omega arith));
          })
          (ite-off n.s₁ ite-off₁
          (λ t l k k'. n.yes₁ t ∙ ap₂ (λ (p q : Bool). p && not q) (ite-pulse.high t l k (omega arith)) (ite-test t l k k' ∙ z)))
          ite-owns.1 (waited ite-waits)

    ite-does : Does W U (goes W u (ite d e P Q) σ) K L f g a c j u
    unfolding inline
    ite-does =
        record {
          goes_on = λ p.
              by_le d u
              (λ o.
              by_bool (is_zero (eval e σ))
              (λ z.
              going-as K L (λ k. (k.2, k.1)) (λ l. (ite-sofar o (suc c) (omega arith), l.1, l.0))
              ((else-branch o z).goes_on (wait-still d u (λ k. goes W k Q σ) (sym (ite-else (imperative W.w) u d e (means W P) (means W Q) σ z) ∙ p) o)))
              (λ z.
              going-as K L (λ k. (k.1, k.2)) (λ l. (ite-sofar o (suc c) (omega arith), l.0, l.1))
              ((then-branch o z).goes_on (wait-still d u (λ k. goes W k P σ) (sym (ite-then (imperative W.w) u d e (means W P) (means W Q) σ z) ∙ p) o))))
              (λ o. ite-short o);
          ends = λ way σ' p.
              by_bool (is_zero (eval e σ))
              (λ z.
              let v = wait-done d u (λ k. goes W k Q σ) (sym (ite-else (imperative W.w) u d e (means W P) (means W Q) σ z) ∙ p) in
              let q : v.0 ≡ u - d = omega (arith, v.3) in
              done-as K L (λ o k. (ite-calm v.1 o, k.1, k.0)) (λ l. (ite-sofar v.1 j (omega arith), l.1, l.0))
              ((else-branch v.1 z).ends way σ' (at-time (goes W (u - d) Q σ) q v.2)))
              (λ z.
              let v = wait-done d u (λ k. goes W k P σ) (sym (ite-then (imperative W.w) u d e (means W P) (means W Q) σ z) ∙ p) in
              let q : v.0 ≡ u - d = omega (arith, v.3) in
              done-as K L (λ o k. (ite-calm v.1 o, k.0, k.1)) (λ l. (ite-sofar v.1 j (omega arith), l.0, l.1))
              ((then-branch v.1 z).ends way σ' (at-time (goes W (u - d) P σ) q v.2)));
        }

pub run-ite : (W : World) (d : ℕ) (e : Expr) → FormedExpr e → (P Q : Code) → Paced W P → Paced W Q → RunOf W P → RunOf W Q → ShortOf W (ite d e P Q)
unfolding Circuit Each
run-ite W d e formed P Q timedP timedQ doesP doesQ U σ s f g n a c j u h o k B =
    ite-does W d e formed P Q timedP timedQ doesP doesQ U σ s f g n a c j u h o B
