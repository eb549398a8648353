-- What the circuit of a while does: it starts with its delay. Assumes nothing.
use Rattle.std.specs.Prelude.{ℕ, suc, ◌+◌, ◌-◌, ◌≤◌, ◌<◌, ◌≡◌, refl, Bool, true, false, ◌&&◌, ◌||◌}
use Rattle.std.proofs.Common.{◌∙◌, arith}
use Rattle.std.proofs.Math.Path.{ap}
use Rattle.std.proofs.Math.Bool.{not}
use Rattle.model.specs.Word.{is_zero}
use Rattle.model.specs.Program.{Expr, Code, while, reads, touches}
use Rattle.model.specs.Procedures.{inline, reaches}
use Rattle.model.specs.Circuit.{Sig, delayed}
use Rattle.model.specs.Rules.{Store, Run, run, chain, whiles, eval}
use Rattle.laws.specs.Program.Fit.{FormedExpr}
use Rattle.laws.specs.Rules.Laws.{whiles-stop, whiles-more}
use Rattle.model.specs.Program.{gap}
use Rattle.theory.specs.Control.Signal.{Quiet, delayed-quiet}
use Rattle.theory.specs.Control.History.{stable-off}
use Rattle.theory.specs.Control.Wiring.{either, ideal, Gives, While, Circuit, Test, Each}
use Rattle.theory.specs.Control.World.{World, Built, means, Paced, goes, each_of}
use Rattle.theory.specs.Control.Calm.{Calm, calmly, Sofar, lately, calm-sofar, sofar-less}
use Rattle.theory.specs.Control.Rest.{Rests, rest}
use Rattle.theory.specs.Control.Bodies.{Owned}
use Rattle.theory.specs.Control.Runs.{Begins, free, Does, RunOf, ShortOf}
use Rattle.theory.specs.Control.Rounds.{Enters}
use Rattle.theory.specs.Control.Turns.{Tested, Laps, Turned, enters-does}

not-not : (b : Bool) → b ≡ not (not b)
not-not true = refl
not-not false = refl

-- a while goes round while its condition's word is not zero
module _ (W : World) (d : ℕ) (e : Expr) (formed : FormedExpr e) (P : Code) (long : gap W.w ≤ d) (timed : Paced W P)
    (does : RunOf W P) (U : Owned) (σ : Store) (s f : Sig) (g : Gives) (n : While (ideal W.m) d e (Built W P) s f g) where
  abbrev X : Sig
  X = either s n.f₁

  abbrev K : ℕ → Type 0
  K t = Test (calmly W.w W.m t) d e X × Calm W P n.s₁ n.f₁ g n.body t

  abbrev L : ℕ → Type 0
  L t = Test (lately W.w W.m t) d e X × Sofar W P n.s₁ n.f₁ g n.body t

  -- the body, and then the while with at most k rounds more
  abbrev laps : ℕ → ℕ → Store → Run
  laps i k σ = chain (goes W k P σ) (λ t σ₁. whiles (λ k σ. goes W k P σ) d e i (k - t) σ₁)

  while-laps : Laps W P d e not laps (λ i. whiles (λ k σ. goes W k P σ) d e (suc i))
  while-laps =
      record {
        lap = λ i k σ. refl;
        again = λ i k σ z. whiles-more (λ k σ. goes W k P σ) d e i k σ (not-not (is_zero (eval e σ)) ∙ ap not z);
        stop = λ i k σ z. whiles-stop (λ k σ. goes W k P σ) d e i k σ (not-not (is_zero (eval e σ)) ∙ ap not z);
      }

  module _ (a c j u : ℕ) (h : a + u ≡ c) (o : c < j) (short : j ≤ c + gap W.w) (B : Begins W (while d e P) U σ K s g a c j) where
    while-loop : Tested W P U d e not s f X n.s₁ n.f₁ g
    unfolding touches inline reaches
    while-loop =
        let uses = each_of (reads e) (touches (means W P)) B.ready.owns.mine in
        record {
          body = record {
            built = n.body;
            long = long;
            timed = timed;
            does = does;
            owns = record { mine = uses.1; reach = B.ready.owns.reach };
            off = λ t p q. n.begin t ∙ ap (λ (c : Bool). c && not (is_zero (eval e (W.m t)))) q;
          };
          formed = formed;
          reading = uses.0;
          begin = λ t p. n.begin t;
          fin = λ t. n.fin t ∙ ap (λ (c : Bool). delayed d X t && c) (not-not (is_zero (eval e (W.m t))));
        }

    while-first : Quiet (delayed d X) a (a + d)
    while-first = delayed-quiet d X a a B.ready.calm.0.0 (λ t l k. absurd (omega arith))

    while-enters : Enters W U d σ (Calm W P n.s₁ n.f₁ g n.body) (Sofar W P n.s₁ n.f₁ g n.body) s X n.f₁ g a c j
    while-enters =
        let r : Rests n.f₁ g (Calm W P n.s₁ n.f₁ g n.body) a (a + gap W.w) =
        rest W P timed n.s₁ n.f₁ g n.body a (a + gap W.w) B.ready.calm.1 (omega arith)
        (λ t l k. n.begin t ∙ ap (λ (c : Bool). c && not (is_zero (eval e (W.m t)))) (while-first t l (omega arith))) in
        record {
          before = λ t l k. B.ready.calm.0.0 t l (omega arith);
          on = λ t l k k'. ap (λ (c : Bool). c || n.f₁ t) (B.pulse.high t l k k');
          fed = λ t l k. ap (λ (c : Bool). c || n.f₁ t) (B.pulse.low t l k);
          fin = λ t l k k'. r.fin t (omega arith) k;
          out = λ t l k k'. r.out t l k;
          clocks = λ x t l k k'. r.clocks x t l (omega arith);
          called = λ q t l k k'. r.called q t (omega arith) (omega arith);
          line = B.ready.calm.0.1;
          sofar = λ t l k.
              sofar-less W P n.s₁ n.f₁ g n.body (a + gap W.w) t l
              (calm-sofar W P n.s₁ n.f₁ g n.body (a + gap W.w) r.calm);
          calm = λ k. r.calm;
          after = B.pulse.low;
          free = free B;
        }

    while-turned : Turned W d e f X a j
    while-turned =
        record {
          low = λ t l k k'. n.fin t ∙ ap (λ (c : Bool). c && is_zero (eval e (W.m t))) (while-first t l (omega arith));
          used = λ b l k. stable-off W.m d e X a b B.ready.calm.0.2 (λ t l₁ k₁. while-first t l₁ (omega arith));
        }

    while-does : Does W U (goes W u (while d e P) σ) K L f g a c j u
    unfolding run inline while-loop
    while-does = enters-does while-loop while-laps u σ a c j u (omega arith) h o short while-enters while-turned

pub run-while : (W : World) (d : ℕ) (e : Expr) → FormedExpr e → (P : Code) → gap W.w ≤ d → Paced W P → RunOf W P → ShortOf W (while d e P)
unfolding Circuit Each
run-while W d e formed P long timed does U σ s f g n a c j u h o k B = while-does W d e formed P long timed does U σ s f g n a c j u h o k B
