-- What the circuit of a repeat does: it starts with its body. Assumes nothing.
use Rattle.std.specs.Prelude.{ℕ, suc, ◌+◌, ◌≤◌, ◌<◌, ◌≡◌, refl, Bool, not, ◌&&◌, ◌||◌}
use Rattle.std.proofs.Common.{◌∙◌, arith}
use Rattle.std.proofs.Math.Path.{ap, ap₂}
use Rattle.model.specs.Word.{is_zero}
use Rattle.model.specs.Program.{Expr, Code, repeat, reads, touches}
use Rattle.model.specs.Procedures.{inline, reaches}
use Rattle.model.specs.Circuit.{Sig, delayed}
use Rattle.model.specs.Rules.{Store, run, repeats, eval}
use Rattle.laws.specs.Program.Fit.{FormedExpr}
use Rattle.laws.specs.Rules.Laws.{again, repeats-is, again-more, again-stop}
use Rattle.model.specs.Program.{gap}
use Rattle.theory.specs.Control.Signal.{Quiet, delayed-quiet}
use Rattle.theory.specs.Control.History.{stable-off}
use Rattle.theory.specs.Control.Wiring.{ideal, Gives, Repeat, Circuit, Test, Each}
use Rattle.theory.specs.Control.World.{World, Built, means, Paced, goes, each_of}
use Rattle.theory.specs.Control.Calm.{Calm, calmly, Sofar, lately}
use Rattle.theory.specs.Control.Bodies.{Owned}
use Rattle.theory.specs.Control.Runs.{Begins, free, Does, RunOf, ShortOf}
use Rattle.theory.specs.Control.Rounds.{Starts}
use Rattle.theory.specs.Control.Turns.{Tested, Laps, Turned, starts-does}

-- a repeat goes round while its condition's word is zero
module _ (W : World) (d : ℕ) (e : Expr) (formed : FormedExpr e) (P : Code) (long : gap W.w ≤ d) (timed : Paced W P)
    (does : RunOf W P) (U : Owned) (σ : Store) (s f : Sig) (g : Gives) (n : Repeat (ideal W.m) d e (Built W P) s f g) where
  abbrev K : ℕ → Type 0
  K t = Test (calmly W.w W.m t) d e n.f₁ × Calm W P n.s₁ n.f₁ g n.body t

  abbrev L : ℕ → Type 0
  L t = Test (lately W.w W.m t) d e n.f₁ × Sofar W P n.s₁ n.f₁ g n.body t

  repeat-laps : Laps W P d e (λ z. z) (repeats (λ k σ. goes W k P σ) d e) (again (λ k σ. goes W k P σ) d e)
  repeat-laps =
      record {
        lap = repeats-is (λ k σ. goes W k P σ) d e;
        again = again-more (λ k σ. goes W k P σ) d e;
        stop = again-stop (λ k σ. goes W k P σ) d e;
      }

  module _ (a c j u : ℕ) (h : a + u ≡ c) (o : c < j) (short : j ≤ c + gap W.w) (B : Begins W (repeat d e P) U σ K s g a c j) where
    repeat-loop : Tested W P U d e (λ z. z) s f n.f₁ n.s₁ n.f₁ g
    unfolding touches inline reaches
    repeat-loop =
        let uses = each_of (reads e) (touches (means W P)) B.ready.owns.mine in
        record {
          body = record {
            built = n.body;
            long = long;
            timed = timed;
            does = does;
            owns = record { mine = uses.1; reach = B.ready.owns.reach };
            off = λ t p q. n.begin t ∙ ap₂ (λ (c c' : Bool). c || (c' && is_zero (eval e (W.m t)))) p q;
          };
          formed = formed;
          reading = uses.0;
          begin = λ t p. n.begin t ∙ ap (λ (c : Bool). c || (delayed d n.f₁ t && is_zero (eval e (W.m t)))) p;
          fin = n.fin;
        }

    repeat-starts : Starts W U d σ (Calm W P n.s₁ n.f₁ g n.body) s n.f₁ n.s₁ n.f₁ g a c j
    repeat-starts =
        record {
          before = λ t l k. B.ready.calm.0.0 t l (omega arith);
          fed = λ t l k. refl;
          on = λ t l k k'. n.begin t ∙ ap (λ (c : Bool). c || (delayed d n.f₁ t && is_zero (eval e (W.m t)))) (B.pulse.high t l k k');
          line = B.ready.calm.0.1;
          calm = B.ready.calm.1;
          after = B.pulse.low;
          free = free B;
        }

    repeat-turned : Turned W d e f n.f₁ a j
    repeat-turned =
        let D : Quiet (delayed d n.f₁) a (a + d) = delayed-quiet d n.f₁ a a B.ready.calm.0.0 (λ t l k. absurd (omega arith)) in
        record {
          low = λ t l k k'. n.fin t ∙ ap (λ (c : Bool). c && not (is_zero (eval e (W.m t)))) (D t l (omega arith));
          used = λ b l k. stable-off W.m d e n.f₁ a b B.ready.calm.0.2 (λ t l₁ k₁. D t l₁ (omega arith));
        }

    repeat-does : Does W U (goes W u (repeat d e P) σ) K L f g a c j u
    unfolding run inline repeat-loop
    repeat-does = starts-does repeat-loop repeat-laps (suc u) σ a c j u (omega arith) h o short repeat-starts repeat-turned

pub run-repeat : (W : World) (d : ℕ) (e : Expr) → FormedExpr e → (P : Code) → gap W.w ≤ d → Paced W P → RunOf W P → ShortOf W (repeat d e P)
unfolding Circuit Each
run-repeat W d e formed P long timed does U σ s f g n a c j u h o k B = repeat-does W d e formed P long timed does U σ s f g n a c j u h o k B
