-- What the circuit of a loop does that is left in its middle: it starts with its body, goes round without a test, and its finish is the body's exit
-- signal. Assumes nothing.
use Rattle.std.specs.Prelude.{ℕ, zero, suc, ◌+◌, ◌-◌, ◌≤◌, ◌<◌, ◌≡◌, refl, Bool, ◌||◌}
use Rattle.std.proofs.Common.{sym, ◌∙◌, ap, ap₂, arith}
use Rattle.std.proofs.Math.Bool.{or-true}
use Rattle.model.specs.Program.{Code, loop, touches}
use Rattle.model.specs.Procedures.{inline, reaches}
use Rattle.model.specs.Circuit.{Sig, delayed}
use Rattle.model.specs.Rules.{Store, Run, done, at_end, at_exit, ended, still, caught, loops, run}
use Rattle.laws.specs.Refusals.Laws.{by_le, not-both}
use Rattle.laws.specs.Rules.Laws.{wait-done, wait-still, chain-done, caught-done, caught-still, caught-of, round, loops_is, round_is}
use Rattle.model.specs.Program.{gap}
use Rattle.theory.specs.Control.Ways.{at-time, chain-going}
use Rattle.theory.specs.Control.Signal.{Quiet}
use Rattle.theory.specs.Control.Pulses.{shows-off, shows-is}
use Rattle.theory.specs.Control.Wiring.{Gives, Loop, Circuit, Timer, Each}
use Rattle.theory.specs.Control.World.{World, Built, Paced, goes, steadily}
use Rattle.theory.specs.Control.Calm.{Calm, calmly, Sofar, lately}
use Rattle.theory.specs.Control.Bodies.{Owned, Owns, follows_is}
use Rattle.theory.specs.Control.Runs.{Begins, Done, Going, done-from, going-from, Does, RunOf, ShortOf, in-way}
use Rattle.theory.specs.Control.Rounds.{Body, Starts, Enters, round-going, round-left, round-in, round-enters, delay-line, waits-fed, waits_in, waits-sofar, waits-bodies, delay-out, delay-again}

still-caught : {r : Run} → r ≡ still → caught r ≡ still
unfolding caught
still-caught q = ap caught q

module _ (W : World) (d : ℕ) (P : Code) (long : gap W.w ≤ d) (timed : Paced W P) (does : RunOf W P) (U : Owned) (owns : Owns W P U)
    (s f : Sig) (g : Gives) (n : Loop d (Built W P) s f g) where
  -- of the body's cells, and of all
  abbrev K₁ : ℕ → Type 0
  K₁ = Calm W P n.s₁ n.f₁ n.g₁ n.body

  abbrev L₁ : ℕ → Type 0
  L₁ = Sofar W P n.s₁ n.f₁ n.g₁ n.body

  abbrev K : ℕ → Type 0
  K t = Timer (calmly W.w W.m t) d n.f₁ × K₁ t

  abbrev L : ℕ → Type 0
  L t = Timer (lately W.w W.m t) d n.f₁ × L₁ t

  abbrev B : Body W P U d s n.f₁ n.s₁ n.f₁ n.g₁
  B = record { built = n.body; long = long; timed = timed; does = does; owns = owns; off = λ t p q. n.begin t ∙ ap₂ ◌||◌ p q }

  abbrev Begun : Store → ℕ → ℕ → ℕ → Type 0
  Begun σ a c j = Starts W U d σ K₁ s n.f₁ n.s₁ n.f₁ n.g₁ a c j

  abbrev Ended : Store → ℕ → ℕ → ℕ → Type 0
  Ended σ a c j = Enters W U d σ K₁ L₁ s n.f₁ n.f₁ n.g₁ a c j

  abbrev body : ℕ → Store → Run
  body k σ = goes W k P σ

  -- Where the body is started ---------------------------------------------------------------------------------------------------------

  module _ {σ : Store} {a c j : ℕ} (u : ℕ) (h : a + u ≡ c) (o' : c < j) (T : Begun σ a c j) where
    running : goes W u P σ ≡ still → Going W U K L f g a c
    running p =
        let G = round-going B u h o' T p in
        record { fin = λ t l k. n.fin t ∙ G.out t l k; out = λ t l k. n.out t; sofar = G.sofar; alive = G.alive; bodies = G.bodies }

    -- the body comes to an exit, and the loop ends
    leaves : (σ₁ : Store) → goes W u P σ ≡ done at_exit u σ₁ → j ≤ c + gap W.w → Done at_end W U σ₁ K L f g a c j
    leaves σ₁ p short =
        let E = round-left B u h o' T σ₁ p short in
        record {
          fin = shows-is (omega arith) (omega arith) (λ t l k. n.fin t) E.out;
          out = shows-off (omega arith) (omega arith) (λ t l k. n.out t);
          low = λ x t l k. n.clocks x t ∙ E.low x t l k;
          called = λ q t l k. n.called q t ∙ E.called q t l k;
          words = E.words;
          sofar = E.sofar;
          calm = E.calm;
          settled = E.settled;
        }

  -- Where its end has entered the delay -----------------------------------------------------------------------------------------------

  module _ {σ : Store} {a c j : ℕ} (u : ℕ) (h : a + u ≡ c) (o' : c < j) (T : Ended σ a c j) where
    waits-quiet : (b : ℕ) → b ≤ a + d → b ≤ j → Quiet f a b
    waits-quiet b o o₁ t l k = n.fin t ∙ waits_in B o' T b o o₁ t l k

    short-of : u < d → Going W U K L f g a c
    short-of k =
        record {
          fin = waits-quiet (suc c) (omega arith) (omega arith);
          out = λ t l k. n.out t;
          sofar = (
            (tt, delay-line B o' T (suc c) (waits-fed B o' T (suc c) (omega arith) (omega arith))),
            waits-sofar B o' T (suc c) (omega arith) (omega arith),
          );
          alive = λ k₁. not-both (T.on a (omega arith) (omega arith) (omega arith)) (k₁.0.0 a (omega arith) (omega arith));
          bodies = waits-bodies B o' T (suc c) (omega arith) (omega arith) (omega arith);
        }

    -- a delay later the body is started again
    starts : a + d ≤ c → Begun σ (a + d) c j
    starts o = delay-again B o' T o (λ t l k k'. n.begin t ∙ ap (λ (b : Bool). s t || b) (delay-out B o' T o t l k k') ∙ or-true (s t))

  -- All rounds ------------------------------------------------------------------------------------------------------------------------

  -- from where the body is started, if that is known from where it has ended
  from_start : (i : ℕ)
      → ((σ : Store) (a c j u : ℕ) → u ≤ i → a + u ≡ c → c < j → j ≤ c + gap W.w → Ended σ a c j → Does W U (caught (round body d i u σ)) K L f g a c j u)
      → (σ : Store) (a c j u : ℕ) → u < suc i → a + u ≡ c → c < j → j ≤ c + gap W.w → Begun σ a c j
      → Does W U (caught (loops body d (suc i) u σ)) K L f g a c j u
  from_start i ih σ a c j u l h o' short T =
      let on : (t₁ : ℕ) (σ₁ : Store) → t₁ ≤ u → goes W u P σ ≡ ended t₁ σ₁ → Does W U (caught (round body d i (u - t₁) σ₁)) K L f g (a + t₁) c j (u - t₁) =
      λ t₁ σ₁ o p₁. ih σ₁ (a + t₁) c j (u - t₁) (omega arith) (omega arith) o' short (round-enters B u h o' T t₁ σ₁ o p₁) in
      let before : (t₁ : ℕ) (σ₁ : Store) (o : t₁ ≤ u) (p₁ : goes W u P σ ≡ ended t₁ σ₁) → Quiet f a (a + t₁) =
      λ t₁ σ₁ o p₁ t l k. n.fin t ∙ round-in B u h o' T t₁ σ₁ o p₁ t l k in
      record {
        goes_on = λ p.
            chain-going (goes W u P σ) (λ t σ₁. round body d i (u - t) σ₁)
            (sym (loops_is body d i u σ) ∙ caught-still (loops body d (suc i) u σ) p)
            (λ t₁ σ₁ p₁ q.
            let o = (steadily W P timed σ u at_end t₁ σ₁ p₁).0 in
            going-from (before t₁ σ₁ o p₁) (λ t l k. n.out t) ((on t₁ σ₁ o p₁).goes_on (still-caught q)))
            (running u h o' T);
        ends = λ way σ' p.
            let v = caught-done (loops body d (suc i) u σ) p in
            in-way (sym v.2)
            (chain-done (goes W u P σ) (λ t σ₁. round body d i (u - t) σ₁) (sym (loops_is body d i u σ) ∙ v.1)
            (λ t₁ σ₁ t₂ p₁ q y.
            let o = (steadily W P timed σ u at_end t₁ σ₁ p₁).0 in
            let y' : t₂ ≡ u - t₁ = omega arith in
            done-from (before t₁ σ₁ o p₁) (λ t l k. n.out t)
            ((on t₁ σ₁ o p₁).ends at_end σ' (caught-of (round body d i (u - t₁) σ₁) (at-time (round body d i (u - t₁) σ₁) y' q))))
            (λ z q. leaves u h o' T σ' q short));
      }

  -- from where it has ended, if that is known from where it is started
  from_end : (i : ℕ)
      → ((σ : Store) (a c j u : ℕ) → u < i → a + u ≡ c → c < j → j ≤ c + gap W.w → Begun σ a c j → Does W U (caught (loops body d i u σ)) K L f g a c j u)
      → (σ : Store) (a c j u : ℕ) → u ≤ i → a + u ≡ c → c < j → j ≤ c + gap W.w → Ended σ a c j
      → Does W U (caught (round body d i u σ)) K L f g a c j u
  from_end i ih σ a c j u l h o' short T =
      let on : d ≤ u → Does W U (caught (loops body d i (u - d) σ)) K L f g (a + d) c j (u - d) =
      λ o. ih σ (a + d) c j (u - d) (omega arith) (omega arith) o' short (starts u h o' T (omega arith)) in
      record {
        goes_on = λ p.
            by_le d u
            (λ o.
            going-from (waits-quiet u h o' T (a + d) (omega arith) (omega arith)) (λ t l k. n.out t)
            ((on o).goes_on
            (still-caught (wait-still d u (λ k. loops body d i k σ) (sym (round_is body d i u σ) ∙ caught-still (round body d i u σ) p) o))))
            (short-of u h o' T);
        ends = λ way σ' p.
            let v = caught-done (round body d i u σ) p in
            let w = wait-done d u (λ k. loops body d i k σ) (sym (round_is body d i u σ) ∙ v.1) in
            let q : w.0 ≡ u - d = omega (arith, w.3) in
            in-way (sym v.2)
            (done-from (waits-quiet u h o' T (a + d) (omega arith) (omega (arith, w.1))) (λ t l k. n.out t)
            ((on w.1).ends at_end σ' (caught-of (loops body d i (u - d) σ) (at-time (loops body d i (u - d) σ) q w.2))));
      }

  -- as many rounds as the budget can use
  loop-rounds : (i : ℕ) (σ : Store) (a c j u : ℕ) → u < i → a + u ≡ c → c < j → j ≤ c + gap W.w → Begun σ a c j
      → Does W U (caught (loops body d i u σ)) K L f g a c j u
  loop-rounds zero = λ σ a c j u l. absurd (omega arith)
  loop-rounds (suc i) = from_start i (from_end i (loop-rounds i))

  module _ (σ : Store) (a c j u : ℕ) (h : a + u ≡ c) (o : c < j) (short : j ≤ c + gap W.w) (S : Begins W (loop d P) U σ K s g a c j) where
    loop-starts : Begun σ a c j
    loop-starts =
        record {
          before = λ t l k. S.ready.calm.0.0 t l (omega arith);
          fed = λ t l k. refl;
          on = λ t l k k'. n.begin t ∙ ap (λ (b : Bool). b || delayed d n.f₁ t) (S.pulse.high t l k k');
          line = S.ready.calm.0.1;
          calm = S.ready.calm.1;
          after = S.pulse.low;
          free = record {
            settled = S.ready.settled;
            words = S.ready.words;
            follow = follows_is W U n.g₁ g a c n.clocks n.words n.addresses n.called S.follow;
            silent = λ t l k k' q v z. S.silent t l k k' q v (n.called q t ∙ z);
            hold = S.hold;
          };
        }

    loop-does : Does W U (goes W u (loop d P) σ) K L f g a c j u
    unfolding run inline
    loop-does = loop-rounds (suc u) σ a c j u (omega arith) h o short loop-starts

pub run-loop : (W : World) (d : ℕ) (P : Code) → gap W.w ≤ d → Paced W P → RunOf W P → ShortOf W (loop d P)
unfolding Circuit Each touches inline reaches
run-loop W d P long timed does U σ s f g n a c j u h o k B =
    loop-does W d P long timed does U (record { mine = B.ready.owns.mine; reach = B.ready.owns.reach }) s f g n σ a c j u h o k B
