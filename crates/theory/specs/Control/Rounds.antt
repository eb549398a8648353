-- What goes round in a while, a repeat or a loop: the body is started, its end enters the loop's delay, and a delay later the body may be started
-- again. X is the signal that feeds the delay: the body's finish, in a while with the loop's start. Assumes nothing.
use Rattle.std.specs.Prelude.{ℕ, suc, ◌+◌, ◌-◌, ◌≤◌, ◌<◌, ◌≡◌, true, false}
use Rattle.std.proofs.Common.{◌∙◌, subst, arith}
use Rattle.model.specs.Program.{Code}
use Rattle.model.specs.Circuit.{Sig, delayed}
use Rattle.model.specs.Rules.{Store, ended, Way, at_end, done, still, at_exit}
use Rattle.laws.specs.Refusals.Laws.{by_le}
use Rattle.theory.specs.Control.Tests.{Waits, waited}
use Rattle.model.specs.Program.{gap}
use Rattle.theory.specs.Control.Signal.{Quiet, delayed-at, delayed-off}
use Rattle.theory.specs.Control.Pulses.{Pulse, shows-none}
use Rattle.theory.specs.Control.History.{Spaced, spaced-off, spaced-turn}
use Rattle.theory.specs.Control.Wiring.{Gives, Timer}
use Rattle.theory.specs.Control.World.{World, Built, Paced, goes}
use Rattle.theory.specs.Control.Calm.{Calm, Sofar, calm-sofar, sofar-less, calmly, lately}
use Rattle.theory.specs.Control.Rest.{Rests, rest, hush}
use Rattle.theory.specs.Control.Bodies.{Owned, BodySofar, Owns, within, Settled, pause-sofar}
use Rattle.theory.specs.Control.Runs.{Free, free-later, Done, RunOf, Launched, launch, words_last, Going, going-at, done-as}

-- a loop's body, P, and how it is started: not where neither the loop's start nor the delay's end is high
pub record Body (W : World) (P : Code) (U : Owned) (d : ℕ) (s X s₁ f₁ : Sig) (g : Gives) : Type 1 where
  pub built : Built W P s₁ f₁ g
  pub long : gap W.w ≤ d
  pub timed : Paced W P
  pub does : RunOf W P
  pub owns : Owns W P U
  pub off : (t : ℕ) → s t ≡ false → delayed d X t ≡ false → s₁ t ≡ false

-- The body is started at a; the pulse that came out of the delay may still be leaving it. From now on only the body feeds the delay
pub record Starts (W : World) (U : Owned) (d : ℕ) (σ : Store) (K : ℕ → Type 0) (s X s₁ f₁ : Sig) (g : Gives) (a c j : ℕ) : Type 0 where
  pub before : (t : ℕ) → t < a → a + W.w ≤ t + d → X t ≡ false
  pub fed : (t : ℕ) → a ≤ t → t < j → X t ≡ f₁ t
  pub on : (t : ℕ) → a ≤ t → t < a + W.w → t < j → s₁ t ≡ true
  pub line : Spaced W.w d X a
  pub calm : K a
  pub after : (t : ℕ) → a + W.w ≤ t → t < j → s t ≡ false
  pub free : Free W U g σ a c j

-- A pulse enters the delay at a; the body may still be leaving, and is calm a gap later
pub record Enters (W : World) (U : Owned) (d : ℕ) (σ : Store) (K L : ℕ → Type 0) (s X f₁ : Sig) (g : Gives) (a c j : ℕ) : Type 0 where
  pub before : (t : ℕ) → t < a → a + W.w ≤ t + d → X t ≡ false
  pub on : (t : ℕ) → a ≤ t → t < a + W.w → t < j → X t ≡ true
  pub fed : (t : ℕ) → a + W.w ≤ t → t < j → X t ≡ f₁ t
  pub fin : (t : ℕ) → a + W.w ≤ t → t < a + gap W.w → t < j → f₁ t ≡ false
  pub out : (t : ℕ) → a ≤ t → t < a + gap W.w → t < j → g.out t ≡ false
  pub clocks : (x t : ℕ) → a ≤ t → t ≤ a + gap W.w → t ≤ j → g.clk x t ≡ false
  pub called : (q t : ℕ) → a + W.w ≤ t → t ≤ a + gap W.w → t ≤ j → g.calls q t ≡ false
  pub line : Spaced W.w d X a
  pub sofar : (t : ℕ) → t ≤ a + gap W.w → t ≤ j → L t
  pub calm : a + gap W.w ≤ j → K (a + gap W.w)
  pub after : (t : ℕ) → a + W.w ≤ t → t < j → s t ≡ false
  pub free : Free W U g σ a c j

module _ {W : World} {P : Code} {U : Owned} {d : ℕ} {s X s₁ f₁ : Sig} {g : Gives} (B : Body W P U d s X s₁ f₁ g) where
  abbrev K : ℕ → Type 0
  K = Calm W P s₁ f₁ g B.built

  abbrev L : ℕ → Type 0
  L = Sofar W P s₁ f₁ g B.built

  -- with the delay
  abbrev KT : ℕ → Type 0
  KT t = Timer (calmly W.w W.m t) d X × K t

  abbrev Lt : ℕ → Type 0
  Lt t = Timer (lately W.w W.m t) d X × L t

  -- Where the body is started ---------------------------------------------------------------------------------------------------------

  module _ {σ : Store} {a c j : ℕ} (u : ℕ) (h : a + u ≡ c) (o' : c < j) (T : Starts W U d σ K s X s₁ f₁ g a c j) where
    -- as long as the body has not ended, nothing enters the delay
    round-fed : (b : ℕ) → b ≤ j → Quiet f₁ a b → Quiet X a b
    round-fed b o₁ q t l k = T.fed t l (omega arith) ∙ q t l k

    -- and nothing comes out
    pub round-later : (b : ℕ) → b ≤ j → Quiet f₁ a b → Quiet (delayed d X) (a + W.w) (b + d)
    round-later b o₁ q t l k =
        delayed-off d X t (λ v y. by_le a v (λ y₀. round-fed b o₁ q v y₀ (omega arith)) (λ y₀. T.before v y₀ (omega arith)))

    round-start : (b k : ℕ) → b ≤ j → k ≤ j → k ≤ b + d → Quiet f₁ a b → Pulse W.w s₁ a k
    round-start b k o₀ o₁ o₂ q =
        record {
          high = λ t l l' l''. T.on t l l' (omega arith);
          low = λ t l l'. B.off t (T.after t l (omega arith)) (round-later b o₀ q t l (omega arith));
        }

    round-body : Launched W P U σ K L s₁ f₁ g a j u
    round-body =
        launch W P B.timed B.does U σ s₁ f₁ g B.built a j u (omega arith)
        (record { owns = B.owns; calm = T.calm; settled = T.free.settled; words = T.free.words })
        (λ v o q. (
          round-start (a + v) (suc (a + v)) (omega arith) (omega arith) (omega arith) q,
          within W U g a c a (a + v) (omega arith) (omega arith) T.free.follow,
          λ t l k. T.free.silent t l (omega arith) (omega arith),
        ))

    round-done : (way : Way) (t₁ : ℕ) (σ₁ : Store) → t₁ ≤ u → goes W u P σ ≡ done way t₁ σ₁
        → (j' : ℕ) → a + t₁ < j' → j' ≤ j → j' ≤ a + t₁ + gap W.w → Done way W U σ₁ K L f₁ g a (a + t₁) j'
    round-done way t₁ σ₁ o p₁ j' o₂ o₃ o₄ =
        round-body.ends way t₁ σ₁ p₁ j' o₂ o₃
        (λ e' l k E. (
          round-start (a + t₁) (suc e') (omega arith) (omega arith) (omega arith) E.fin.quiet,
          words_last E c j (omega arith) (omega arith) (omega arith) (within W U g a c (a + t₁) c (omega arith) (omega arith) T.free.follow)
              (λ t l k k'. T.free.silent t (omega arith) (omega arith) k') T.free.hold,
          λ l₁ l₂. T.free.silent e' (omega arith) (omega arith) (omega arith),
        ))

    -- it goes on, and of the delay it is known that nothing enters
    pub round-going : goes W u P σ ≡ still → Going W U KT Lt f₁ g a c
    round-going p =
        let G = going-at h (round-body.goes_on p) in
        let line = spaced-off W.w d X a (suc c) T.line (round-fed (suc c) (omega arith) G.fin) in
        record { fin = G.fin; out = G.out; sofar = ((tt, line), G.sofar); alive = λ k. G.alive k.1; bodies = G.bodies }

    -- it comes to an exit, and never enters the delay
    pub round-left : (σ₁ : Store) → goes W u P σ ≡ done at_exit u σ₁ → j ≤ c + gap W.w → Done at_exit W U σ₁ KT Lt f₁ g a c j
    round-left σ₁ p short =
        let E : Done at_exit W U σ₁ K L f₁ g a c j =
        subst (λ (k : ℕ). Done at_exit W U σ₁ K L f₁ g a k j) h
        (round-done at_exit u σ₁ (omega arith) p j (omega arith) (omega arith) (omega arith)) in
        let q : Quiet X a j = round-fed j (omega arith) (shows-none E.fin) in
        let line = spaced-off W.w d X a j T.line q in
        done-as KT Lt (λ o k. ((λ t l k'. by_le a t (λ y₀. q t y₀ l) (λ y₀. T.before t y₀ (omega arith)), line), k)) (λ l. ((tt, line), l)) E

    module _ (t₁ : ℕ) (σ₁ : Store) (o : t₁ ≤ u) (p₁ : goes W u P σ ≡ ended t₁ σ₁) where
      ended_to : (j' : ℕ) → a + t₁ < j' → j' ≤ j → j' ≤ a + t₁ + gap W.w → Done at_end W U σ₁ K L f₁ g a (a + t₁) j'
      ended_to = round-done at_end t₁ σ₁ o p₁

      first : Done at_end W U σ₁ K L f₁ g a (a + t₁) (suc (a + t₁))
      first = ended_to (suc (a + t₁)) (omega arith) (omega arith) (omega arith)

      pub round-quiet : Quiet f₁ a (a + t₁)
      round-quiet = first.fin.quiet

      pub round-in : Quiet g.out a (a + t₁)
      round-in = first.out.quiet

      round-settled : Settled W U.procs (a + t₁) j
      round-settled =
          record {
            idle = λ q v k. (ended_to (a + t₁ + gap W.w) (omega arith) k (omega arith)).settled.idle q v (omega arith);
            low = λ q v x t l k k'.
                by_le t (a + t₁) (λ y₀. first.settled.low q v x t l k (omega arith)) (λ y₀. (ended_to t y₀ k' k).settled.low q v x t l k (omega arith));
            sofar = λ q v t l k.
                by_le t (suc (a + t₁)) (λ y₀. first.settled.sofar q v t l y₀)
                (λ y₀. (ended_to t (omega arith) k l).settled.sofar q v t l (omega arith));
          }

      -- at its end its pulse enters the delay
      pub round-enters : Enters W U d σ₁ K L s X f₁ g (a + t₁) c j
      round-enters =
          record {
            before = λ t l k. by_le a t (λ y₀. round-fed (a + t₁) (omega arith) round-quiet t y₀ l) (λ y₀. T.before t y₀ (omega arith));
            on = λ t l k k'.
                T.fed t (omega arith) k' ∙ (ended_to (suc t) (omega arith) (omega arith) (omega arith)).fin.level t l k (omega arith);
            fed = λ t l k. T.fed t (omega arith) k;
            fin = λ t l k k'. (ended_to (suc t) (omega arith) (omega arith) (omega arith)).fin.low t l (omega arith);
            out = λ t l k k'. shows-none (ended_to (suc t) (omega arith) (omega arith) (omega arith)).out t (omega arith) (omega arith);
            clocks = λ x t l k k'.
                by_le t (a + t₁) (λ y₀. first.low x t l (omega arith)) (λ y₀. (ended_to t y₀ k' k).low x t l (omega arith));
            called = λ q t l k k'. (ended_to t (omega arith) k' k).called q t l (omega arith);
            line = spaced-off W.w d X a (a + t₁) T.line (round-fed (a + t₁) (omega arith) round-quiet);
            sofar = λ t l k.
                by_le t (suc (a + t₁)) (λ y₀. sofar-less W P s₁ f₁ g B.built (suc (a + t₁)) t y₀ first.sofar)
                (λ y₀. (ended_to t (omega arith) k l).sofar);
            calm = λ k. (ended_to (a + t₁ + gap W.w) (omega arith) k (omega arith)).calm (omega arith);
            after = λ t l k. T.after t (omega arith) k;
            free = free-later (a + t₁) σ₁ (omega arith) round-settled first.words T.free;
          }

  -- Where a pulse enters the delay ----------------------------------------------------------------------------------------------------

  module _ {σ : Store} {a c j : ℕ} (o' : c < j) (T : Enters W U d σ K L s X f₁ g a c j) where
    -- until it comes out nothing does
    pub delay-before : Quiet (delayed d X) (a + W.w) (a + d)
    delay-before t l k = delayed-off d X t (λ v q. T.before v (omega arith) (omega arith))

    -- the body rests as long as it is not started again
    pub delay-rests : (b : ℕ) → a + gap W.w ≤ b → b ≤ j → Quiet s₁ (a + gap W.w) b → Rests f₁ g K (a + gap W.w) b
    delay-rests b o o₁ q = rest W P B.timed s₁ f₁ g B.built (a + gap W.w) b (T.calm (omega arith)) o q

    pub delay-off : (b : ℕ) → b ≤ a + d → b ≤ j → Quiet s₁ (a + gap W.w) b
    delay-off b o o₁ t l k = B.off t (T.after t (omega arith) (omega arith)) (delay-before t (omega arith) (omega arith))

    -- and nothing else enters the delay
    pub delay-fed : (b : ℕ) → b ≤ j → Quiet f₁ (a + gap W.w) b → Quiet X (a + W.w) b
    delay-fed b o q t l k =
        T.fed t l (omega arith) ∙ by_le (a + gap W.w) t (λ y₀. q t y₀ k) (λ y₀. T.fin t l y₀ (omega arith))

    pub delay-line : (b : ℕ) → Quiet X (a + W.w) b → Spaced W.w d X b
    delay-line b q = spaced-turn W.w d X a b T.line T.before q

    pub delay-in : (b : ℕ) → b ≤ j → Quiet g.out (a + gap W.w) b → Quiet g.out a b
    delay-in b o q t l k = by_le (a + gap W.w) t (λ y₀. q t y₀ k) (λ y₀. T.out t l y₀ (omega arith))

    -- all that until it comes out
    module _ (b : ℕ) (o : b ≤ a + d) (o₁ : b ≤ j) where
      waits-rests : a + gap W.w ≤ b → Rests f₁ g K (a + gap W.w) b
      waits-rests l = delay-rests b l o₁ (delay-off b o o₁)

      pub waits-fed : Quiet X (a + W.w) b
      waits-fed = delay-fed b o₁ (λ t l k. (waits-rests (omega arith)).fin t l k)

      pub waits_in : Quiet g.out a b
      waits_in = delay-in b o₁ (λ t l k. (waits-rests (omega arith)).out t l k)

      pub waits-sofar : L b
      waits-sofar =
          by_le (a + gap W.w) b (λ y₀. calm-sofar W P s₁ f₁ g B.built b (waits-rests y₀).calm) (λ y₀. T.sofar b (omega arith) o₁)

      pub waits-bodies : b ≤ suc c → (q : ℕ) → U.procs q → BodySofar W q b
      waits-bodies o₂ =
          pause-sofar W U g a b j o₁ T.free.settled (λ t l k. T.free.silent t l (omega arith) (omega arith))
          (λ q t l k.
          by_le (a + gap W.w) t (λ y₀. (waits-rests (omega arith)).called q t y₀ (omega arith)) (λ y₀. T.called q t l (omega arith) (omega arith)))

    module _ (o : a + d ≤ c) where
      pub waits-rest : Rests f₁ g K (a + gap W.w) (a + d)
      waits-rest = waits-rests (a + d) (omega arith) (omega arith) (omega arith)

      -- the pulse comes out
      pub delay-out : (t : ℕ) → a + d ≤ t → t < a + d + W.w → t < j → delayed d X t ≡ true
      delay-out t l k k' = delayed-at d X (t - d) t (omega arith) ∙ T.on (t - d) (omega arith) (omega arith) (omega arith)

      pub delay-gone : (t : ℕ) → a + d + W.w ≤ t → t < a + d + gap W.w → t < j → delayed d X t ≡ false
      delay-gone t l k k' =
          delayed-at d X (t - d) t (omega arith) ∙ waits-fed (a + d) (omega arith) (omega arith) (t - d) (omega arith) (omega arith)

      -- nothing is clocked until then, and nothing is called until a gap later
      delay-clocks : (x : ℕ) → Quiet (g.clk x) a (a + d)
      delay-clocks x t l k =
          by_le (a + gap W.w) t (λ y₀. waits-rest.clocks x t y₀ (omega arith)) (λ y₀. T.clocks x t l (omega arith) (omega arith))

      delay-uncalled : (q t : ℕ) → a + W.w ≤ t → t < a + d + gap W.w → t < j → g.calls q t ≡ false
      delay-uncalled q t l k k' =
          by_le (a + d) t (λ y₀. hush W P B.timed s₁ f₁ g B.built (a + d) waits-rest.calm q t y₀ k)
          (λ y₀.
          by_le (a + gap W.w) t (λ y₁. waits-rest.called q t y₁ (omega arith)) (λ y₁. T.called q t l (omega arith) (omega arith)))

      pub delay-waits : Waits W U g d σ a c j
      delay-waits = record { room = o; last = o'; free = T.free; low = delay-clocks; uncalled = delay-uncalled }

      -- and where it comes out the body may be started again
      pub delay-again : ((t : ℕ) → a + d ≤ t → t < a + d + W.w → t < j → s₁ t ≡ true)
          → Starts W U d σ K s X s₁ f₁ g (a + d) c j
      delay-again on =
          record {
            before = λ t l k. waits-fed (a + d) (omega arith) (omega arith) t (omega arith) l;
            fed = λ t l k. T.fed t (omega arith) k;
            on = on;
            line = delay-line (a + d) (waits-fed (a + d) (omega arith) (omega arith));
            calm = waits-rest.calm;
            after = λ t l k. T.after t (omega arith) k;
            free = waited delay-waits;
          }
