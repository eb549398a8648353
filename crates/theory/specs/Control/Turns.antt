-- A loop that goes round by a condition at the end of its delay: what a while and a repeat have in common. `more` says, of the condition's test for zero,
-- whether the loop goes round. Assumes nothing.
use Rattle.std.specs.Prelude.{ℕ, zero, suc, ◌+◌, ◌-◌, ◌≤◌, ◌<◌, ◌≡◌, Bool, true, false, not, ◌&&◌}
use Rattle.std.proofs.Common.{sym, ◌∙◌, ap, ap₂, subst, arith}
use Rattle.model.specs.Word.{is_zero}
use Rattle.model.specs.Program.{Expr, Code, reads}
use Rattle.model.specs.Circuit.{Sig, delayed}
use Rattle.model.specs.Rules.{Store, owner, Run, ended, still, wait, chain, eval, at_end, at_exit, done}
use Rattle.laws.specs.Refusals.Laws.{by_bool, by_le, not-both}
use Rattle.laws.specs.Program.Fit.{FormedExpr}
use Rattle.laws.specs.Rules.Laws.{done-still, wait-still, wait-done, chain-done, done-way, done-time, done-words}
use Rattle.model.specs.Program.{gap}
use Rattle.theory.specs.Control.Ways.{at-time, chain-going}
use Rattle.theory.specs.Control.Signal.{Quiet}
use Rattle.theory.specs.Control.Pulses.{shows-none, shows-off}
use Rattle.theory.specs.Control.History.{Stable, stable-off, stable-turn}
use Rattle.theory.specs.Control.Wiring.{Gives, Test}
use Rattle.theory.specs.Control.World.{World, goes, steadily}
use Rattle.theory.specs.Control.Calm.{Calm, calmly, Sofar, lately, calm-sofar}
use Rattle.theory.specs.Control.Surge.{surge, gated-firm, test-same}
use Rattle.theory.specs.Control.Bodies.{Owned, settled_at}
use Rattle.theory.specs.Control.Runs.{Done, Going, done-from, going-from, Does, in-way}
use Rattle.theory.specs.Control.Tests.{Waits, waited, Firmed, test_words, test-is}
use Rattle.theory.specs.Control.Rounds.{Body, Starts, Enters, round-later, round-going, round-left, round-quiet, round-in, round-enters, delay-before, delay-rests, delay-off, delay-fed, delay-line, delay-in, waits-fed, waits_in, waits-sofar, waits-bodies, waits-rest, delay-out, delay-gone, delay-waits, delay-again}

-- its body and its condition
pub record Tested (W : World) (P : Code) (U : Owned) (d : ℕ) (e : Expr) (more : Bool → Bool) (s f X s₁ f₁ : Sig) (g : Gives) : Type 1 where
  pub body : Body W P U d s X s₁ f₁ g
  pub formed : FormedExpr e
  pub reading : (x : ℕ) → reads e x ≡ true → U.vars x
  pub begin : (t : ℕ) → s t ≡ false → s₁ t ≡ (delayed d X t && more (is_zero (eval e (W.m t))))
  pub fin : (t : ℕ) → f t ≡ (delayed d X t && not (more (is_zero (eval e (W.m t)))))

-- its rules, with at most n rounds: `laps` from where the body is started, `next` from where it has ended
pub record Laps (W : World) (P : Code) (d : ℕ) (e : Expr) (more : Bool → Bool) (laps next : ℕ → ℕ → Store → Run) : Type 0 where
  pub lap : (n k : ℕ) (σ : Store) → laps (suc n) k σ ≡ chain (goes W k P σ) (λ t σ₁. next n (k - t) σ₁)
  pub again : (n k : ℕ) (σ : Store) → more (is_zero (eval e σ)) ≡ true → next n k σ ≡ wait d k (λ k₁. laps n k₁ σ)
  pub stop : (n k : ℕ) (σ : Store) → more (is_zero (eval e σ)) ≡ false → next n k σ ≡ wait d k (λ k₁. ended 0 σ)

-- for w instants from a on, in which the pulse of the test before may still be there, the finish is low, and the words that are used at the delay's end
-- were held
pub record Turned (W : World) (d : ℕ) (e : Expr) (f X : Sig) (a j : ℕ) : Type 0 where
  pub low : (t : ℕ) → a ≤ t → t < a + W.w → t < j → f t ≡ false
  pub used : (b : ℕ) → b ≤ a + W.w → b ≤ j → Stable W.m d e X b

module _ {W : World} {P : Code} {U : Owned} {d : ℕ} {e : Expr} {more : Bool → Bool} {s f X s₁ f₁ : Sig} {g : Gives}
    (I : Tested W P U d e more s f X s₁ f₁ g) where
  abbrev B : Body W P U d s X s₁ f₁ g
  B = I.body

  -- of the body's cells, and of all
  abbrev K₁ : ℕ → Type 0
  K₁ = Calm W P s₁ f₁ g B.built

  abbrev L₁ : ℕ → Type 0
  L₁ = Sofar W P s₁ f₁ g B.built

  abbrev K : ℕ → Type 0
  K t = Test (calmly W.w W.m t) d e X × K₁ t

  abbrev L : ℕ → Type 0
  L t = Test (lately W.w W.m t) d e X × L₁ t

  finish_off : (t : ℕ) → delayed d X t ≡ false → f t ≡ false
  finish_off t q = I.fin t ∙ ap (λ (c : Bool). c && not (more (is_zero (eval e (W.m t))))) q

  module _ {a j : ℕ} (turned : Turned W d e f X a j) where
    -- the finish, and the words that were used, while nothing comes out of the delay
    finish-quiet : (b : ℕ) → b ≤ j → Quiet (delayed d X) (a + W.w) b → Quiet f a b
    finish-quiet b o q t l k = by_le (a + W.w) t (λ y₀. finish_off t (q t y₀ k)) (λ y₀. turned.low t l y₀ (omega arith))

    used-before : (b : ℕ) → b ≤ j → Quiet (delayed d X) (a + W.w) b → Stable W.m d e X b
    used-before b o q =
        by_le b (a + W.w) (λ y₀. turned.used b y₀ o)
        (λ y₀. stable-off W.m d e X (a + W.w) b (turned.used (a + W.w) (omega arith) (omega arith)) q)

  -- Where the body is started ---------------------------------------------------------------------------------------------------------

  module _ {σ : Store} {a c j : ℕ} (u : ℕ) (h : a + u ≡ c) (o' : c < j) (T : Starts W U d σ K₁ s X s₁ f₁ g a c j) (turned : Turned W d e f X a j) where
    running : goes W u P σ ≡ still → Going W U K L f g a c
    running p =
        let G = round-going B u h o' T p in
        let q : Quiet (delayed d X) (a + W.w) (suc c) = λ t l k. round-later B u h o' T (suc c) (omega arith) G.fin t l (omega arith) in
        record {
          fin = finish-quiet turned (suc c) (omega arith) q;
          out = G.out;
          sofar = ((tt, G.sofar.0.1, used-before turned (suc c) (omega arith) q), G.sofar.1);
          alive = λ k. G.alive ((k.0.0, k.0.1), k.1);
          bodies = G.bodies;
        }

    -- the body leaves, and with it the loop
    left : (σ₁ : Store) → goes W u P σ ≡ done at_exit u σ₁ → j ≤ c + gap W.w → Done at_exit W U σ₁ K L f g a c j
    left σ₁ p short =
        let E = round-left B u h o' T σ₁ p short in
        let q : Quiet (delayed d X) (a + W.w) j = λ t l k. round-later B u h o' T j (omega arith) (shows-none E.fin) t l (omega arith) in
        let used = used-before turned j (omega arith) q in
        record {
          fin = shows-off (omega arith) (omega arith) (finish-quiet turned j (omega arith) q);
          out = E.out;
          low = E.low;
          called = E.called;
          words = E.words;
          sofar = ((tt, E.sofar.0.1, used), E.sofar.1);
          calm = λ k. let v = E.calm k in ((v.0.0, v.0.1, used), v.1);
          settled = E.settled;
        }

    module _ (t₁ : ℕ) (σ₁ : Store) (o : t₁ ≤ u) (p₁ : goes W u P σ ≡ ended t₁ σ₁) where
      not-out : (b : ℕ) → b ≤ a + t₁ + d → Quiet (delayed d X) (a + W.w) b
      not-out b o₁ t l k = round-later B u h o' T (a + t₁) (omega arith) (round-quiet B u h o' T t₁ σ₁ o p₁) t l (omega arith)

      lap-quiet : (b : ℕ) → b ≤ a + t₁ + d → b ≤ j → Quiet f a b
      lap-quiet b o₁ o₂ = finish-quiet turned b o₂ (not-out b o₁)

      lap-turned : Turned W d e f X (a + t₁) j
      lap-turned =
          record {
            low = λ t l k k'. lap-quiet (suc t) (omega (arith, B.long)) (omega arith) t (omega arith) (omega arith);
            used = λ b l k. used-before turned b k (not-out b (omega (arith, B.long)));
          }

  -- Where a pulse enters the delay ----------------------------------------------------------------------------------------------------

  module _ {σ : Store} {a c j : ℕ} (u : ℕ) (h : a + u ≡ c) (o' : c < j) (T : Enters W U d σ K₁ L₁ s X f₁ g a c j) (turned : Turned W d e f X a j) where
    waits-quiet : (b : ℕ) → b ≤ a + d → b ≤ j → Quiet f a b
    waits-quiet b o o₁ = finish-quiet turned b o₁ (λ t l k. delay-before B o' T t l (omega arith))

    -- the test has not come
    short-of : u < d → Going W U K L f g a c
    short-of k =
        record {
          fin = waits-quiet (suc c) (omega arith) (omega arith);
          out = waits_in B o' T (suc c) (omega arith) (omega arith);
          sofar = (
            (
              tt,
              delay-line B o' T (suc c) (waits-fed B o' T (suc c) (omega arith) (omega arith)),
              used-before turned (suc c) (omega arith) (λ t l r. delay-before B o' T t l (omega arith)),
            ),
            waits-sofar B o' T (suc c) (omega arith) (omega arith),
          );
          alive = λ k₁. not-both (T.on a (omega arith) (omega arith) (omega arith)) (k₁.0.0 a (omega arith) (omega arith));
          bodies = waits-bodies B o' T (suc c) (omega arith) (omega arith) (omega arith);
        }

    module _ (o : a + d ≤ c) where
      waits : Waits W U g d σ a c j
      waits = delay-waits B o' T o

      firm : Firmed W U g d a c
      firm k l l₁ l₂ q =
          (surge W P B.timed s₁ f₁ g B.built (a + d) k (waits-rest B o' T o).calm l l₂
          (gated-firm (delayed d X) s₁ (λ t. more (is_zero (eval e (W.m t)))) (a + d) k
          (λ t l r. I.begin t (T.after t (omega (arith, B.long)) (omega arith)))
          (λ t l r z. delay-out B o' T o (suc t) (omega arith) (omega arith) (omega arith))
          (λ t l r. ap more (test-same W e I.formed U.vars (a + d) k I.reading q t l r)))
          (λ y r. q y (B.owns.mine (owner y) r))).clocks

      test : (t : ℕ) → a + d ≤ t → t < a + d + W.w → t < j → more (is_zero (eval e (W.m t))) ≡ more (is_zero (eval e σ))
      test t l k k' = ap more (test-is waits firm e I.formed I.reading t l k k')

      used-at : (b : ℕ) → b ≤ j → ((t : ℕ) → a + W.w ≤ t → t + d < b → X t ≡ false) → Stable W.m d e X b
      used-at b o₁ q =
          stable-turn W.w W.m d e X a b σ (λ b' l k. turned.used b' l (omega arith)) T.before q
          (λ k x r v l k₁ k₂. test_words waits firm e I.formed I.reading x r v l k₁ (omega arith))

      -- the condition says stop: the loop ends
      stops : more (is_zero (eval e σ)) ≡ false → a + d ≡ c → j ≤ c + gap W.w → Done at_end W U σ K L f g a c j
      stops z q short =
          let none : Quiet s₁ (a + gap W.w) j =
          λ t l k.
          by_le (a + d) t
          (λ y₀.
          by_le (a + d + W.w) t
          (λ y₁. B.off t (T.after t (omega arith) k) (delay-gone B o' T o t y₁ (omega arith) k))
          (λ y₁. I.begin t (T.after t (omega arith) k) ∙ ap₂ ◌&&◌ (delay-out B o' T o t y₀ y₁ k) (test t y₀ y₁ k ∙ z)))
          (λ y₀. delay-off B o' T (a + d) (omega arith) (omega arith) t l y₀) in
          let r = delay-rests B o' T j (omega (arith, B.long)) (omega arith) none in
          let fed = delay-fed B o' T j (omega arith) r.fin in
          let line = delay-line B o' T j fed in
          let used = used-at j (omega arith) (λ t l k. fed t l (omega arith)) in
          record {
            fin = record {
              quiet = waits-quiet c (omega arith) (omega arith);
              level = λ t l k k'.
                  I.fin t
                  ∙ ap₂ (λ (c c' : Bool). c && not c') (delay-out B o' T o t (omega arith) (omega arith) k') (test t (omega arith) (omega arith) k' ∙ z);
              low = λ t l k. finish_off t (delay-gone B o' T o t (omega arith) (omega arith) k);
            };
            out = shows-off (omega arith) (omega arith) (delay-in B o' T j (omega arith) r.out);
            low = λ x t l k. r.clocks x t (omega (arith, B.long)) k;
            called = λ x t l k. r.called x t (omega (arith, B.long)) k;
            words = λ x i. ap (λ (t : ℕ). W.m t x) (sym q) ∙ (waited waits).words x i;
            sofar = ((tt, line, used), calm-sofar W P s₁ f₁ g B.built j r.calm);
            calm = λ k. ((λ t l k'. fed t (omega arith) l, line, used), r.calm);
            settled = settled_at W U.procs (a + d) c j q (waited waits).settled;
          }

      -- it says go round: the body is started again
      module _ (z : more (is_zero (eval e σ)) ≡ true) where
        starts : Starts W U d σ K₁ s X s₁ f₁ g (a + d) c j
        starts =
            delay-again B o' T o
            (λ t l k k'. I.begin t (T.after t (omega (arith, B.long)) k') ∙ ap₂ ◌&&◌ (delay-out B o' T o t l k k') (test t l k k' ∙ z))

        turns : Turned W d e f X (a + d) j
        turns =
            record {
              low = λ t l k k'. I.fin t ∙ ap₂ (λ (c c' : Bool). c && not c') (delay-out B o' T o t l k k') (test t l k k' ∙ z);
              used = λ b l k. used-at b k (λ t l₁ k₁. starts.before t (omega arith) (omega arith));
            }

  -- All rounds ------------------------------------------------------------------------------------------------------------------------

  module _ {laps next : ℕ → ℕ → Store → Run} (R : Laps W P d e more laps next) where
    -- from where the body is started, if that is known from where it has ended
    from_start : (n : ℕ)
        → ((σ : Store) (a c j u : ℕ) → u ≤ n → a + u ≡ c → c < j → j ≤ c + gap W.w → Enters W U d σ K₁ L₁ s X f₁ g a c j → Turned W d e f X a j
        → Does W U (next n u σ) K L f g a c j u)
        → (σ : Store) (a c j u : ℕ) → u < suc n → a + u ≡ c → c < j → j ≤ c + gap W.w → Starts W U d σ K₁ s X s₁ f₁ g a c j → Turned W d e f X a j
        → Does W U (laps (suc n) u σ) K L f g a c j u
    from_start n ih σ a c j u l h o' short T turned =
        let on : (t₁ : ℕ) (σ₁ : Store) → t₁ ≤ u → goes W u P σ ≡ ended t₁ σ₁ → Does W U (next n (u - t₁) σ₁) K L f g (a + t₁) c j (u - t₁) =
        λ t₁ σ₁ o p₁.
        ih σ₁ (a + t₁) c j (u - t₁) (omega arith) (omega arith) o' short (round-enters B u h o' T t₁ σ₁ o p₁) (lap-turned u h o' T turned t₁ σ₁ o p₁) in
        let before : (t₁ : ℕ) (σ₁ : Store) (o : t₁ ≤ u) (p₁ : goes W u P σ ≡ ended t₁ σ₁) → Quiet f a (a + t₁) =
        λ t₁ σ₁ o p₁. lap-quiet u h o' T turned t₁ σ₁ o p₁ (a + t₁) (omega arith) (omega arith) in
        record {
          goes_on = λ p.
              chain-going (goes W u P σ) (λ t σ₁. next n (u - t) σ₁) (sym (R.lap n u σ) ∙ p)
              (λ t₁ σ₁ p₁ q.
              let o = (steadily W P B.timed σ u at_end t₁ σ₁ p₁).0 in
              going-from (before t₁ σ₁ o p₁) (round-in B u h o' T t₁ σ₁ o p₁) ((on t₁ σ₁ o p₁).goes_on q))
              (running u h o' T turned);
          ends = λ way σ' p.
              chain-done (goes W u P σ) (λ t σ₁. next n (u - t) σ₁) (sym (R.lap n u σ) ∙ p)
              (λ t₁ σ₁ t₂ p₁ q y.
              let o = (steadily W P B.timed σ u at_end t₁ σ₁ p₁).0 in
              let y' : t₂ ≡ u - t₁ = omega arith in
              done-from (before t₁ σ₁ o p₁) (round-in B u h o' T t₁ σ₁ o p₁) ((on t₁ σ₁ o p₁).ends way σ' (at-time (next n (u - t₁) σ₁) y' q)))
              (λ z q. in-way (sym z) (left u h o' T turned σ' q short));
        }

    -- from where it has ended, if that is known from where it is started
    from_end : (n : ℕ)
        → ((σ : Store) (a c j u : ℕ) → u < n → a + u ≡ c → c < j → j ≤ c + gap W.w → Starts W U d σ K₁ s X s₁ f₁ g a c j → Turned W d e f X a j
        → Does W U (laps n u σ) K L f g a c j u)
        → (σ : Store) (a c j u : ℕ) → u ≤ n → a + u ≡ c → c < j → j ≤ c + gap W.w → Enters W U d σ K₁ L₁ s X f₁ g a c j → Turned W d e f X a j
        → Does W U (next n u σ) K L f g a c j u
    from_end n ih σ a c j u l h o' short T turned =
        let on : (o : d ≤ u) → more (is_zero (eval e σ)) ≡ true → Does W U (laps n (u - d) σ) K L f g (a + d) c j (u - d) =
        λ o z.
        ih σ (a + d) c j (u - d) (omega (arith, B.long)) (omega arith) o' short (starts u h o' T turned (omega arith) z) (turns u h o' T turned (omega arith) z) in
        record {
          goes_on = λ p.
              by_le d u
              (λ o.
              by_bool (more (is_zero (eval e σ)))
              (λ z.
              going-from (waits-quiet u h o' T turned (a + d) (omega arith) (omega arith)) (waits_in B o' T (a + d) (omega arith) (omega arith))
              ((on o z).goes_on (wait-still d u (λ k. laps n k σ) (sym (R.again n u σ z) ∙ p) o)))
              (λ z. done-still (wait-still d u (λ k. ended 0 σ) (sym (R.stop n u σ z) ∙ p) o)))
              (λ o. short-of u h o' T turned o);
          ends = λ way σ' p.
              by_bool (more (is_zero (eval e σ)))
              (λ z.
              let v = wait-done d u (λ k. laps n k σ) (sym (R.again n u σ z) ∙ p) in
              let q : v.0 ≡ u - d = omega (arith, v.3) in
              done-from (waits-quiet u h o' T turned (a + d) (omega arith) (omega (arith, v.1)))
              (waits_in B o' T (a + d) (omega arith) (omega (arith, v.1)))
              ((on v.1 z).ends way σ' (at-time (laps n (u - d) σ) q v.2)))
              (λ z.
              let v = wait-done d u (λ k. ended 0 σ) (sym (R.stop n u σ z) ∙ p) in
              let y : 0 ≡ v.0 = done-time v.2 in
              in-way (done-way v.2)
              (subst (λ (τ : Store). Done at_end W U τ K L f g a c j) (done-words v.2)
              (stops u h o' T turned (omega (arith, v.1)) z (omega (arith, v.3, y)) short)));
        }

    -- as many rounds as the budget can use
    pub starts-does : (n : ℕ) (σ : Store) (a c j u : ℕ) → u < n → a + u ≡ c → c < j → j ≤ c + gap W.w → Starts W U d σ K₁ s X s₁ f₁ g a c j
        → Turned W d e f X a j → Does W U (laps n u σ) K L f g a c j u
    starts-does zero = λ σ a c j u l. absurd (omega arith)
    starts-does (suc n) = from_start n (from_end n (starts-does n))

    pub enters-does : (n : ℕ) (σ : Store) (a c j u : ℕ) → u ≤ n → a + u ≡ c → c < j → j ≤ c + gap W.w → Enters W U d σ K₁ L₁ s X f₁ g a c j
        → Turned W d e f X a j → Does W U (next n u σ) K L f g a c j u
    enters-does n = from_end n (starts-does n)
