-- What the circuits of ok, tick, exit and the two assignments do. Assumes nothing.
use Rattle.std.specs.Prelude.{ℕ, suc, ◌+◌, ◌-◌, ◌≤◌, ◌<◌, ◌≡◌, Bool, ◌||◌}
use Rattle.std.proofs.Math.Path.{sym, ap}
use Rattle.std.proofs.Common.{◌∙◌, ap₂, subst, arith, eqb-true}
use Rattle.std.proofs.Math.Bool.{true, false}
use Rattle.std.proofs.Math.Dec.{eqb}
use Rattle.model.specs.Word.{pick, element_word}
use Rattle.model.specs.Program.{Expr, ok, tick, assign, assign_elem, exit, array_var, reads, touches}
use Rattle.model.specs.Procedures.{inline, reaches}
use Rattle.model.specs.Circuit.{Sig, delayed}
use Rattle.model.specs.Rules.{Store, owner, ended, wait, run, eval, put, at_end}
use Rattle.laws.specs.Refusals.Laws.{by_bool, by_le, not-both}
use Rattle.laws.specs.Program.Fit.{FormedExpr}
use Rattle.laws.specs.Rules.Words.{other-variable, other-element}
use Rattle.laws.specs.Rules.Uses.{eval-same}
use Rattle.theory.specs.Control.Signal.{Quiet, delayed-quiet}
use Rattle.laws.specs.Rules.Laws.{done-still, wait-still, wait-done, done-way, done-time, done-words}
use Rattle.model.specs.Program.{gap}
use Rattle.theory.specs.Control.Pulses.{Pulse, Firm, pulse-less, pulse-delayed, pulse-is, pulse-at, pulse-firm, quiet-firm, delayed-firm, shows-on, shows-off}
use Rattle.theory.specs.Control.History.{Stable, stable-on, Spaced, spaced-off, spaced-turn, spaced-on}
use Rattle.theory.specs.Control.Wiring.{ideal, Gives, Assigned, Circuit, Delays, Each, hits, latch}
use Rattle.theory.specs.Control.World.{World, each_of}
use Rattle.theory.specs.Control.Memories.{Follow, hits-variable, hits-element, keep, keep-firm}
use Rattle.theory.specs.Control.Calm.{Calm, calmly, Sofar, lately}
use Rattle.theory.specs.Control.Bodies.{Owned, settled_at, pause, pause-sofar, pause-words}
use Rattle.theory.specs.Control.Runs.{Words, Free, free, Done, Going, Does, ShortOf, in-way, done-as, going-as, follow-to}

pub run_ok : (W : World) → ShortOf W ok
unfolding run inline Circuit Each
run_ok W U σ s f g n a c e u h o k B =
    record {
      goes_on = λ p. done-still p;
      ends = λ way σ' p.
          let z : 0 ≡ u = done-time p in
          let q : a ≡ c = omega arith in
          in-way (done-way p)
          (record {
            fin = shows-on (λ t l k. absurd (omega arith)) (pulse-is n.fin (pulse-at q B.pulse));
            out = shows-off (omega arith) (omega arith) (λ t l k. n.out t);
            low = λ x t l k. n.clocks x t;
            called = λ x t l k. n.called x t;
            words = λ x i. ap (λ (t : ℕ). W.m t x) (sym q) ∙ B.ready.words x i ∙ ap (λ (τ : Store). τ x) (done-words p);
            sofar = tt;
            calm = λ j. tt;
            settled = settled_at W U.procs a c e q B.ready.settled;
          });
    }

pub run-tick : (W : World) (d : ℕ) → ShortOf W (tick d)
unfolding run inline Circuit Each
run-tick W d U σ s f g n a c e u h o short B =
    let k₀ = B.ready.calm in
    let q : Quiet f a (a + d) = λ t l k. n.fin t ∙ delayed-quiet d s a a k₀.0 (λ t l k. absurd (omega arith)) t l k in
    let line : Spaced W.w d s e = spaced-on W.w d s a e k₀.1 k₀.0 B.pulse in
    record {
      goes_on = λ p.
          by_le d u (λ k. done-still (wait-still d u (λ k₁. ended 0 σ) p k))
          (λ k.
          record {
            fin = λ t l r. q t l (omega arith);
            out = λ t l r. n.out t;
            sofar = (tt, λ one v t l r. line one v t l (omega arith));
            alive = λ k₁. not-both (B.pulse.high a (omega arith) (omega arith) (omega arith)) (k₁.0 a (omega arith) (omega arith));
            bodies = pause-sofar W U g a (suc c) e (omega arith) B.ready.settled
                (λ t l r. B.silent t l (omega arith) (omega arith)) (λ x t l r. n.called x t);
          });
      ends = λ way σ' p.
          let v = wait-done d u (λ k₁. ended 0 σ) p in
          let z : 0 ≡ v.0 = done-time v.2 in
          let y : a + d ≡ c = omega (arith, v.3) in
          in-way (done-way v.2)
          (record {
            fin = shows-on (λ t l k. q t l (omega arith)) (pulse-is n.fin (pulse-at y (pulse-less (omega arith) (pulse-delayed d B.pulse))));
            out = shows-off (omega arith) (omega arith) (λ t l k. n.out t);
            low = λ x t l k. n.clocks x t;
            called = λ x t l k. n.called x t;
            words = λ x i.
                pause-words W U g a c e (omega arith) B.ready.settled (λ t l k. B.silent t l (omega arith) (omega arith))
                (λ x t l k. n.called x t) (omega arith) B.follow (λ x t l k. n.clocks x t) x i
                ∙ B.ready.words x i
                ∙ ap (λ (τ : Store). τ x) (done-words v.2);
            sofar = (tt, line);
            calm = λ j. (λ t l k. B.pulse.low t (omega arith) l, line);
            settled = pause W U g a c e (omega arith) B.ready.settled B.silent (λ x t l k h. n.called x t);
          });
    }

-- an exit: its start goes out, and its finish stays low
pub run-exit : (W : World) → ShortOf W exit
unfolding run inline Circuit Each
run-exit W U σ s f g n a c e u h o k B =
    record {
      goes_on = λ p. done-still p;
      ends = λ way σ' p.
          let z : 0 ≡ u = done-time p in
          let q : a ≡ c = omega arith in
          in-way (done-way p)
          (record {
            fin = shows-off (omega arith) (omega arith) (λ t l k. n.fin t);
            out = shows-on (λ t l k. absurd (omega arith)) (pulse-is n.out (pulse-at q B.pulse));
            low = λ x t l k. n.clocks x t;
            called = λ x t l k. n.called x t;
            words = λ x i. ap (λ (t : ℕ). W.m t x) (sym q) ∙ B.ready.words x i ∙ ap (λ (τ : Store). τ x) (done-words p);
            sofar = tt;
            calm = λ j. tt;
            settled = settled_at W U.procs a c e q B.ready.settled;
          });
    }

-- Assignment --------------------------------------------------------------------------------------------------------------------------------

-- of either kind: y is the variable, or the array, that it writes, r the address
module _ (W : World) (d y : ℕ) (r : ℕ → ℕ) (e : Expr) (pos : 1 ≤ d) (U : Owned) (σ : Store) (s f : Sig) (g : Gives)
    (n : Assigned W.w (ideal W.m) d y r e s f g)
  where
    own-clock : (x t : ℕ) → eqb x y ≡ true → g.clk x t ≡ delayed d s t
    own-clock x t z = n.clocks x t ∙ ap (λ (c : Bool). pick c (delayed d s t) false) z

    other-clock : (x t : ℕ) → eqb x y ≡ false → g.clk x t ≡ false
    other-clock x t z = n.clocks x t ∙ ap (λ (c : Bool). pick c (delayed d s t) false) z

    own-word : (x t : ℕ) → eqb x y ≡ true → delayed d s t ≡ true → g.dat x t ≡ eval e (W.m t)
    own-word x t z k = n.words x t ∙ ap₂ (λ (c c' : Bool). pick c (pick c' (eval e (W.m t)) 0) 0) z k

    own-address : (x t : ℕ) → eqb x y ≡ true → delayed d s t ≡ true → g.adr x t ≡ r t
    own-address x t z k = n.addresses x t ∙ ap₂ (λ (c c' : Bool). pick c (pick c' (r t) 0) 0) z k

    clock-off : (x t : ℕ) → delayed d s t ≡ false → g.clk x t ≡ false
    clock-off x t z = by_bool (eqb x y) (λ k. own-clock x t k ∙ z) (λ k. other-clock x t k)

    clock-firm : (x a b : ℕ) → Firm (delayed d s) a b → Firm (g.clk x) a b
    clock-firm x a b q t l h z =
        by_bool (eqb x y) (λ k. own-clock x (suc t) k ∙ q t l h (sym (own-clock x t k) ∙ z))
        (λ k. quiet-firm (g.clk x) a b (λ t l h. other-clock x t k) t l h z)

    abbrev D : Sig
    D = delayed d s

    abbrev K : ℕ → Type 0
    K t = Delays (calmly W.w W.m t) W.w d e s

    abbrev L : ℕ → Type 0
    L t = Delays (lately W.w W.m t) W.w d e s

    module _ (a c j u : ℕ) (h : a + u ≡ c) (o : c < j) (short : j ≤ c + gap W.w) (calm : K a) (pulse : Pulse W.w s a j)
        (F : Free W U g σ a c j) where
      -- the pulse between the two delays, and the finish until it comes out
      assign-quiet : Quiet D a (a + d)
      assign-quiet = delayed-quiet d s a a calm.0.0 (λ t l k. absurd (omega arith))

      assign-pulse : Pulse W.w D (a + d) (j + d)
      assign-pulse = pulse-delayed d pulse

      assign-before : Quiet f a (a + d + W.w)
      assign-before t l k = n.fin t ∙ delayed-quiet W.w D a (a + d) calm.1.0 assign-quiet t l (omega arith)

      -- before the clock falls the words stay
      assign-firm : (b : ℕ) → b ≤ a + d + W.w → b ≤ j → Firm D a b
      assign-firm b o₁ o₂ t l k =
          delayed-firm d s a (b - d) calm.0.0 (pulse-firm (b - d) (omega arith) (omega arith) pulse) t l (omega arith)

      assign-follow : (b : ℕ) → b ≤ c → Follow W U.vars g a b
      assign-follow b o₁ = follow-to b o₁ o F (λ x t l k. n.called x t)

      assign-words : (k : ℕ) → a ≤ k → k ≤ c → k < a + d + W.w → k < j → Words W U σ k
      assign-words k o₁ o₂ o₃ o₄ x i =
          keep-firm W U.vars g a k o₁ (assign-follow k o₂) x i
          (clock-firm (owner x) a (suc k) (assign-firm (suc k) (omega arith) (omega arith)))
          ∙ F.words x i

      -- of an expression that is used at the first delay's end: its value, and the delay's past
      module _ (v : Expr) (formed : FormedExpr v) (reading : (x : ℕ) → reads v x ≡ true → U.vars x) where
        assign-value : (k : ℕ) → a ≤ k → k ≤ c → k < a + d + W.w → k < j → eval v (W.m k) ≡ eval v σ
        assign-value k o₁ o₂ o₃ o₄ = eval-same v formed (W.m k) σ (λ x i. assign-words k o₁ o₂ o₃ o₄ x (reading (owner x) i))

        assign-used : Stable W.m d v s a → (b : ℕ) → b ≤ j → ((k : ℕ) → k < a + d + W.w → k < b → k ≤ c) → Stable W.m d v s b
        assign-used past b o₁ near =
            stable-on W.w W.m d v s a b σ past calm.0.0 (pulse-less o₁ pulse)
            (λ k x i t l k₁ k₂. assign-words t l (near t k₁ k₂) k₁ (omega arith) x (reading (owner x) i))

      -- z is the word that the rules change
      module _ (formed : FormedExpr e) (reading : (x : ℕ) → reads e x ≡ true → U.vars x) (z : ℕ)
          (chosen : (k : ℕ) → a ≤ k → k ≤ c → k < a + d + W.w → k < j → (x : ℕ) → owner x ≡ y → hits x (r k) ≡ eqb x z)
          (other : (x : ℕ) → eqb (owner x) y ≡ false → eqb x z ≡ false) where
        abbrev τ : Store
        τ = put σ z (eval e σ)

        -- what is known of the delays' past
        assign-sofar : (b : ℕ) → b ≤ j → ((v : ℕ) → v < a + d + W.w → v < b → v ≤ c) → L b
        assign-sofar b o₁ near = (
          (tt, spaced-on W.w d s a b calm.0.1 calm.0.0 (pulse-less o₁ pulse), assign-used e formed reading calm.0.2 b o₁ near),
          (
            tt,
            spaced-turn W.w W.w D (a + d) b (spaced-off W.w W.w D a (a + d) calm.1.1 assign-quiet)
                (λ t l k. absurd (omega arith)) (λ t l k. assign-pulse.low t l (omega arith)),
          ),
        )

        -- the latching, at the end
        assign-latched : (k : ℕ) → suc k ≡ c → D k ≡ true → D (suc k) ≡ false → a ≤ k → k < a + d + W.w → Words W U τ (suc k)
        unfolding put latch
        assign-latched k q q₁ q₂ o₁ o₂ x i =
            by_bool (eqb (owner x) y)
            (λ p.
            let k₁ : g.clk (owner x) k ≡ true = own-clock (owner x) k p ∙ q₁ in
            let k₂ : g.clk (owner x) (suc k) ≡ false = own-clock (owner x) (suc k) p ∙ q₂ in
            let k₃ : g.dat (owner x) k ≡ eval e σ =
            own-word (owner x) k p q₁ ∙ assign-value e formed reading k o₁ (omega arith) o₂ (omega arith) in
            let k₄ : hits x (g.adr (owner x) k) ≡ eqb x z =
            ap (hits x) (own-address (owner x) k p q₁) ∙ chosen k o₁ (omega arith) o₂ (omega arith) x (eqb-true (owner x) y p) in
            let k₅ : W.m k x ≡ σ x = assign-words k o₁ (omega arith) o₂ (omega arith) x i in
            assign-follow (suc k) (omega arith) x i k o₁ (omega arith) ∙ rw (k₁, k₂, k₃, k₄, k₅))
            (λ p.
            keep W U.vars g a (suc k) (omega arith) (assign-follow (suc k) (omega arith)) x i (λ t l k. other-clock (owner x) t p) ∙ F.words x i
            ∙ sym (ap (λ (c : Bool). pick c (eval e σ) (σ x)) (other x p)))

        assign-goes-on : u < d + W.w → Going W U K L f g a c
        assign-goes-on k =
            record {
              fin = λ t l i. assign-before t l (omega arith);
              out = λ t l i. n.out t;
              sofar = assign-sofar (suc c) (omega arith) (λ v l i. omega arith);
              -- the pulse is in the first delay or in the second
              alive = λ k₁.
                  by_le (suc c) (a + d) (λ i. not-both (pulse.high a (omega arith) (omega arith) (omega arith)) (k₁.0.0 a (omega arith) i))
                  (λ i.
                  not-both (assign-pulse.high (a + d) (omega arith) (omega arith) (omega arith)) (k₁.1.0 (a + d) (omega arith) (omega arith)));
              bodies = pause-sofar W U g a (suc c) j (omega arith) F.settled (λ t l i. F.silent t l (omega arith) (omega arith))
                  (λ x t l i. n.called x t);
            }

        assign-ends : a + d + W.w ≡ c → Done at_end W U τ K L f g a c j
        assign-ends q =
            let last : suc (a + d + (W.w - 1)) ≡ c = omega arith in
            let so = assign-sofar j (omega arith) (λ v l i. omega arith) in
            record {
              fin = shows-on (λ t l k. assign-before t l (omega arith))
                  (pulse-is n.fin (pulse-at q (pulse-less (omega arith) (pulse-delayed W.w assign-pulse))));
              out = shows-off (omega arith) (omega arith) (λ t l k. n.out t);
              low = λ x t l k. clock-off x t (assign-pulse.low t (omega arith) (omega arith));
              called = λ x t l k. n.called x t;
              words = λ x i.
                  ap (λ (t : ℕ). W.m t x) (sym last)
                  ∙ assign-latched (a + d + (W.w - 1)) last (assign-pulse.high (a + d + (W.w - 1)) (omega arith) (omega arith) (omega arith))
                  (assign-pulse.low (suc (a + d + (W.w - 1))) (omega arith) (omega arith)) (omega arith) (omega arith) x i;
              sofar = so;
              calm = λ i. (
                (λ t l k. pulse.low t (omega arith) l, so.0.1, so.0.2),
                (λ t l k. assign-pulse.low t (omega arith) (omega arith), so.1.1),
              );
              settled = pause W U g a c j (omega arith) F.settled F.silent (λ x t l k h. n.called x t);
            }

        assign-does : Does W U (wait (d + W.w) u (λ k. ended 0 τ)) K L f g a c j u
        assign-does =
            record {
              goes_on = λ p.
                  by_le (d + W.w) u (λ k. done-still (wait-still (d + W.w) u (λ k₁. ended 0 τ) p (omega arith)))
                  (λ k. assign-goes-on k);
              ends = λ way σ' p.
                  let v = wait-done (d + W.w) u (λ k₁. ended 0 τ) p in
                  let z : 0 ≡ v.0 = done-time v.2 in
                  in-way (done-way v.2)
                  (subst (λ (σ : Store). Done at_end W U σ K L f g a c j) (done-words v.2) (assign-ends (omega (arith, v.3, z))));
            }

pub run-assign : (W : World) (d y : ℕ) (e : Expr) → 1 ≤ d → y < 16 → FormedExpr e → ShortOf W (assign d y e)
unfolding run touches inline Circuit Each reaches
run-assign W d y e pos low formed U σ s f g n a c j u h o k B =
    assign-does W d y (λ t. 0) e pos U σ s f g n a c j u h o k B.ready.calm B.pulse (free B) formed
    (each_of (λ x. eqb x y) (reads e) B.ready.owns.mine).1 y (λ k o₁ o₂ o₃ o₄ x z. hits-variable x y 0 low z) (λ x z. other-variable x y low z)

-- an element's index is used with its value
pub run-elem : (W : World) (d k : ℕ) (i e : Expr) → 1 ≤ d → FormedExpr i → FormedExpr e → ShortOf W (assign_elem d k i e)
unfolding run touches inline Circuit Each reaches
run-elem W d k i e pos formedI formedE U σ s f g n a c j u h o short B =
    let y = array_var k in
    let r : ℕ → ℕ = ideal W.m i in
    let uses = each_of (reads i) (reads e) (each_of (λ x. eqb x y) (λ x. reads i x || reads e x) B.ready.owns.mine).1 in
    let place : (t : ℕ) → a ≤ t → t ≤ c → t < a + d + W.w → t < j → eval i (W.m t) ≡ eval i σ =
    assign-value W d y r e pos U σ s f g n a c j u h o short B.ready.calm.0 B.pulse (free B) i formedI uses.0 in
    let used : (b : ℕ) → b ≤ j → ((t : ℕ) → t < a + d + W.w → t < b → t ≤ c) → Stable W.m d i s b =
    assign-used W d y r e pos U σ s f g n a c j u h o short B.ready.calm.0 B.pulse (free B) i formedI uses.0 B.ready.calm.1 in
    let does =
    assign-does W d y r e pos U σ s f g n a c j u h o short B.ready.calm.0 B.pulse (free B) formedE uses.1 (element_word k (eval i σ))
    (λ t o₁ o₂ o₃ o₄ x z. ap (hits x) (place t o₁ o₂ o₃ o₄) ∙ hits-element x k (eval i σ) z) (λ x z. other-element x k (eval i σ) z) in
    record {
      goes_on = λ p.
          going-as (Calm W (assign_elem d k i e) s f g n) (Sofar W (assign_elem d k i e) s f g n) (λ q. q.0)
          (λ l. (l, used (suc c) (omega arith) (λ t l k. omega arith))) (does.goes_on p);
      ends = λ way σ' p.
          let v = (wait-done (d + W.w) u (λ k₁. ended 0 (put σ (element_word k (eval i σ)) (eval e σ))) p).1 in
          let past = used j (omega arith) (λ t l k. omega (arith, v)) in
          done-as (Calm W (assign_elem d k i e) s f g n) (Sofar W (assign_elem d k i e) s f g n) (λ q l. (l, past)) (λ l. (l, past))
          (does.ends way σ' p);
    }
