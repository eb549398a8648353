-- What the circuit of a call does, and the body that it calls. A call's delay is at least the gap: when the body is started, what went before has left.
-- Assumes nothing.
use Rattle.std.specs.Prelude.{ℕ, suc, ◌+◌, ◌-◌, ◌≤◌, ◌<◌, ◌≡◌, refl, Bool, false, ◌||◌}
use Rattle.std.proofs.Common.{sym, ◌∙◌, ap₂, subst, arith}
use Rattle.std.proofs.Math.Path.{ap}
use Rattle.std.proofs.Math.Bool.{or-true}
use Rattle.std.proofs.Math.Dec.{eqb}
use borrow.Author.Tests.{eqb-true, eq-eqb, ne_eqb}
use Rattle.model.specs.Word.{pick}
use Rattle.model.specs.Program.{Stmt, seq, tick, call, touches}
use Rattle.model.specs.Procedures.{inline, reaches}
use Rattle.model.specs.Circuit.{Sig, delayed}
use Rattle.model.specs.Rules.{Costs, imperative, Store, Way, at_end, Run, done, ended, after, wait, chain, run}
use Rattle.laws.specs.Refusals.Laws.{by_bool, by_le, not-both}
use Rattle.laws.specs.Rules.Laws.{wait-is, wait-short, wait-done, wait-still}
use Rattle.laws.specs.Rules.Uses.{only-ends}
use Rattle.model.specs.Program.{gap}
use Rattle.theory.specs.Control.Signal.{Quiet, delayed-quiet}
use Rattle.theory.specs.Control.Pulses.{Pulse, pulse-less, pulse-delayed, pulse-is, shows-pulse, shows-on, shows-off}
use Rattle.theory.specs.Control.Returns.{Returns, NoCall, none_out, unanswered, waiting, returns}
use Rattle.theory.specs.Control.History.{Spaced, spaced-on}
use Rattle.theory.specs.Control.Wiring.{Gives, Circuit, Called, Timer, Each}
use Rattle.theory.specs.Control.World.{World, means, goes}
use Rattle.theory.specs.Control.Calm.{Calm, calmly, Sofar, lately, calm-sofar, sofar-less}
use Rattle.theory.specs.Control.Rest.{hush}
use Rattle.theory.specs.Control.Bodies.{Owned, Idle, BodyRests, BodySofar, Owns, uncalled, SilentAt, bodies-rest, Follows, within, Settled, pause-rests, pause-sofar, pause-words}
use Rattle.theory.specs.Control.Runs.{Words, Begins, Done, Going, Does, RunOf, ShortOf, in-way}

-- The rule: the delay, then the body ---------------------------------------------------------------------------------------------------

-- of a statement that means a tick and then S, the budgeted run
pub call-run : (κ : Costs) (d : ℕ) (S : Stmt) (u : ℕ) (σ : Store) → run κ u (seq (tick d) S) σ ≡ wait d u (λ k. run κ k S σ)
unfolding run chain after
call-run κ d S u σ =
    by_le d u
    (λ o.
    let z : d + 0 ≡ d = omega arith in
    ap (λ (r : Run). chain r (λ t σ₁. run κ (u - t) S σ₁)) (wait-is d u (λ k. ended 0 σ) o)
    ∙ ap (λ (t : ℕ). after t (run κ (u - t) S σ)) z ∙ sym (wait-is d u (λ k. run κ k S σ) o))
    (λ o.
    ap (λ (r : Run). chain r (λ t σ₁. run κ (u - t) S σ₁)) (wait-short d u (λ k. ended 0 σ) o) ∙ sym (wait-short d u (λ k. run κ k S σ) o))

-- The call -----------------------------------------------------------------------------------------------------------------------------

-- what body p may own when p is called: the procedures without p
abbrev Others : Owned → ℕ → Owned
Others U p = record { vars = U.vars; procs = λ q. U.procs q × (eqb q p ≡ false) }

module _ (W : World) (d p : ℕ) (long : gap W.w ≤ d) (does : RunOf W (W.bodies p)) (U : Owned) (σ : Store) (s f : Sig) (g : Gives)
    (n : Called W.w d p (W.ret p) s f g) where
  abbrev K : ℕ → Type 0
  K t = Timer (calmly W.w W.m t) d s × NoCall W.w (delayed d s) (W.ret p) t

  abbrev L : ℕ → Type 0
  L t = Timer (lately W.w W.m t) d s × Unit {0}

  module _ (a c e u : ℕ) (h : a + u ≡ c) (o : c < e) (short : e ≤ c + gap W.w) (B : Begins W (call d p) U σ K s g a c e) where
    abbrev D : Sig
    D = delayed d s

    abbrev S : Sig
    S = W.all.calls p

    abbrev r : Sig
    r = W.ret p

    call-before : Quiet D a (a + d)
    call-before = delayed-quiet d s a a B.ready.calm.0.0 (λ t l k. absurd (omega arith))

    call-pulse : Pulse W.w D (a + d) (e + d)
    call-pulse = pulse-delayed d B.pulse

    call-mine : U.procs p
    unfolding reaches
    call-mine = B.ready.owns.reach p (ap (λ (b : Bool). b || W.reach p p) (eq-eqb p p refl))

    -- what it calls
    calls-own : (t : ℕ) → g.calls p t ≡ D t
    calls-own t = n.called p t ∙ ap (λ (b : Bool). pick b (D t) false) (eq-eqb p p refl)

    calls-other : (q t : ℕ) → eqb q p ≡ false → g.calls q t ≡ false
    calls-other q t z = n.called q t ∙ ap (λ (b : Bool). pick b (D t) false) z

    calls-off : (q t : ℕ) → D t ≡ false → g.calls q t ≡ false
    calls-off q t z = by_bool (eqb q p) (λ y. n.called q t ∙ ap₂ (λ (b b' : Bool). pick b b' false) y z) (λ y. calls-other q t y)

    -- before the body has ended nothing comes out
    call-quiet : (b : ℕ) → Quiet r (a + d) b → Quiet f a b
    call-quiet b q t l k =
        n.fin t
        ∙ by_le (a + d) t (λ z. unanswered W.w D r t (q t z k)) (λ z. none_out W.w D r a (a + d) B.ready.calm.1 call-before t l z)

    call_line : Spaced W.w d s e
    call_line = spaced-on W.w d s a e B.ready.calm.0.1 B.ready.calm.0.0 B.pulse

    -- what has been so far
    call-sofar : (b : ℕ) → b ≤ e → L b
    call-sofar b l = ((tt, λ one u v i k. call_line one u v i (omega arith)), tt)

    call-short : u < d → Going W U K L f g a c
    call-short o₁ =
        record {
          fin = call-quiet (suc c) (λ t l k. absurd (omega arith));
          out = λ t l k. n.out t;
          sofar = call-sofar (suc c) (omega arith);
          alive = λ k. not-both (B.pulse.high a (omega arith) (omega arith) (omega arith)) (k.0.0 a (omega arith) (omega arith));
          bodies =
              pause-sofar W U g a (suc c) e (omega arith) B.ready.settled (λ t l k. B.silent t l (omega arith) (omega arith))
              (λ q t l k. calls-off q t (call-before t (omega arith) (omega arith)));
        }

    -- nobody else calls body p: those up to p never do, and the later ones rest throughout
    nobody : (t : ℕ) → a + gap W.w ≤ t → t < e → (q : ℕ) → U.procs q → (W.each q).calls p t ≡ false
    nobody t l k q v =
        by_le (suc p) q
        (λ z.
        (bodies-rest W U.procs (suc p) g (a + gap W.w) t (λ q v i. B.ready.settled.idle q v (omega arith))
        (λ t l₁ k₁. B.silent t (omega arith) (omega arith) (omega arith)) (λ q v i t k₁ k₂. calls-other q t (ne_eqb q p (λ y. omega arith)))
        (omega arith) q v z
        ).called p t l (omega arith))
        (λ z. uncalled W q p (omega arith) t)

    module _ (o₁ : d ≤ u) where
      -- up to the call all bodies rest
      waits : (q : ℕ) → U.procs q → BodyRests W q (a + gap W.w) (a + d)
      waits q v =
          pause-rests W U g a (a + d) e (omega arith) B.ready.settled (λ t l k. B.silent t l (omega arith) (omega arith))
          (λ q t l k. calls-off q t (call-before t (omega arith) k)) (omega arith) q v

      call-words : Words W U σ (a + d)
      call-words x i =
          pause-words W U g a (a + d) e (omega arith) B.ready.settled (λ t l k. B.silent t l (omega arith) (omega arith))
          (λ q t l k. calls-off q t (call-before t (omega arith) k)) (omega arith) (within W U g a c a (a + d) (omega arith) (omega arith) B.follow)
          (λ x t l k. n.clocks x t) x i
          ∙ B.ready.words x i

      -- of U's bodies, p and the others
      either-of : {A : Type 0} (q : ℕ) → U.procs q → (p ≡ q → A) → ((Others U p).procs q → A) → A
      either-of q v l k = by_bool (eqb q p) (λ z. l (sym (eqb-true q p z))) (λ z. k (v, z))

      call-silent : (t : ℕ) → a + W.w ≤ t → t < e → SilentAt W (Others U p).procs (W.each p) t
      call-silent t l k q v z y =
          B.silent t l (omega arith) k q v.0 (calls-other q t v.1)
          (λ q' v'. either-of q' v' (λ i. subst (λ (k : ℕ). (W.each k).calls q t ≡ false) i z) (λ i. y q' i))

      call-follow : Follows W (Others U p) (W.each p) (a + d) c
      call-follow =
          let low-all : (x t : ℕ) → (W.each p).clk x t ≡ false → ((q : ℕ) → (Others U p).procs q → (W.each q).clk x t ≡ false)
          → (q : ℕ) → U.procs q → (W.each q).clk x t ≡ false =
          λ x t z y q v. either-of q v (λ i. subst (λ (k : ℕ). (W.each k).clk x t ≡ false) i z) (λ i. y q i) in
          record {
            low = λ x i t l k z y. B.follow.low x i t (omega arith) k (n.clocks x t) (low-all x t z y);
            own = λ x i t l k z y. B.follow.body x i t (omega arith) k (n.clocks x t) p call-mine z (λ q v j. y q (v, j));
            body = λ x i t l k z q v j y.
                B.follow.body x i t (omega arith) k (n.clocks x t) q v.0 j
                (λ q' v' m. either-of q' v' (λ i. subst (λ (k : ℕ). (W.each k).clk x t ≡ false) i z) (λ i. y q' i m));
            heard = λ q v t z. B.follow.heard-body p call-mine q v.0 t z;
            heard-body = λ q v q' v'. B.follow.heard-body q v.0 q' v'.0;
          }

      -- the others rest for a gap more: body p, which is calm, calls nothing so soon
      call-rests : (b : ℕ) → a + d ≤ b → b ≤ a + d + gap W.w → b ≤ e → (q : ℕ) → (Others U p).procs q → BodyRests W q (a + d) b
      call-rests b l l₁ l₂ q v =
          bodies-rest W (Others U p).procs 0 (W.each p) (a + d) b (λ q v k. (waits q v.0).calm)
          (λ t k h. call-silent t (omega arith) (omega arith))
          (λ q v k t h j. hush W (W.bodies p) (W.timely p) S r (W.each p) (W.built p) (a + d) (waits p call-mine).calm q t h (omega arith)) l q v (omega arith)

      call_settled : Settled W (Others U p).procs (a + d) e
      call_settled =
          record {
            idle = λ q v k. (call-rests (a + d + gap W.w) (omega arith) (omega arith) k q v).calm;
            low = λ q v x t l k k'. (call-rests t l k k' q v).clocks x t l (omega arith);
            sofar = λ q v t l k.
                by_le (a + d) t
                (λ z. calm-sofar W (W.bodies q) (W.all.calls q) (W.ret q) (W.each q) (W.built q) t (call-rests t z l k q v).calm)
                (λ z.
                sofar-less W (W.bodies q) (W.all.calls q) (W.ret q) (W.each q) (W.built q) (a + d) t (omega arith)
                (calm-sofar W (W.bodies q) (W.all.calls q) (W.ret q) (W.each q) (W.built q) (a + d) (waits q v.0).calm));
          }

      call-owns : Owns W (W.bodies p) (Others U p)
      unfolding touches inline reaches
      call-owns =
          record {
            mine = λ x t. B.ready.owns.mine x (ap (λ (S : Stmt). touches S x) (W.flat-is p) ∙ t);
            reach = λ q t. (
              B.ready.owns.reach q (ap (λ (b : Bool). eqb q p || b) (W.reach-is p q ∙ t) ∙ or-true (eqb q p)),
              ne_eqb q p (λ z. omega (arith, W.lower p q t)),
            );
          }

      call-body : Does W (Others U p) (goes W (u - d) (W.bodies p) σ) (Calm W (W.bodies p) S r (W.each p) (W.built p))
          (Sofar W (W.bodies p) S r (W.each p) (W.built p)) r (W.each p) (a + d) c e (u - d)
      call-body =
          does (Others U p) σ S r (W.each p) (W.built p) (a + d) c e (u - d) (omega arith) o
          (record {
            ready = record { owns = call-owns; calm = (waits p call-mine).calm; settled = call_settled; words = call-words };
            pulse = record {
              high = λ t l k k'. B.follow.heard p call-mine t (calls-own t ∙ call-pulse.high t l k (omega arith));
              low = λ t l k.
                  B.silent t (omega arith) (omega arith) k p call-mine (calls-own t ∙ call-pulse.low t l (omega arith)) (nobody t (omega arith) k);
            };
            follow = call-follow;
            silent = λ t l k k'. call-silent t (omega arith) k';
            hold = B.hold;
          })

      call_ends : (σ' : Store) → goes W (u - d) (W.bodies p) σ ≡ ended (u - d) σ' → Done at_end W U σ' K L f g a c e
      call_ends σ' y =
          let E = call-body.ends at_end σ' y in
          let R : Returns W.w D r a c e =
          returns W.w D r W.pos a (a + d) c e short o (omega arith) (omega arith) B.ready.calm.1 call-before (pulse-less (omega arith) call-pulse)
          E.fin.quiet (shows-pulse E.fin) in
          record {
            fin = shows-on (λ t l k. n.fin t ∙ R.quiet t l k) (pulse-is n.fin R.pulse);
            out = shows-off (omega arith) (omega arith) (λ t l k. n.out t);
            low = λ x t l k. n.clocks x t;
            called = λ q t l k. calls-off q t (call-pulse.low t (omega arith) (omega arith));
            words = E.words;
            sofar = call-sofar e (omega arith);
            calm = λ k. ((λ t l k'. B.pulse.low t (omega arith) l, call_line), R.none k);
            settled = record {
              idle = λ q v k.
                  let z : e ≡ c + gap W.w = omega arith in
                  either-of q v (λ i. subst (λ (q : ℕ). Idle W q (c + gap W.w)) i (subst (λ (b : ℕ). Idle W p b) z (E.calm k)))
                  (λ i. E.settled.idle q i k);
              low = λ q v x t l k k'.
                  either-of q v (λ i. subst (λ (q : ℕ). (W.each q).clk x t ≡ false) i (E.low x t l (omega arith))) (λ i. E.settled.low q i x t l k k');
              sofar = λ q v t l k.
                  either-of q v (λ i. subst (λ (q : ℕ). BodySofar W q t) i (sofar-less W (W.bodies p) S r (W.each p) (W.built p) e t k E.sofar))
                  (λ i. E.settled.sofar q i t l k);
            };
          }

    call-means : goes W u (call d p) σ ≡ wait d u (λ k. goes W k (W.bodies p) σ)
    unfolding inline
    call-means = call-run (imperative W.w) d (W.flat p) u σ ∙ ap (λ (S : Stmt). wait d u (λ k. run (imperative W.w) k S σ)) (W.flat-is p)

    call-does : Does W U (goes W u (call d p) σ) K L f g a c e u
    call-does =
        record {
          goes_on = λ z.
              by_le d u
              (λ o₁.
              let G = (call-body o₁).goes_on (wait-still d u (λ k. goes W k (W.bodies p) σ) (sym call-means ∙ z) o₁) in
              record {
                fin = call-quiet (suc c) G.fin;
                out = λ t l k. n.out t;
                sofar = call-sofar (suc c) (omega arith);
                -- the merge holds
                alive = λ k.
                    waiting W.w D r a (a + d) c (omega arith) (omega arith) B.ready.calm.1 call-before
                    (call-pulse.high (a + d) (omega arith) (omega arith) (omega arith)) G.fin k.1;
                bodies = λ q v. either-of o₁ q v (λ i. subst (λ (q : ℕ). BodySofar W q (suc c)) i G.sofar) (λ i. G.bodies q i);
              })
              (λ o₁. call-short o₁);
          ends = λ way σ' z.
              let v = wait-done d u (λ k. goes W k (W.bodies p) σ) (sym call-means ∙ z) in
              -- an exit stays within its body
              let y : way ≡ at_end = only-ends (imperative W.w) (means W (W.bodies p)) (W.closed p) (u - d) way v.0 σ σ' v.2 in
              let i : v.0 ≡ u - d = omega (arith, v.3) in
              in-way (sym y)
              (call_ends v.1 σ' (v.2 ∙ ap₂ (λ (b : Way) (k : ℕ). done b k σ') y i));
        }

pub run_call : (W : World) (d p : ℕ) → gap W.w ≤ d → RunOf W (W.bodies p) → ShortOf W (call d p)
unfolding Circuit Each
run_call W d p long does U σ s f g n a c e u h o k B = call-does W d p long does U σ s f g n a c e u h o k B
