-- A part beside another: the branch that an if takes beside the one that it does not, and a side of a parallel beside the other.
-- Which of the two stands first does not matter, so each is told once. Assumes nothing.
use Rattle.std.specs.Prelude.{ℕ, suc, ◌+◌, ◌-◌, ◌≤◌, ◌<◌, ◌≡◌, Bool, true, false, ◌||◌}
use Rattle.std.proofs.Common.{◌∙◌, ap, ap₂, arith}
use Rattle.std.proofs.Math.Bool.{or-false}
use Rattle.model.specs.Program.{Code, writes}
use Rattle.model.specs.Procedures.{reaches}
use Rattle.model.specs.Circuit.{Sig}
use Rattle.model.specs.Rules.{Store, ended, still, Way, at_end, done}
use Rattle.laws.specs.Refusals.Laws.{by_bool}
use Rattle.laws.specs.Program.Fit.{Apart}
use Rattle.laws.specs.Rules.Uses.{apart-unwritten}
use Rattle.laws.specs.Rules.Laws.{by-run}
use Rattle.theory.specs.Control.Signal.{Quiet, glue}
use Rattle.theory.specs.Control.Pulses.{Pulse, pulse-less, shows-from, shows-is}
use Rattle.theory.specs.Control.Wiring.{◌≈◌, either, Gives, Joined}
use Rattle.theory.specs.Control.World.{World, Built, means, Paced, goes, steadily}
use Rattle.theory.specs.Control.Memories.{out-left}
use Rattle.theory.specs.Control.Calm.{Calm, Sofar, calm-sofar, sofar-less, is-dull, is-unwritten, is-uncalled}
use Rattle.theory.specs.Control.Reach.{reach-on, reach-writes}
use Rattle.theory.specs.Control.Rest.{Rests, rest}
use Rattle.theory.specs.Control.Bodies.{Owned, BodySofar, Owns, Follows, within, silent-left, follows-left, silent-beside, follows-beside, Settled, pause, pause-sofar}
use Rattle.theory.specs.Control.Runs.{Words, Silent, Free, Done, Going, going-at, Does, RunOf, Launched, launch, words-stay, words_last}

-- A branch -----------------------------------------------------------------------------------------------------------------------------

-- R gets its pulse at a + d, and O gets none
module _ (W : World) (R O : Code) (timedR : Paced W R) (timedO : Paced W O) (doesR : RunOf W R) (U : Owned) (σ : Store) (f : Sig) (g : Gives)
    (sR fR : Sig) (gR : Gives) (nR : Built W R sR fR gR) (sO fO : Sig) (gO : Gives) (nO : Built W O sO fO gO)
    (joined : Joined gR gO g) (fin : f ≈ either fR fO) (a c e u d : ℕ) (h : a + u ≡ c) (o : d ≤ u) (o' : c < e)
    (calmR : Calm W R sR fR gR nR a) (calmO : Calm W O sO fO gO nO a) (before : Quiet sR a (a + d)) (on : Pulse W.w sR (a + d) e) (off : Quiet sO a e)
    (owns : Owns W R U) (F : Free W U g σ (a + d) c e) where
  waits : Rests fR gR (Calm W R sR fR gR nR) a (a + d)
  waits = rest W R timedR sR fR gR nR a (a + d) calmR (omega arith) before

  other : Rests fO gO (Calm W O sO fO gO nO) a e
  other = rest W O timedO sO fO gO nO a e calmO (omega arith) off

  other-sofar : Sofar W O sO fO gO nO e
  other-sofar = calm-sofar W O sO fO gO nO e other.calm

  taken : Does W U (goes W (u - d) R σ) (Calm W R sR fR gR nR) (Sofar W R sR fR gR nR) fR gR (a + d) c e (u - d)
  taken =
      doesR U σ sR fR gR nR (a + d) c e (u - d) (omega arith) o'
      (record {
        ready = record { owns = owns; calm = waits.calm; settled = F.settled; words = F.words };
        pulse = on;
        follow = follows-beside W U gR gO g (a + d) c joined (is-dull W O sO fO gO nO)
            (λ x t l k. other.clocks x t (omega arith) (omega arith)) F.follow;
        silent = λ t l k k'. silent-beside W U gR gO g t joined (λ x. other.called x t (omega arith) (omega arith)) (F.silent t l k k');
        hold = F.hold;
      })

  -- what the other branch adds
  fin-is : (t : ℕ) → a ≤ t → t < e → f t ≡ fR t
  fin-is t l k = fin t ∙ ap (λ (b : Bool). fR t || b) (other.fin t l k) ∙ or-false (fR t)

  out-is : (t : ℕ) → a ≤ t → t < e → g.out t ≡ gR.out t
  out-is t l k = out-left gR gO g joined t (other.out t l k)

  -- so an if does what its branch does, a delay later: of both branches' cells
  pub branch : Does W U (goes W (u - d) R σ) (λ t. Calm W R sR fR gR nR t × Calm W O sO fO gO nO t) (λ t. Sofar W R sR fR gR nR t × Sofar W O sO fO gO nO t)
      f g a c e (u - d)
  branch =
      record {
        goes_on = λ p.
            let G = taken.goes_on p in
            record {
              fin = λ t l k. fin-is t l (omega arith) ∙ glue fR a (a + d) (suc c) waits.fin G.fin t l k;
              out = λ t l k. out-is t l (omega arith) ∙ glue gR.out a (a + d) (suc c) waits.out G.out t l k;
              sofar = (G.sofar, sofar-less W O sO fO gO nO e (suc c) (omega arith) other-sofar);
              alive = λ k. G.alive k.0;
              bodies = G.bodies;
            };
        ends = λ way σ' p.
            let E = taken.ends way σ' p in
            record {
              fin = shows-is (omega arith) (omega arith) fin-is (shows-from waits.fin E.fin);
              out = shows-is (omega arith) (omega arith) out-is (shows-from waits.out E.out);
              low = λ x t l k. joined.clocks x t ∙ ap₂ ◌||◌ (E.low x t l k) (other.clocks x t (omega arith) k);
              called = λ x t l k. joined.called x t ∙ ap₂ ◌||◌ (E.called x t l k) (other.called x t (omega arith) k);
              words = E.words;
              sofar = (E.sofar, other-sofar);
              calm = λ k. (E.calm k, other.calm);
              settled = E.settled;
            };
      }

-- A side -------------------------------------------------------------------------------------------------------------------------------

-- what a side has for itself: the variables of U that the other, O, does not write, and the bodies of U that O does not reach
abbrev pub Own : World → Owned → Code → Owned
Own W U O =
    record { vars = λ x. U.vars x × (writes (means W O) x ≡ false); procs = λ q. U.procs q × (reaches W.reach O q ≡ false) }

pub record Side (W : World) (R O : Code) (U : Owned) (σ : Store) (K L : ℕ → Type 0) (fR : Sig) (gR : Gives) (a c e u : ℕ) : Type 0 where
  pub goes_on : goes W u R σ ≡ still → Going W (Own W U O) K L fR gR a c
  pub ends : (t₁ : ℕ) (σ₁ : Store) → t₁ ≤ u → goes W u R σ ≡ ended t₁ σ₁ → Done at_end W (Own W U O) σ₁ K L fR gR a (a + t₁) e
  -- whether it has ended or not
  pub sofar : L (suc c)
  pub bodies : (q : ℕ) → (Own W U O).procs q → BodySofar W q (suc c)
  -- at the end of both sides
  pub last : (t₁ : ℕ) (σ₁ : Store) → t₁ ≤ u → goes W u R σ ≡ ended t₁ σ₁ → Words W (Own W U O) σ₁ c × Settled W (Own W U O).procs c e

-- both sides get their pulse at a
module _ (W : World) (R O : Code) (timedR : Paced W R) (doesR : RunOf W R) (apart : Apart (means W O) (means W R))
    (lone : (q : ℕ) → reaches W.reach R q ≡ true → reaches W.reach O q ≡ false) (U : Owned) (σ : Store) (s : Sig) (g : Gives)
    (fR : Sig) (gR : Gives) (nR : Built W R s fR gR) (fO : Sig) (gO : Gives) (nO : Built W O s fO gO) (joined : Joined gR gO g)
    (a c e u : ℕ) (h : a + u ≡ c) (o : c < e) (calmR : Calm W R s fR gR nR a) (pulse : Pulse W.w s a e)
    (owns : Owns W R U) (F : Free W U g σ a c e) where
  -- a body that the other side reaches gives nothing to this side's own
  mute : (x : ℕ) → (Own W U O).vars x → (t r : ℕ) → U.procs r → ((Own W U O).procs r → (W.each r).clk x t ≡ false) → (W.each r).clk x t ≡ false
  mute x i t r v z =
      by_bool (reaches W.reach O r)
      (λ y. is-unwritten W (W.bodies r) (W.all.calls r) (W.ret r) (W.each r) (W.built r) x (reach-writes W O r x y i.1) t) (λ y. z (v, y))

  mute-calls : (q : ℕ) → (Own W U O).procs q → (t r : ℕ) → U.procs r → ((Own W U O).procs r → (W.each r).calls q t ≡ false) → (W.each r).calls q t ≡ false
  mute-calls q i t r v z =
      by_bool (reaches W.reach O r)
      (λ y. is-uncalled W (W.bodies r) (W.all.calls r) (W.ret r) (W.each r) (W.built r) q (reach-on W O r q y i.1) t) (λ y. z (v, y))

  own-follow : Follows W (Own W U O) gR a c
  own-follow =
      follows-left W U (Own W U O) gR gO g joined (λ q i. i.0) a c (is-dull W O s fO gO nO) (λ x i. i.0)
      (λ x i t l k. is-unwritten W O s fO gO nO x i.1 t) mute F.follow

  own-silent : Silent W (Own W U O) gR a c e
  own-silent t l k k' =
      silent-left W U (Own W U O) gR gO g joined (λ q i. i.0) t (λ q i. is-uncalled W O s fO gO nO q i.1 t) (λ q i r v z. mute-calls q i t r v z)
      (F.silent t l k k')

  side-launched : Launched W R (Own W U O) σ (Calm W R s fR gR nR) (Sofar W R s fR gR nR) s fR gR a e u
  side-launched =
      launch W R timedR doesR (Own W U O) σ s fR gR nR a e u (omega arith)
      (record {
        owns = record { mine = λ x t. (owns.mine x t, apart-unwritten (means W O) (means W R) apart x t); reach = λ q t. (owns.reach q t, lone q t) };
        calm = calmR;
        settled = record {
          idle = λ q i. F.settled.idle q i.0;
          low = λ q i. F.settled.low q i.0;
          sofar = λ q i. F.settled.sofar q i.0;
        };
        words = λ x i. F.words x i.0;
      })
      (λ v o₁ q. (
        pulse-less (omega arith) pulse,
        within W (Own W U O) gR a c a (a + v) (omega arith) (omega arith) own-follow,
        λ t l k. own-silent t l (omega arith) (omega arith),
      ))

  module _ (way : Way) (t₁ : ℕ) (σ₁ : Store) (o₁ : t₁ ≤ u) (p : goes W u R σ ≡ done way t₁ σ₁) where
    side_left : Done way W (Own W U O) σ₁ (Calm W R s fR gR nR) (Sofar W R s fR gR nR) fR gR a (a + t₁) e
    side_left =
        side-launched.ends way t₁ σ₁ p e (omega arith) (omega arith)
        (λ e' l k E. (
          pulse-less (omega arith) pulse,
          words_last E c e (omega arith) (omega arith) k (within W (Own W U O) gR a c (a + t₁) c (omega arith) (omega arith) own-follow)
              (λ t l k k'. own-silent t (omega arith) (omega arith) k') (λ x i. F.hold x i.0),
          λ l₁ l₂. own-silent e' l₁ (omega arith) k,
        ))

    side-last : Words W (Own W U O) σ₁ c × Settled W (Own W U O).procs c e
    side-last = (
      λ x i.
          words-stay side_left c (omega arith) (omega arith) (within W (Own W U O) gR a c (a + t₁) c (omega arith) (omega arith) own-follow)
          (λ t l k. own-silent t (omega arith) (omega arith) (omega arith)) x i
          ∙ side_left.words x i,
      pause W (Own W U O) gR (a + t₁) c e (omega arith) side_left.settled (λ t l k k'. own-silent t (omega arith) k k')
          (λ q t l k k'. side_left.called q t l (omega arith)),
    )

    side-sofar : Sofar W R s fR gR nR (suc c) × ((q : ℕ) → (Own W U O).procs q → BodySofar W q (suc c))
    side-sofar = (
      sofar-less W R s fR gR nR e (suc c) (omega arith) side_left.sofar,
      pause-sofar W (Own W U O) gR (a + t₁) (suc c) e (omega arith) side_left.settled (λ t l k. own-silent t (omega arith) (omega arith) (omega arith))
          (λ q t l k. side_left.called q t l (omega arith)),
    )

  side-so-far : Sofar W R s fR gR nR (suc c) × ((q : ℕ) → (Own W U O).procs q → BodySofar W q (suc c))
  side-so-far =
      by-run (goes W u R σ) (λ way t σ₁ p. side-sofar way t σ₁ (steadily W R timedR σ u way t σ₁ p).0 p)
      (λ p. let G = going-at h (side-launched.goes_on p) in (G.sofar, G.bodies))

  pub side : Side W R O U σ (Calm W R s fR gR nR) (Sofar W R s fR gR nR) fR gR a c e u
  side =
      record {
        goes_on = λ p. going-at h (side-launched.goes_on p);
        ends = λ t₁ σ₁ o₁ p. side_left at_end t₁ σ₁ o₁ p;
        sofar = side-so-far.0;
        bodies = side-so-far.1;
        last = λ t₁ σ₁ o₁ p. side-last at_end t₁ σ₁ o₁ p;
      }
