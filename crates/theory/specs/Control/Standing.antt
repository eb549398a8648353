-- The timing theorem for a whole program: pulses of its length, each from an instant on at which nothing is in flight, all variables and arrays, and all
-- bodies. From each pulse on a run stands, until the next one comes.
-- Assumes nothing.
use Rattle.std.specs.Prelude.{ℕ, suc, ◌+◌, ◌-◌, ◌≤◌, ◌<◌, ◌≡◌, Bool, length}
use Rattle.std.proofs.Math.Path.{refl, ap}
use Rattle.std.proofs.Common.{◌∙◌}
use Rattle.std.proofs.Math.Bool.{false}
use native.Mathlib.Omega.{arith}
use Rattle.model.specs.Program.{Program, gap}
use Rattle.model.specs.Procedures.{body_at, inlined, meaning, reached}
use Rattle.model.specs.Circuit.{Sig}
use Rattle.model.specs.Rules.{imperative, Store, owner, ended, still, run, shows_at, due, at_end}
use Rattle.laws.specs.Program.Fit.{Separate, Inside}
use Rattle.laws.specs.Program.Admitted.{Admitted, flat-is, reach-is, below, plain, plain_flat, plain-main, lone-body, lone-main}
use Rattle.laws.specs.Program.Widths.{gap-least}
use Rattle.theory.specs.Control.Widths.{timely-of}
use Rattle.theory.specs.Control.Pulses.{Pulse}
use Rattle.theory.specs.Control.Wiring.{Memory, ideal, Gives, hits, latch, Circuit, Mem}
use Rattle.theory.specs.Control.World.{World, means, Paced, goes}
use Rattle.theory.specs.Control.Calm.{Calm, Resting, Sofar, Lined, calm-zero, calm-sofar, sofar-less, sofar-lines, calm-rests, rests-calm}
use Rattle.theory.specs.Control.Rest.{hush}
use Rattle.theory.specs.Control.Bodies.{Owned, Idle, BodyRests, SilentAt, bodies-rest, Follows, Settled, pause-low, BodySofar}
use Rattle.theory.specs.Control.Runs.{Ready}
use Rattle.theory.specs.Control.Timing.{done_at, finish-at, words-after, rests-after, alive-at, sofar-at}

-- The signals of a program: the words, all that is given, each body's finish and what it gives
pub record Signals (S : Program) : Type 0 where
  pub m : Memory
  pub all : Gives
  pub mem : Mem m all
  pub ret : ℕ → Sig
  pub each : ℕ → Gives
  pub built : (q : ℕ) → Circuit S.pulse (ideal m) ret (body_at S.bodies q) (all.calls q) (ret q) (each q)

abbrev pub world : (S : Program) → Admitted S → Signals S → World
world S A G =
    record {
      w = S.pulse;
      pos = A.pulse.0;
      wide = gap-least S.pulse A.pulse.0;
      m = G.m;
      all = G.all;
      mem = G.mem;
      bodies = body_at S.bodies;
      flat = inlined S.bodies;
      reach = reached S.bodies;
      flat-is = flat-is S A;
      reach-is = reach-is S A;
      lower = λ p q z. below S A p (body_at S.bodies p) (A.body p).earlier q z;
      timely = λ p. timely-of S.pulse (body_at S.bodies p) (A.body p).fit.formed (A.body p).fit.timed;
      flat-timely = λ p. let f = plain_flat S A p in timely-of S.pulse (inlined S.bodies p) f.0 f.1;
      separate = λ p. (plain S A p (body_at S.bodies p) (A.body p)).separate;
      inside = λ p. (plain S A p (body_at S.bodies p) (A.body p)).inside;
      closed = λ p. (plain S A p (body_at S.bodies p) (A.body p)).closed;
      lone = lone-body S A;
      ret = G.ret;
      each = G.each;
      built = G.built;
    }

-- all variables, and the procedures that there are
abbrev pub everything : Program → Owned
everything S = record { vars = λ x. Unit {0}; procs = λ q. q < length S.bodies }

module _ (S : Program) (A : Admitted S) (G : Signals S) (s f : Sig) (g : Gives) (circuit : Circuit S.pulse (ideal G.m) G.ret S.main s f g)
    (follows : (a e : ℕ) → Follows (world S A G) (everything S) g a e) (silent : (t : ℕ) → SilentAt (world S A G) (everything S).procs g t) where
  abbrev W : World
  W = world S A G

  abbrev U : Owned
  U = everything S

  paced : Paced W S.main
  paced = timely-of S.pulse S.main A.main.fit.formed A.main.fit.timed

  apart : Separate (means W S.main)
  apart = (plain-main S A).separate

  enclosed : Inside (means W S.main)
  enclosed = (plain-main S A).inside

  same : (σ : Store) (t : ℕ) → goes W t S.main σ ≡ run (imperative S.pulse) t (meaning S) σ
  unfolding meaning
  same σ t = refl

  -- a run from σ may begin at a: nothing is in flight, and the words are σ
  pub record Standing (σ : Store) (a : ℕ) : Type 0 where
    pub calm : Calm W S.main s f g circuit a
    pub idle : (q : ℕ) → q < length S.bodies → Idle W q a
    pub words : (x : ℕ) → G.m a x ≡ σ x

  -- at instant 0 nothing is in flight
  pub stands-first : (σ : Store) → ((x : ℕ) → G.m 0 x ≡ σ x) → Standing σ 0
  stands-first σ words =
      record {
        calm = calm-zero W S.main s f g circuit;
        idle = λ q l. calm-zero W (body_at S.bodies q) (G.all.calls q) (G.ret q) (G.each q) (G.built q);
        words = words;
      }

  -- a pulse comes at a, and up to b no other
  module _ (σ : Store) (a b : ℕ) (T : Standing σ a) (since : a ≤ b) (begins : Pulse S.pulse s a (suc b)) where
    abbrev e : ℕ
    e = suc b

    u : ℕ
    u = b - a

    now : a + u ≡ b
    unfolding u
    now = omega arith

    -- a call's delay is at least the gap: until then no body starts
    rests : (c : ℕ) → a ≤ c → c ≤ a + gap S.pulse → (q : ℕ) → q < length S.bodies → BodyRests W q a c
    rests c l k q v =
        bodies-rest W U.procs 0 g a c (λ q v i. T.idle q v) (λ t i j. silent t)
        (λ q v i t i₁ j. hush W S.main paced s f g circuit a T.calm q t i₁ (omega arith)) l q v (omega arith)

    settled : Settled W U.procs a e
    settled =
        let n = gap S.pulse in
        record {
          idle = λ q v k. (rests (a + n) (omega arith) (omega arith) q v).calm;
          low = λ q v x t l k k'. (rests t l k q v).clocks x t l (omega arith);
          sofar = λ q v t l k.
              sofar-less W (body_at S.bodies q) (G.all.calls q) (G.ret q) (G.each q) (G.built q) (a + n) t l
              (calm-sofar W (body_at S.bodies q) (G.all.calls q) (G.ret q) (G.each q) (G.built q) (a + n)
              (rests (a + n) (omega arith) (omega arith) q v).calm);
        }

    ready : Ready W S.main U σ (Calm W S.main s f g circuit) a e
    ready =
        record {
          owns = record { mine = λ x t. tt; reach = λ q z. below S A (length S.bodies) S.main A.main.earlier q z };
          calm = T.calm;
          settled = settled;
          words = λ x i. T.words x;
        }

    -- every word that was used had been held since its pulse entered the delay, and no line has held two pulses, in the main statement's circuit and in
    -- the bodies'
    pub stands-sofar : Sofar W S.main s f g circuit (suc b) × ((q : ℕ) → q < length S.bodies → BodySofar W q (suc b))
    unfolding u
    stands-sofar =
        rw now at
        (sofar-at W S.main paced apart enclosed (lone-main S A) U σ s f g circuit a e ready begins (follows a e) (λ t l h. silent t) u
        (omega (arith, now)))

    -- that no line has, alone
    pub stands-lines : Lined W S.main s f g circuit (suc b)
        × ((q : ℕ) → q < length S.bodies → Lined W (body_at S.bodies q) (G.all.calls q) (G.ret q) (G.each q) (G.built q) (suc b))
    stands-lines = (
      sofar-lines W S.main s f g circuit (suc b) stands-sofar.0,
      λ q l. sofar-lines W (body_at S.bodies q) (G.all.calls q) (G.ret q) (G.each q) (G.built q) (suc b) (stands-sofar.1 q l),
    )

    pub stands-finish : f b ≡ due (imperative S.pulse) S.pulse (meaning S) σ (b - a)
    unfolding u due
    stands-finish =
        rw now at
        (finish-at W S.main paced apart enclosed (lone-main S A) U σ s f g circuit a e ready begins (follows a e) (λ t l h. silent t) u
        (omega (arith, now)))
        ∙ ap (shows_at S.pulse u) (same σ u)

    -- before the end something is in flight
    pub stands-alive : run (imperative S.pulse) (b - a) (meaning S) σ ≡ still → Resting W S.main s f g circuit (suc b) → ⊥
    unfolding u
    stands-alive p r =
        let l : a + u < e = omega (arith, now) in
        alive-at W S.main paced apart enclosed (lone-main S A) U σ s f g circuit a e ready begins (follows a e) (λ t l h. silent t) u l
        (same σ u ∙ p) (rw now (rests-calm W S.main s f g circuit (suc b) r stands-sofar.0))

    -- from the end on
    module _ (t : ℕ) (σ' : Store) (p : run (imperative S.pulse) t (meaning S) σ ≡ ended t σ') (past : a + t ≤ b) where
      pub stands-words : (x : ℕ) → G.m b x ≡ σ' x
      stands-words x =
          rw now at
          (words-after W S.main paced apart enclosed (lone-main S A) U σ s f g circuit a e ready begins (follows a e) (λ t l h. silent t) at_end
          t σ' (same σ t ∙ p) u x (omega (arith, now)) (omega (arith, now)) tt)

      -- the words stay, since no clock is high at b
      words-next : (x : ℕ) → G.m (suc b) x ≡ σ' x
      unfolding Mem latch
      words-next x =
          let D =
          done_at W S.main paced apart enclosed (lone-main S A) U σ s f g circuit a e ready begins (follows a e) (λ t l h. silent t) at_end t σ'
          (same σ t ∙ p) (omega arith) in
          let low : G.all.clk (owner x) b ≡ false =
          (follows b b).low (owner x) tt b (omega arith) (omega arith) (D.low (owner x) b past (omega arith))
          (λ q v.
          pause-low W U g (a + t) b e (omega arith) D.settled (λ t l h. silent t) (λ q t l h. D.called q t l (omega arith)) q v (owner x) b past
          (omega arith)) in
          G.mem b x
          ∙ ap (λ (c : Bool). latch c (G.all.clk (owner x) (suc b)) (hits x (G.all.adr (owner x) b)) (G.all.dat (owner x) b) (G.m b x)) low
          ∙ stands-words x

    -- a gap after the end
    module _ (t : ℕ) (σ' : Store) (p : run (imperative S.pulse) t (meaning S) σ ≡ ended t σ') (past : a + t + gap S.pulse ≤ suc b) where
      calm-next : Calm W S.main s f g circuit (suc b) × ((q : ℕ) → q < length S.bodies → Idle W q (suc b))
      calm-next =
          rests-after W S.main paced apart enclosed (lone-main S A) U σ s f g circuit a e ready begins (follows a e) (λ t l h. silent t) at_end
          t σ' (same σ t ∙ p) past

      pub stands-rest : Resting W S.main s f g circuit (suc b)
          × ((q : ℕ) → q < length S.bodies → Resting W (body_at S.bodies q) (G.all.calls q) (G.ret q) (G.each q) (G.built q) (suc b))
      stands-rest = (
        calm-rests W S.main s f g circuit (suc b) calm-next.0,
        λ q l. calm-rests W (body_at S.bodies q) (G.all.calls q) (G.ret q) (G.each q) (G.built q) (suc b) (calm-next.1 q l),
      )

      -- a new run may begin
      pub stands-again : Standing σ' (suc b)
      stands-again =
          let g = gap-least S.pulse A.pulse.0 in
          record {
            calm = calm-next.0;
            idle = calm-next.1;
            words = words-next t σ' p (omega (arith, g, A.pulse.0));
          }
