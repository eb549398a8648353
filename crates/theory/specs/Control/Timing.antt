-- The timing theorem: from a start pulse of w instants at any instant at which nothing is in flight, a circuit built by the scheme does exactly what the
-- program's own rules say, up to any horizon before which no other pulse comes.
-- Assumes nothing.
use Rattle.std.specs.Prelude.{ℕ, zero, suc, ◌+◌, ◌≤◌, ◌<◌, ◌≡◌, refl, Bool, true, ◌||◌}
use Rattle.std.proofs.Math.Path.{sym}
use Rattle.std.proofs.Common.{◌∙◌, ap, arith, eq-eqb, lt-ltb, le-ltb}
use Rattle.std.proofs.Math.Bool.{or-true}
use Rattle.model.specs.Program.{Code, ok, tick, assign, assign_elem, seq, par, ite, while, repeat, loop, exit, call}
use Rattle.model.specs.Procedures.{inline, reaches}
use Rattle.model.specs.Circuit.{Sig}
use Rattle.model.specs.Rules.{Store, owner, still, Way, at_end, done, at_exit, shows_at}
use Rattle.laws.specs.Refusals.Laws.{by_le}
use Rattle.laws.specs.Program.Fit.{Separate, Inside}
use Rattle.laws.specs.Program.Admitted.{Lone}
use Rattle.laws.specs.Rules.Laws.{by-run, by_runs}
use Rattle.model.specs.Program.{gap}
use Rattle.theory.specs.Control.Pulses.{Pulse, pulse-less, shows-none}
use Rattle.theory.specs.Control.Wiring.{Gives}
use Rattle.theory.specs.Control.World.{World, Built, means, Paced, goes, steadily}
use Rattle.theory.specs.Control.Calm.{Calm, Sofar, sofar-less}
use Rattle.theory.specs.Control.Bodies.{Owned, Idle, BodySofar, SilentAt, Follows, within, pause-rests, pause-sofar}
use Rattle.theory.specs.Control.Runs.{Ready, Done, RunOf, Launched, launch, onward, words-stay}
use Rattle.theory.specs.Control.Simple.{run_ok, run-tick, run-exit, run-assign, run-elem}
use Rattle.theory.specs.Control.Sequence.{run-seq}
use Rattle.theory.specs.Control.If.{run-ite}
use Rattle.theory.specs.Control.Parallel.{run-par}
use Rattle.theory.specs.Control.While.{run-while}
use Rattle.theory.specs.Control.Repeat.{run-repeat}
use Rattle.theory.specs.Control.Loop.{run-loop}
use Rattle.theory.specs.Control.Calls.{run_call}

-- what either of two parts reaches
either-body : (W : World) (P Q : Code) → ((p : ℕ) → (reaches W.reach P p || reaches W.reach Q p) ≡ true → RunOf W (W.bodies p))
    → ((p : ℕ) → reaches W.reach P p ≡ true → RunOf W (W.bodies p)) × ((p : ℕ) → reaches W.reach Q p ≡ true → RunOf W (W.bodies p))
either-body W P Q h = (
  λ p z. h p (ap (λ (c : Bool). c || reaches W.reach Q p) z),
  λ p z. h p (ap (λ (c : Bool). reaches W.reach P p || c) z ∙ or-true (reaches W.reach P p)),
)

-- From any start pulse and up to any horizon, the circuit does as the rules say, if the bodies that it reaches do
does-code : (W : World) (P : Code) → ((p : ℕ) → reaches W.reach P p ≡ true → RunOf W (W.bodies p)) → Paced W P → Separate (means W P)
    → Inside (means W P) → Lone W.reach P → RunOf W P
unfolding inline reaches
does-code W ok b h k i n = onward W ok h (run_ok W)
does-code W (tick d) b h k i n = onward W (tick d) h (run-tick W d)
does-code W (assign d x e) b h k i n = onward W (assign d x e) h (run-assign W d x e h.0 h.1 h.2)
does-code W (assign_elem d j v e) b h k i n = onward W (assign_elem d j v e) h (run-elem W d j v e h.0 h.2 h.3)
does-code W (seq P Q) b h k i n =
    let c = either-body W P Q b in
    onward W (seq P Q) h
    (run-seq W P Q h.0 h.1 (does-code W P c.0 h.0 k.0 i.0 n.0) (does-code W Q c.1 h.1 k.1 i.1 n.1))
does-code W (par P Q) b h k i n =
    let c = either-body W P Q b in
    onward W (par P Q) h
    (run-par W P Q h.0 h.1 k.2.0 k.2.1 i.2.0 i.2.1 n.2 (does-code W P c.0 h.0 k.0 i.0 n.0)
    (does-code W Q c.1 h.1 k.1 i.1 n.1))
does-code W (ite d e P Q) b h k i n =
    let c = either-body W P Q b in
    onward W (ite d e P Q) h
    (run-ite W d e h.1 P Q h.2 h.3 (does-code W P c.0 h.2 k.2 i.2 n.2) (does-code W Q c.1 h.3 k.3 i.3 n.3))
does-code W (while d e P) b h k i n =
    onward W (while d e P) h (run-while W d e h.1 P h.0 h.2 (does-code W P b h.2 k.2 i.2 n.2))
does-code W (repeat d e P) b h k i n =
    onward W (repeat d e P) h (run-repeat W d e h.1 P h.0 h.2 (does-code W P b h.2 k.2 i.2 n.2))
does-code W (loop d P) b h k i n = onward W (loop d P) h (run-loop W d P h.0 h.1 (does-code W P b h.1 k.1 i.1 n.1))
does-code W exit b h k i n = onward W exit h (run-exit W)
does-code W (call d p) b h k i n =
    onward W (call d p) h (run_call W d p h.0 (b p (ap (λ (c : Bool). c || W.reach p p) (eq-eqb p p refl))))

-- a body reaches only those before it
does-body : (W : World) (k p : ℕ) → p < k → RunOf W (W.bodies p)
does-body W zero p l = absurd (omega arith)
does-body W (suc k) p l =
    does-code W (W.bodies p) (λ q z. does-body W k q (omega (arith, W.lower p q z))) (W.timely p) (W.separate p) (W.inside p) (W.lone p)

pub does : (W : World) (P : Code) → Paced W P → Separate (means W P) → Inside (means W P) → Lone W.reach P → RunOf W P
does W P = does-code W P (λ p z. does-body W (suc p) p (omega arith))

-- A pulse from a on, with nothing in flight, and no other before e; on [a, e] what P owns follows what P and its bodies give. Of the rest nothing is
-- asked, and nothing is said.
module _ (W : World) (P : Code) (timed : Paced W P) (separate : Separate (means W P)) (inside : Inside (means W P))
    (lone : Lone W.reach P) (U : Owned) (σ : Store) (s f : Sig) (g : Gives)
    (n : Built W P s f g) (a e : ℕ) (ready : Ready W P U σ (Calm W P s f g n) a e) (pulse : Pulse W.w s a e) (follow : Follows W U g a e)
    (silent : (t : ℕ) → a + W.w ≤ t → t < e → SilentAt W U.procs g t) where
  launched : (u : ℕ) → a + u < e → Launched W P U σ (Calm W P s f g n) (Sofar W P s f g n) s f g a e u
  launched u l =
      launch W P timed (does W P timed separate inside lone) U σ s f g n a e u l ready
      (λ v o q. (
        pulse-less (omega arith) pulse,
        within W U g a e a (a + v) (omega arith) (omega arith) follow,
        λ t h k. silent t h (omega arith),
      ))

  -- where P is done by the rules, the circuit is
  pub done_at : (way : Way) (t : ℕ) (σ' : Store) → goes W t P σ ≡ done way t σ' → a + t < e
      → Done way W U σ' (Calm W P s f g n) (Sofar W P s f g n) f g a (a + t) e
  done_at way t σ' p l =
      (launched t l).ends way t σ' p e l (omega arith)
      (λ e' l' k E. (
        pulse-less (omega arith) pulse,
        λ x i y.
            words-stay E e' (omega arith) (omega arith) (within W U g a e (a + t) e' (omega arith) (omega arith) follow)
            (λ t h k'. silent t (omega arith) (omega arith)) x i,
        λ h k'. silent e' h k,
      ))

  -- the finish is high exactly on the w instants from the end on
  pub finish-at : (u : ℕ) → a + u < e → f (a + u) ≡ shows_at W.w u (goes W u P σ)
  unfolding shows_at
  finish-at u l =
      by_runs (goes W u P σ)
      (λ t σ' p.
      let i = steadily W P timed σ u at_end t σ' p in
      let E = done_at at_end t σ' (i.1 t (omega arith)) (omega (arith, i.0)) in
      (by_le (t + W.w) u (λ k. E.fin.low (a + u) (omega arith) l ∙ sym (le-ltb u (t + W.w) k))
      (λ k. E.fin.level (a + u) (omega (arith, i.0)) (omega arith) l ∙ sym (lt-ltb u (t + W.w) k)))
      ∙ sym (ap (shows_at W.w u) p))
      (λ t σ' p.
      let i = steadily W P timed σ u at_exit t σ' p in
      let E = done_at at_exit t σ' (i.1 t (omega arith)) (omega (arith, i.0)) in
      shows-none E.fin (a + u) (omega arith) l ∙ sym (ap (shows_at W.w u) p))
      (λ p. ((launched u l).goes_on p).fin (a + u) (omega arith) (omega arith) ∙ sym (ap (shows_at W.w u) p))

  -- from the end on the words are the last ones
  pub words-after : (way : Way) (t : ℕ) (σ' : Store) → goes W t P σ ≡ done way t σ' → (u x : ℕ) → t ≤ u → a + u < e → U.vars (owner x)
      → W.m (a + u) x ≡ σ' x
  words-after way t σ' p u x o l i =
      let E = done_at way t σ' p (omega arith) in
      words-stay E (a + u) (omega arith) (omega arith) (within W U g a e (a + t) (a + u) (omega arith) (omega arith) follow)
      (λ v h k. silent v (omega arith) (omega arith)) x i
      ∙ E.words x i

  -- a gap later nothing is in flight, so that a new pulse may come at e
  pub rests-after : (way : Way) (t : ℕ) (σ' : Store) → goes W t P σ ≡ done way t σ' → a + t + gap W.w ≤ e
      → Calm W P s f g n e × ((q : ℕ) → U.procs q → Idle W q e)
  rests-after way t σ' p l =
      let E = done_at way t σ' p (omega arith) in (
        E.calm l,
        λ q v.
            (pause-rests W U g (a + t) e e (omega arith) E.settled (λ v h k. silent v (omega arith) k)
            (λ q v h k. E.called q v h (omega arith)) l q v
            ).calm,
      )

  -- before the end something is
  pub alive-at : (u : ℕ) → a + u < e → goes W u P σ ≡ still → Calm W P s f g n (suc (a + u)) → ⊥
  alive-at u l p = ((launched u l).goes_on p).alive

  -- at every instant what has been so far is in order: words that were used were held, and with pulses of one instant no line has held two
  pub sofar-at : (u : ℕ) → a + u < e → Sofar W P s f g n (suc (a + u)) × ((q : ℕ) → U.procs q → BodySofar W q (suc (a + u)))
  sofar-at u l =
      by-run (goes W u P σ)
      (λ way t σ' p.
      let i = steadily W P timed σ u way t σ' p in
      let E = done_at way t σ' (i.1 t (omega arith)) (omega (arith, i.0)) in (
        sofar-less W P s f g n e (suc (a + u)) (omega arith) E.sofar,
        pause-sofar W U g (a + t) (suc (a + u)) e (omega arith) E.settled (λ v h k. silent v (omega arith) (omega arith))
            (λ q v h k. E.called q v h (omega arith)),
      ))
      (λ p. let G = (launched u l).goes_on p in (G.sofar, G.bodies))
