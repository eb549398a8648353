-- What a circuit does from a start pulse of w instants, up to a horizon, beside what the rules say; and the lemma that carries every composite,
-- `launch`. K is that nothing is in flight in its cells, L that what they have seen so far is in order. Assumes nothing.
use Rattle.std.specs.Prelude.{ℕ, zero, suc, ◌+◌, ◌-◌, ◌≤◌, ◌<◌, ◌≡◌, refl, Bool, true, false}
use Rattle.std.proofs.Common.{◌∙◌, ap, subst, arith}
use Rattle.model.specs.Program.{Code}
use Rattle.model.specs.Rules.{Store, owner, Run, still, Way, at_end, at_exit, done}
use Rattle.model.specs.Circuit.{Sig}
use Rattle.laws.specs.Refusals.Laws.{by_le}
use Rattle.theory.specs.Control.Signal.{Quiet, glue, creep}
use Rattle.laws.specs.Rules.Laws.{still_before, still-below}
use Rattle.model.specs.Program.{gap}
use Rattle.theory.specs.Control.Pulses.{Pulse, Shows, pulse-less, shows-from}
use Rattle.theory.specs.Control.Wiring.{Gives}
use Rattle.theory.specs.Control.World.{World, Built, Paced, goes, steadily}
use Rattle.theory.specs.Control.Memories.{Follow}
use Rattle.theory.specs.Control.Calm.{Calm, Sofar, calm-sofar}
use Rattle.theory.specs.Control.Rest.{rest}
use Rattle.theory.specs.Control.Bodies.{Owned, BodySofar, Owns, SilentAt, Follows, within, Settled, settled-less, settled-more, pause-follow, pause-words}

-- The statement -------------------------------------------------------------------------------------------------------------------------

-- at a U's variables, and the elements of its arrays, have the words σ
abbrev pub Words : World → Owned → Store → ℕ → Type 0
Words W U σ a = (x : ℕ) → U.vars (owner x) → W.m a x ≡ σ x

-- in the w instants from c on, before e, their words stay
abbrev pub Hold : World → Owned → ℕ → ℕ → Type 0
Hold W U c e = (x : ℕ) → U.vars (owner x) → (t : ℕ) → c ≤ t → t < c + W.w → t < e → W.m t x ≡ W.m c x

-- from w instants after a to a gap after c, before e, only the part and U's bodies start U's bodies
abbrev pub Silent : World → Owned → Gives → ℕ → ℕ → ℕ → Type 0
Silent W U g a c e = (t : ℕ) → a + W.w ≤ t → t < c + gap W.w → t < e → SilentAt W U.procs g t

-- P may be started at a: it is calm, and its bodies, which may still be leaving, clock nothing and will be calm a gap later, if that is before e
pub record Ready (W : World) (P : Code) (U : Owned) (σ : Store) (K : ℕ → Type 0) (a e : ℕ) : Type 0 where
  pub owns : Owns W P U
  pub calm : K a
  pub settled : Settled W U.procs a e
  pub words : Words W U σ a

ready-less : {W : World} {P : Code} {U : Owned} {σ : Store} {K : ℕ → Type 0} {a e e' : ℕ} → e' ≤ e → Ready W P U σ K a e → Ready W P U σ K a e'
ready-less {W = W} {U = U} {a = a} {e = e} {e' = e'} o R =
    record { owns = R.owns; calm = R.calm; settled = settled-less W U.procs a e e' o R.settled; words = R.words }

-- P gets a pulse from a on, and before e no other. Up to c its variables follow only what P and its bodies give; in the w instants from c on, before
-- e, they stay. Its bodies are started by P and by themselves only, up to a gap after c.
pub record Begins (W : World) (P : Code) (U : Owned) (σ : Store) (K : ℕ → Type 0) (s : Sig) (g : Gives) (a c e : ℕ) : Type 0 where
  pub ready : Ready W P U σ K a e
  pub pulse : Pulse W.w s a e
  pub follow : Follows W U g a c
  pub silent : Silent W U g a c e
  pub hold : Hold W U c e

-- what its surroundings leave to a part from a on
pub record Free (W : World) (U : Owned) (g : Gives) (σ : Store) (a c e : ℕ) : Type 0 where
  pub settled : Settled W U.procs a e
  pub words : Words W U σ a
  pub follow : Follows W U g a c
  pub silent : Silent W U g a c e
  pub hold : Hold W U c e

pub free : {W : World} {P : Code} {U : Owned} {σ : Store} {K : ℕ → Type 0} {s : Sig} {g : Gives} {a c e : ℕ} → Begins W P U σ K s g a c e
    → Free W U g σ a c e
free B = record { settled = B.ready.settled; words = B.ready.words; follow = B.follow; silent = B.silent; hold = B.hold }

-- the same from a later instant on, where its bodies are settled and its words are σ'
pub free-later : {W : World} {U : Owned} {g : Gives} {σ : Store} {a c e : ℕ} (a' : ℕ) (σ' : Store) → a ≤ a' → Settled W U.procs a' e → Words W U σ' a'
    → Free W U g σ a c e → Free W U g σ' a' c e
free-later {W = W} {U = U} {g = g} {a = a} {c = c} a' σ' o S v F =
    record {
      settled = S;
      words = v;
      follow = within W U g a c a' c o (omega arith) F.follow;
      silent = λ t l k k'. F.silent t (omega arith) k k';
      hold = F.hold;
    }

-- what the finish and the exit signal show when P is done in this way
abbrev pub at_finish : Way → Bool
at_finish at_end = true
at_finish at_exit = false

abbrev pub at_out : Way → Bool
at_out at_end = false
at_out at_exit = true

-- P is done at c, in this way, with the words σ: its finish, or its exit signal, is high on [c, c + w), its clocks are low from c on, it calls nothing
-- from c + w on, and a gap after c nothing is in flight, in its bodies neither
pub record Done (way : Way) (W : World) (U : Owned) (σ : Store) (K L : ℕ → Type 0) (f : Sig) (g : Gives) (a c e : ℕ) : Type 0 where
  pub fin : Shows W.w (at_finish way) f a c e
  pub out : Shows W.w (at_out way) g.out a c e
  pub low : (x : ℕ) → Quiet (g.clk x) c (suc e)
  pub called : (q : ℕ) → Quiet (g.calls q) (c + W.w) (suc e)
  pub words : Words W U σ c
  pub sofar : L e
  pub calm : c + gap W.w ≤ e → K e
  pub settled : Settled W U.procs c e

-- up to c nothing has come, and something is in flight; what has been so far is in order, in P and in its bodies
pub record Going (W : World) (U : Owned) (K L : ℕ → Type 0) (f : Sig) (g : Gives) (a c : ℕ) : Type 0 where
  pub fin : Quiet f a (suc c)
  pub out : Quiet g.out a (suc c)
  pub sofar : L (suc c)
  pub alive : K (suc c) → ⊥
  pub bodies : (q : ℕ) → U.procs q → BodySofar W q (suc c)

pub going-at : {W : World} {U : Owned} {K L : ℕ → Type 0} {f : Sig} {g : Gives} {a c c' : ℕ} → c ≡ c' → Going W U K L f g a c → Going W U K L f g a c'
going-at {W = W} {U = U} {K = K} {L = L} {f = f} {g = g} {a = a} q G = subst (λ (k : ℕ). Going W U K L f g a k) q G

-- up to the horizon u, which is the instant c, the circuit does as the run r says; and if it is done there, also on to e
pub record Does (W : World) (U : Owned) (r : Run) (K L : ℕ → Type 0) (f : Sig) (g : Gives) (a c e u : ℕ) : Type 0 where
  pub goes_on : r ≡ still → Going W U K L f g a c
  pub ends : (way : Way) (σ' : Store) → r ≡ done way u σ' → Done way W U σ' K L f g a c e

abbrev pub RunOf : World → Code → Type 1
RunOf W P =
    (U : Owned) (σ : Store) (s f : Sig) (g : Gives) (n : Built W P s f g) (a c e u : ℕ) → a + u ≡ c → c < e
    → Begins W P U σ (Calm W P s f g n) s g a c e → Does W U (goes W u P σ) (Calm W P s f g n) (Sofar W P s f g n) f g a c e u

-- the same as far as the gap
abbrev pub ShortOf : World → Code → Type 1
ShortOf W P =
    (U : Owned) (σ : Store) (s f : Sig) (g : Gives) (n : Built W P s f g) (a c e u : ℕ) → a + u ≡ c → c < e → e ≤ c + gap W.w
    → Begins W P U σ (Calm W P s f g n) s g a c e → Does W U (goes W u P σ) (Calm W P s f g n) (Sofar W P s f g n) f g a c e u

-- and after the gap the circuit is at rest
pub onward : (W : World) (P : Code) → Paced W P → ShortOf W P → RunOf W P
onward W P timed does U σ s f g n a c e u h o B =
    by_le e (c + gap W.w) (λ k. does U σ s f g n a c e u h o k B)
    (λ k.
    let D : Does W U (goes W u P σ) (Calm W P s f g n) (Sofar W P s f g n) f g a c (c + gap W.w) u =
    does U σ s f g n a c (c + gap W.w) u h (omega arith) (omega arith)
    (record {
      ready = ready-less (omega arith) B.ready;
      pulse = pulse-less (omega arith) B.pulse;
      follow = B.follow;
      silent = λ t l j j'. B.silent t l j (omega arith);
      hold = λ x i t l j j'. B.hold x i t l j (omega arith);
    }) in
    record {
      goes_on = D.goes_on;
      ends = λ way σ' p.
          let E = D.ends way σ' p in
          let r =
          rest W P timed s f g n (c + gap W.w) e (E.calm (omega arith)) (omega arith) (λ t l j. B.pulse.low t (omega arith) j) in
          record {
            fin = record {
              quiet = E.fin.quiet;
              level = λ t l j j'. E.fin.level t l j (omega arith);
              low = λ t l j. by_le (c + gap W.w) t (λ q. r.fin t q j) (λ q. E.fin.low t l q);
            };
            out = record {
              quiet = E.out.quiet;
              level = λ t l j j'. E.out.level t l j (omega arith);
              low = λ t l j. by_le (c + gap W.w) t (λ q. r.out t q j) (λ q. E.out.low t l q);
            };
            low = λ x t l j. by_le (c + gap W.w) t (λ q. r.clocks x t q j) (λ q. E.low x t l (omega arith));
            called = λ x t l j. by_le (c + gap W.w) t (λ q. r.called x t q j) (λ q. E.called x t l (omega arith));
            words = E.words;
            sofar = calm-sofar W P s f g n e r.calm;
            calm = λ q. r.calm;
            settled = settled-more W U.procs c e E.settled;
          };
    })

-- Done in another way that is the same
pub in-way : {way way' : Way} {W : World} {U : Owned} {σ : Store} {K L : ℕ → Type 0} {f : Sig} {g : Gives} {a c e : ℕ} → way ≡ way'
    → Done way W U σ K L f g a c e → Done way' W U σ K L f g a c e
in-way {W = W} {U = U} {σ = σ} {K = K} {L = L} {f = f} {g = g} {a = a} {c = c} {e = e} q D =
    subst (λ (way : Way). Done way W U σ K L f g a c e) q D

-- What is known of some cells is known of others
pub done-as : {way : Way} {W : World} {U : Owned} {σ : Store} {K L : ℕ → Type 0} {f : Sig} {g : Gives} {a c e : ℕ} (K' L' : ℕ → Type 0)
    → (c + gap W.w ≤ e → K e → K' e) → (L e → L' e) → Done way W U σ K L f g a c e → Done way W U σ K' L' f g a c e
done-as K' L' k l D =
    record {
      fin = D.fin;
      out = D.out;
      low = D.low;
      called = D.called;
      words = D.words;
      sofar = l D.sofar;
      calm = λ o. k o (D.calm o);
      settled = D.settled;
    }

pub going-as : {W : World} {U : Owned} {K L : ℕ → Type 0} {f : Sig} {g : Gives} {a c : ℕ} (K' L' : ℕ → Type 0) → (K' (suc c) → K (suc c))
    → (L (suc c) → L' (suc c)) → Going W U K L f g a c → Going W U K' L' f g a c
going-as K' L' k l G = record { fin = G.fin; out = G.out; sofar = l G.sofar; alive = λ x. G.alive (k x); bodies = G.bodies }

-- The same, from an earlier instant on
pub done-from : {way : Way} {W : World} {U : Owned} {σ : Store} {K L : ℕ → Type 0} {f : Sig} {g : Gives} {a a' c e : ℕ}
    → Quiet f a a' → Quiet g.out a a' → Done way W U σ K L f g a' c e → Done way W U σ K L f g a c e
done-from p q D =
    record {
      fin = shows-from p D.fin;
      out = shows-from q D.out;
      low = D.low;
      called = D.called;
      words = D.words;
      sofar = D.sofar;
      calm = D.calm;
      settled = D.settled;
    }

pub going-from : {W : World} {U : Owned} {K L : ℕ → Type 0} {f : Sig} {g : Gives} {a a' c : ℕ}
    → Quiet f a a' → Quiet g.out a a' → Going W U K L f g a' c → Going W U K L f g a c
going-from {f = f} {g = g} {a = a} {a' = a'} {c = c} p q G =
    record {
      fin = glue f a a' (suc c) p G.fin;
      out = glue g.out a a' (suc c) q G.out;
      sofar = G.sofar;
      alive = G.alive;
      bodies = G.bodies;
    }

-- While a part that has begun calls nothing, up to b, its words follow it alone
pub follow-to : {W : World} {U : Owned} {g : Gives} {σ : Store} {a c e : ℕ} (b : ℕ) → b ≤ c → c < e → Free W U g σ a c e
    → ((q : ℕ) → Quiet (g.calls q) (a + W.w) b) → Follow W U.vars g a b
follow-to {W = W} {U = U} {g = g} {a = a} {c = c} {e = e} b o o' F off =
    pause-follow W U g a b e (omega arith) F.settled (λ t l k. F.silent t l (omega arith) (omega arith)) off
    (within W U g a c a b (omega arith) o F.follow)

-- A part that is done at c and is seen to leave up to e: its words stay as far as what it owns follows it alone
pub words-stay : {way : Way} {W : World} {U : Owned} {σ : Store} {K L : ℕ → Type 0} {f : Sig} {g : Gives} {a c e : ℕ} → Done way W U σ K L f g a c e
    → (b : ℕ) → c ≤ b → b ≤ e → Follows W U g c b → ((t : ℕ) → c + W.w ≤ t → t < b → SilentAt W U.procs g t)
    → (x : ℕ) → U.vars (owner x) → W.m b x ≡ W.m c x
words-stay {W = W} {U = U} {g = g} {c = c} {e = e} E b o o' F silent x i =
    pause-words W U g c b e o' E.settled silent (λ q t l k. E.called q t l (omega arith)) o F (λ x t l k. E.low x t l (omega arith)) x i

-- and on to e, if they stay in the w instants from b on
pub words_last : {way : Way} {W : World} {U : Owned} {σ : Store} {K L : ℕ → Type 0} {f : Sig} {g : Gives} {a c e : ℕ} → Done way W U σ K L f g a c e
    → (b j : ℕ) → c ≤ b → c ≤ e → e < j → Follows W U g c b → ((t : ℕ) → c + W.w ≤ t → t < b → t < j → SilentAt W U.procs g t) → Hold W U b j
    → (x : ℕ) → U.vars (owner x) → e < c + W.w → W.m e x ≡ W.m c x
words_last {W = W} {U = U} {g = g} {c = c} {e = e} E b j o o₁ o' F silent hold x i k =
    by_le e b
    (λ q. words-stay E e o₁ (omega arith) (within W U g c b c e (omega arith) q F) (λ t l h. silent t l (omega arith) (omega arith)) x i)
    (λ q. hold x i e (omega arith) (omega arith) o' ∙ words-stay E b o (omega arith) F (λ t l h. silent t l h (omega arith)) x i)

-- A part that is started at a, of which the surroundings stay out as long as it has not ended --------------------------------------------

-- P, which has been seen to leave up to e: up to there its start has no other pulse, its words stay, and its bodies are not started from outside
abbrev pub Stays : World → Owned → Sig → Gives → ℕ → ℕ → ℕ → Type 0
Stays W U s g a c e =
    Pulse W.w s a (suc e) × ((x : ℕ) → U.vars (owner x) → e < c + W.w → W.m e x ≡ W.m c x)
    × (a + W.w ≤ e → e < c + gap W.w → SilentAt W U.procs g e)

-- j is the last horizon
pub record Launched (W : World) (P : Code) (U : Owned) (σ : Store) (K L : ℕ → Type 0) (s f : Sig) (g : Gives) (a j u : ℕ) : Type 0 where
  pub goes_on : goes W u P σ ≡ still → Going W U K L f g a (a + u)
  -- on to e, if the surroundings stay out as long as it has been seen to leave
  pub ends : (way : Way) (t : ℕ) (σ' : Store) → goes W u P σ ≡ done way t σ' → (e : ℕ) → a + t < e → e ≤ j
      → ((e' : ℕ) → a + t < e' → e' < e → Done way W U σ' K L f g a (a + t) e' → Stays W U s g a (a + t) e')
      → Done way W U σ' K L f g a (a + t) e

module _ (W : World) (P : Code) (timed : Paced W P) (does : RunOf W P) (U : Owned) (σ : Store) (s f : Sig) (g : Gives) (n : Built W P s f g)
    (a j u : ℕ) (last : a + u < j) (ready : Ready W P U σ (Calm W P s f g n) a j)
    (cause : (v : ℕ) → v ≤ u → Quiet f a (a + v)
    → Pulse W.w s a (suc (a + v)) × Follows W U g a (a + v) × ((t : ℕ) → a + W.w ≤ t → t ≤ a + v → SilentAt W U.procs g t)) where
  launch-to : (v : ℕ) → v ≤ u → Quiet f a (a + v) → Does W U (goes W v P σ) (Calm W P s f g n) (Sofar W P s f g n) f g a (a + v) (suc (a + v)) v
  launch-to v o q =
      let c = cause v o q in
      does U σ s f g n a (a + v) (suc (a + v)) v refl (omega arith)
      (record {
        ready = ready-less (omega arith) ready;
        pulse = c.0;
        follow = c.1;
        silent = λ t l k h. c.2 t l (omega arith);
        hold = λ x i t l j k. ap (λ (n : ℕ). W.m n x) (omega arith);
      })

  launch-goes-on : goes W u P σ ≡ still → Quiet f a (suc (a + u))
  launch-goes-on p =
      creep f a (suc (a + u))
      (λ v h q.
      ((launch-to v (omega arith) q).goes_on (still-below (λ k. goes W k P σ) (steadily W P timed σ) u v p (omega arith))).fin
      (a + v) (omega arith) (omega arith))

  module _ (way : Way) (t : ℕ) (σ' : Store) (o : t ≤ u) (p : goes W t P σ ≡ done way t σ') (q : Quiet f a (a + t)) (e : ℕ) (o' : e ≤ j)
      (more : (e' : ℕ) → a + t < e' → e' < e → Done way W U σ' (Calm W P s f g n) (Sofar W P s f g n) f g a (a + t) e' → Stays W U s g a (a + t) e') where
    extend : (v : ℕ) → a + t + v < e
        → Done way W U σ' (Calm W P s f g n) (Sofar W P s f g n) f g a (a + t) (suc (a + t + v)) × Hold W U (a + t) (suc (a + t + v)) × Silent W U g a (a + t) (suc (a + t + v))
    extend zero l =
        let z : suc (a + t) ≡ suc (a + t + 0) = omega arith in (
          subst (λ (k : ℕ). Done way W U σ' (Calm W P s f g n) (Sofar W P s f g n) f g a (a + t) k) z ((launch-to t o q).ends way σ' p),
          λ x i k l₁ l₂ l₃. ap (λ (n : ℕ). W.m n x) (omega arith),
          λ k l₁ l₂ l₃. (cause t o q).2 k l₁ (omega arith),
        )
    extend (suc v) l =
        let i = extend v (omega arith) in
        let z : suc (a + t + v) ≡ a + t + suc v = omega arith in
        let E : Done way W U σ' (Calm W P s f g n) (Sofar W P s f g n) f g a (a + t) (a + t + suc v) = subst (λ (k : ℕ). Done way W U σ' (Calm W P s f g n) (Sofar W P s f g n) f g a (a + t) k) z i.0 in
        let c = more (a + t + suc v) (omega arith) l E in
        let hold : Hold W U (a + t) (suc (a + t + suc v)) =
        λ x j k l₁ l₂ l₃.
        by_le (a + t + suc v) k
        (λ r. let y : a + t + suc v ≡ k = omega arith in subst (λ (k : ℕ). W.m k x ≡ W.m (a + t) x) y (c.1 x j (omega arith)))
        (λ r. i.1 x j k l₁ l₂ (omega arith)) in
        let silent : Silent W U g a (a + t) (suc (a + t + suc v)) =
        λ k l₁ l₂ l₃.
        by_le (a + t + suc v) k
        (λ r. let y : a + t + suc v ≡ k = omega arith in subst (λ (k : ℕ). SilentAt W U.procs g k) y (c.2 (omega arith) (omega arith)))
        (λ r. i.2 k l₁ l₂ (omega arith)) in (
          (does U σ s f g n a (a + t) (suc (a + t + suc v)) t refl (omega arith)
              (record { ready = ready-less (omega arith) ready; pulse = c.0; follow = (cause t o q).1; silent = silent; hold = hold })
              ).ends way σ' p,
          hold,
          silent,
        )

  pub launch : Launched W P U σ (Calm W P s f g n) (Sofar W P s f g n) s f g a j u
  launch =
      record {
        goes_on = λ p. (launch-to u (omega arith) (λ t l k. launch-goes-on p t l (omega arith))).goes_on p;
        ends = λ way t σ' p e l l' more.
            let i = steadily W P timed σ u way t σ' p in
            let q : Quiet f a (a + t) =
            creep f a (a + t)
            (λ v h q.
            ((launch-to v (omega (arith, i.0)) q).goes_on
            (still_before (λ k. goes W k P σ) (steadily W P timed σ) u way t v σ' p (omega arith))
            ).fin (a + v) (omega arith) (omega arith)) in
            let z : suc (a + t + (e - suc (a + t))) ≡ e = omega arith in
            subst (λ (k : ℕ). Done way W U σ' (Calm W P s f g n) (Sofar W P s f g n) f g a (a + t) k) z
            (extend way t σ' i.0 (i.1 t (omega arith)) q e l' more (e - suc (a + t)) (omega arith)).0;
      }
