-- What the circuit of a sequence does. The second part begins while the first is still leaving. Assumes nothing.
use Rattle.std.specs.Prelude.{ℕ, suc, ◌+◌, ◌-◌, ◌≤◌, ◌<◌, ◌≡◌, ◌||◌}
use Rattle.std.proofs.Common.{sym, ◌∙◌, ap₂, subst, arith}
use Rattle.model.specs.Program.{Code, seq, touches}
use Rattle.model.specs.Procedures.{inline, reaches}
use Rattle.model.specs.Circuit.{Sig}
use Rattle.model.specs.Rules.{Store, owner, ended, still, run, Way, at_end, at_exit, done}
use Rattle.laws.specs.Refusals.Laws.{by_le}
use Rattle.laws.specs.Rules.Laws.{chain-done}
use Rattle.model.specs.Program.{gap}
use Rattle.theory.specs.Control.Ways.{at-time, chain-going}
use Rattle.theory.specs.Control.Signal.{Quiet, glue}
use Rattle.theory.specs.Control.Pulses.{pulse-less, pulse-firm, shows-pulse, shows-none, shows-off, shows-from, shows-is}
use Rattle.theory.specs.Control.Wiring.{Gives, Seq, Circuit, Each}
use Rattle.theory.specs.Control.World.{World, Built, Paced, goes, steadily}
use Rattle.theory.specs.Control.Memories.{Same, joined-swap, out-left, stays}
use Rattle.theory.specs.Control.Calm.{Calm, Sofar, calm-sofar, sofar-less, is-dull}
use Rattle.theory.specs.Control.Rest.{Rests, rest, hush}
use Rattle.theory.specs.Control.Surge.{surge}
use Rattle.theory.specs.Control.Bodies.{Owned, Owns, owns-both, SilentAt, Follows, within, alone, silent-beside, follows-beside}
use Rattle.theory.specs.Control.Runs.{Begins, Done, Going, going-at, Does, RunOf, ShortOf, Launched, launch, in-way}

module _ (W : World) (P Q : Code) (timedP : Paced W P) (timedQ : Paced W Q) (doesP : RunOf W P) (doesQ : RunOf W Q)
    (U : Owned) (σ : Store) (s f : Sig) (g : Gives) (n : Seq (Built W P) (Built W Q) s f g) where
  abbrev K₁ : ℕ → Type 0
  K₁ = Calm W P s n.mid n.g₁ n.left

  abbrev L₁ : ℕ → Type 0
  L₁ = Sofar W P s n.mid n.g₁ n.left

  abbrev K₂ : ℕ → Type 0
  K₂ = Calm W Q n.mid f n.g₂ n.right

  abbrev L₂ : ℕ → Type 0
  L₂ = Sofar W Q n.mid f n.g₂ n.right

  abbrev K : ℕ → Type 0
  K t = K₁ t × K₂ t

  abbrev L : ℕ → Type 0
  L t = L₁ t × L₂ t

  module _ (a c e u : ℕ) (h : a + u ≡ c) (o : c < e) (B : Begins W (seq P Q) U σ K s g a c e) where
    seq-owns : Owns W P U × Owns W Q U
    unfolding touches inline reaches
    seq-owns = owns-both W P Q U B.ready.owns.mine B.ready.owns.reach

    -- the second part waits for the first
    seq-waits : (b : ℕ) → a ≤ b → Quiet n.mid a b → Rests f n.g₂ K₂ a b
    seq-waits b o' q = rest W Q timedQ n.mid f n.g₂ n.right a b B.ready.calm.1 o' q

    -- while it does, the first part's bodies are not started by it
    seq-silent : (b t : ℕ) → a ≤ b → Quiet n.mid a b → a + W.w ≤ t → t ≤ b → t < c + gap W.w → t < e → SilentAt W U.procs n.g₁ t
    seq-silent b t o' q l k k' h =
        silent-beside W U n.g₁ n.g₂ g t n.joined (λ x. (seq-waits b o' q).called x t (omega arith) (omega arith)) (B.silent t l k' h)

    seq-first : Launched W P U σ K₁ L₁ s n.mid n.g₁ a e u
    seq-first =
        launch W P timedP doesP U σ s n.mid n.g₁ n.left a e u (omega arith)
        (record { owns = seq-owns.0; calm = B.ready.calm.0; settled = B.ready.settled; words = B.ready.words })
        (λ v o' q. (
          pulse-less (omega arith) B.pulse,
          follows-beside W U n.g₁ n.g₂ g a (a + v) n.joined (is-dull W Q n.mid f n.g₂ n.right)
              (seq-waits (a + v) (omega arith) q).clocks (within W U g a c a (a + v) (omega arith) (omega arith) B.follow),
          λ t l k. seq-silent (a + v) t (omega arith) q l k (omega arith) (omega arith),
        ))

    -- the first part leaves
    seq-leaves : (σ' : Store) → goes W u P σ ≡ done at_exit u σ' → Done at_exit W U σ' K L f g a c e
    seq-leaves σ' p =
        let E : Done at_exit W U σ' K₁ L₁ n.mid n.g₁ a c e =
        subst (λ (k : ℕ). Done at_exit W U σ' K₁ L₁ n.mid n.g₁ a k e) h
        (seq-first.ends at_exit u σ' p e (omega arith) (omega arith)
        (λ e' l k E. (
          pulse-less (omega arith) B.pulse,
          λ x i j. subst (λ (k : ℕ). W.m e' x ≡ W.m k x) (sym h) (B.hold x i e' (omega arith) (omega arith) k),
          λ l₁ l₂. seq-silent e' e' (omega arith) (shows-none E.fin) l₁ (omega arith) (omega arith) k,
        ))) in
        let r = seq-waits e (omega arith) (shows-none E.fin) in
        record {
          fin = shows-off (omega arith) (omega arith) r.fin;
          out = shows-is (omega arith) (omega arith) (λ t l k. out-left n.g₁ n.g₂ g n.joined t (r.out t l k)) E.out;
          low = λ x t l k. n.joined.clocks x t ∙ ap₂ ◌||◌ (E.low x t l k) (r.clocks x t (omega arith) k);
          called = λ x t l k. n.joined.called x t ∙ ap₂ ◌||◌ (E.called x t l k) (r.called x t (omega arith) k);
          words = E.words;
          sofar = (E.sofar, calm-sofar W Q n.mid f n.g₂ n.right e r.calm);
          calm = λ k. (E.calm k, r.calm);
          settled = E.settled;
        }

    module _ (t₁ : ℕ) (σ₁ : Store) (o₁ : t₁ ≤ u) (p₁ : goes W u P σ ≡ ended t₁ σ₁) where
      -- the second part's own clocks, once the first has ended and has been seen to leave
      seq-follow : (e' : ℕ) → Done at_end W U σ₁ K₁ L₁ n.mid n.g₁ a (a + t₁) e' → (b : ℕ) → b ≤ c → b ≤ e' → Follows W U n.g₂ (a + t₁) b
      seq-follow e' E b o₂ o₃ =
          follows-beside W U n.g₂ n.g₁ g (a + t₁) b (joined-swap n.g₁ n.g₂ g n.joined) (is-dull W P s n.mid n.g₁ n.left)
          (λ x t l k. E.low x t l (omega arith)) (within W U g a c (a + t₁) b (omega arith) o₂ B.follow)

      -- in the w instants after it the words stay: no clock of the second part falls
      seq-early : (e' : ℕ) → Done at_end W U σ₁ K₁ L₁ n.mid n.g₁ a (a + t₁) e' → (b : ℕ) → a + t₁ ≤ b → b ≤ c → b ≤ e' → b ≤ a + t₁ + W.w
          → Same W U.vars (a + t₁) (suc b)
      seq-early e' E b o₂ o₃ o₄ o₅ =
          stays W U.vars n.g₂ (a + t₁) b o₂
          (alone W U n.g₂ (a + t₁) b (seq-follow e' E b o₃ o₄) (λ q v x t l k. E.settled.low q v x t l (omega arith) (omega arith)))
          (λ k l l' q x i.
          (surge W Q timedQ n.mid f n.g₂ n.right (a + t₁) k (seq-waits (a + t₁) (omega arith) E.fin.quiet).calm l (omega arith)
          (pulse-firm k (omega arith) (omega arith) (shows-pulse E.fin)) (λ y r. q y (seq-owns.1.mine (owner y) r))).clocks x)

      seq-left : Done at_end W U σ₁ K₁ L₁ n.mid n.g₁ a (a + t₁) e
      seq-left =
          seq-first.ends at_end t₁ σ₁ p₁ e (omega arith) (omega arith)
          (λ e' l k E. (
            pulse-less (omega arith) B.pulse,
            λ x i j.
                by_le e' c (λ q. seq-early e' E e' (omega arith) q (omega arith) (omega arith) x i e' (omega arith) (omega arith))
                (λ q.
                B.hold x i e' (omega arith) (omega arith) k
                ∙ seq-early e' E c (omega arith) (omega arith) (omega arith) (omega arith) x i c (omega arith) (omega arith)),
            λ l₁ l₂.
                silent-beside W U n.g₁ n.g₂ g e' n.joined
                (λ x.
                hush W Q timedQ n.mid f n.g₂ n.right (a + t₁) (seq-waits (a + t₁) (omega arith) E.fin.quiet).calm x e' (omega arith) l₂)
                (B.silent e' l₁ (omega arith) k),
          ))

      seq-before : Rests f n.g₂ K₂ a (a + t₁)
      seq-before = seq-waits (a + t₁) (omega arith) seq-left.fin.quiet

      -- the first part does not leave
      seq_in : (t : ℕ) → a ≤ t → t < e → g.out t ≡ n.g₂.out t
      seq_in t l k = out-left n.g₂ n.g₁ g (joined-swap n.g₁ n.g₂ g n.joined) t (shows-none seq-left.out t l k)

      seq-second : Does W U (goes W (u - t₁) Q σ₁) K₂ L₂ f n.g₂ (a + t₁) c e (u - t₁)
      seq-second =
          doesQ U σ₁ n.mid f n.g₂ n.right (a + t₁) c e (u - t₁) (omega arith) o
          (record {
            ready = record { owns = seq-owns.1; calm = seq-before.calm; settled = seq-left.settled; words = seq-left.words };
            pulse = shows-pulse seq-left.fin;
            follow = seq-follow e seq-left c (omega arith) (omega arith);
            silent = λ t l k k'.
                silent-beside W U n.g₂ n.g₁ g t (joined-swap n.g₁ n.g₂ g n.joined) (λ x. seq-left.called x t l (omega arith))
                (B.silent t (omega arith) k k');
            hold = B.hold;
          })

      seq-goes-on : goes W (u - t₁) Q σ₁ ≡ still → Going W U K L f g a c
      seq-goes-on p =
          let G = seq-second.goes_on p in
          record {
            fin = glue f a (a + t₁) (suc c) seq-before.fin G.fin;
            out = λ t l k. seq_in t l (omega arith) ∙ glue n.g₂.out a (a + t₁) (suc c) seq-before.out G.out t l k;
            sofar = (sofar-less W P s n.mid n.g₁ n.left e (suc c) (omega arith) seq-left.sofar, G.sofar);
            alive = λ k. G.alive k.1;
            bodies = G.bodies;
          }

      seq-ends : (way : Way) (t₂ : ℕ) (σ₂ : Store) → t₁ + t₂ ≡ u → goes W (u - t₁) Q σ₁ ≡ done way t₂ σ₂ → Done way W U σ₂ K L f g a c e
      seq-ends way t₂ σ₂ z p =
          let y : t₂ ≡ u - t₁ = omega arith in
          let E₂ = seq-second.ends way σ₂ (at-time (goes W (u - t₁) Q σ₁) y p) in
          record {
            fin = shows-from seq-before.fin E₂.fin;
            out = shows-is (omega arith) (omega arith) seq_in (shows-from seq-before.out E₂.out);
            low = λ x t l k. n.joined.clocks x t ∙ ap₂ ◌||◌ (seq-left.low x t (omega arith) k) (E₂.low x t l k);
            called = λ x t l k. n.joined.called x t ∙ ap₂ ◌||◌ (seq-left.called x t (omega arith) k) (E₂.called x t l k);
            words = E₂.words;
            sofar = (seq-left.sofar, E₂.sofar);
            calm = λ k. (seq-left.calm (omega arith), E₂.calm k);
            settled = E₂.settled;
          }

    seq-first-going : goes W u P σ ≡ still → Going W U K L f g a c
    seq-first-going q =
        let G = going-at h (seq-first.goes_on q) in
        let r = seq-waits (suc c) (omega arith) G.fin in
        record {
          fin = r.fin;
          out = λ t l k. out-left n.g₁ n.g₂ g n.joined t (r.out t l k) ∙ G.out t l k;
          sofar = (G.sofar, calm-sofar W Q n.mid f n.g₂ n.right (suc c) r.calm);
          alive = λ k. G.alive k.0;
          bodies = G.bodies;
        }

    seq-does : Does W U (goes W u (seq P Q) σ) K L f g a c e u
    unfolding run inline
    seq-does =
        record {
          goes_on = λ p.
              chain-going (goes W u P σ) (λ t σ₁. goes W (u - t) Q σ₁) p
              (λ t₁ σ₁ q. seq-goes-on t₁ σ₁ (steadily W P timedP σ u at_end t₁ σ₁ q).0 q) seq-first-going;
          ends = λ way σ' p.
              chain-done (goes W u P σ) (λ t σ₁. goes W (u - t) Q σ₁) p
              (λ t₁ σ₁ t₂ q q₁ q₂. seq-ends t₁ σ₁ (steadily W P timedP σ u at_end t₁ σ₁ q).0 q way t₂ σ' (sym q₂) q₁)
              (λ z q. in-way (sym z) (seq-leaves σ' q));
        }

pub run-seq : (W : World) (P Q : Code) → Paced W P → Paced W Q → RunOf W P → RunOf W Q → ShortOf W (seq P Q)
unfolding Circuit Each
run-seq W P Q timedP timedQ doesP doesQ U σ s f g n a c e u h o k B = seq-does W P Q timedP timedQ doesP doesQ U σ s f g n a c e u h o B
