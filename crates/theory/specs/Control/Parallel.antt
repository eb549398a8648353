-- What the circuit of a parallel does. Assumes nothing.
use Rattle.std.specs.Prelude.{ℕ, suc, ◌+◌, ◌≤◌, ◌<◌, max, ◌≡◌, Bool, true, false, ◌||◌}
use Rattle.std.proofs.Common.{sym, ◌∙◌, subst, arith}
use Rattle.std.proofs.Math.Path.{ap, ap₂}
use Rattle.model.specs.Word.{pick}
use Rattle.model.specs.Program.{Code, Stmt, par, writes, touches}
use Rattle.model.specs.Procedures.{inline, reaches}
use Rattle.model.specs.Rules.{imperative, Store, owner, over, kept, ended, run, at_end, still, both}
use Rattle.model.specs.Circuit.{Sig}
use Rattle.laws.specs.Refusals.Laws.{by_bool, by_le, not-both}
use Rattle.laws.specs.Program.Fit.{Apart, exits}
use Rattle.laws.specs.Rules.Laws.{both-still, both-done}
use Rattle.laws.specs.Rules.Uses.{unwritten, never-leaves, writes-touches, apart-unwritten}
use Rattle.model.specs.Program.{gap}
use Rattle.theory.specs.Control.Widths.{timely-formed}
use Rattle.theory.specs.Control.Pulses.{pulse-is, pulse-at, shows-pulse, shows-on, shows-off}
use Rattle.theory.specs.Control.Merge.{Empty, empty-swap, merged-left, merged-right}
use Rattle.theory.specs.Control.Meets.{Meets, meets, meets-swap}
use Rattle.theory.specs.Control.Wiring.{Gives, Par, Circuit, Each}
use Rattle.theory.specs.Control.World.{World, Built, means, Paced, goes, flat-paced}
use Rattle.theory.specs.Control.Memories.{joined-swap}
use Rattle.theory.specs.Control.Calm.{Calm, Sofar, is-inside}
use Rattle.theory.specs.Control.Bodies.{Owned, Owns, owns-both, Settled}
use Rattle.theory.specs.Control.Runs.{Words, Begins, free, Done, Does, RunOf, ShortOf, in-way}
use Rattle.theory.specs.Control.Sides.{Own, Side, side}

module _ (P Q : Stmt) (σ σ₁ σ₂ : Store) (x : ℕ) where
  kept-left : writes P (owner x) ≡ true → kept P Q σ σ₁ σ₂ x ≡ σ₁ x
  unfolding kept over
  kept-left p = ap (λ (b : Bool). pick b (σ₁ x) (pick (writes Q (owner x)) (σ₂ x) (σ x))) p

  kept-right : writes P (owner x) ≡ false → writes Q (owner x) ≡ true → kept P Q σ σ₁ σ₂ x ≡ σ₂ x
  unfolding kept over
  kept-right p q = ap₂ (λ (b c : Bool). pick b (σ₁ x) (pick c (σ₂ x) (σ x))) p q

  kept-neither : writes P (owner x) ≡ false → writes Q (owner x) ≡ false → kept P Q σ σ₁ σ₂ x ≡ σ x
  unfolding kept over
  kept-neither p q = ap₂ (λ (b c : Bool). pick b (σ₁ x) (pick c (σ₂ x) (σ x))) p q

module _ (W : World) (P Q : Code) (timedP : Paced W P) (timedQ : Paced W Q) (apartPQ : Apart (means W P) (means W Q)) (apartQP : Apart (means W Q) (means W P))
    (in_p : exits (means W P) ≡ false) (inQ : exits (means W Q) ≡ false)
    (lone : (q : ℕ) → reaches W.reach P q ≡ true → reaches W.reach Q q ≡ false) (doesP : RunOf W P) (doesQ : RunOf W Q)
    (U : Owned) (σ : Store) (s f : Sig) (g : Gives) (n : Par W.w (Built W P) (Built W Q) s f g)
  where
    abbrev K₁ : ℕ → Type 0
    K₁ = Calm W P s n.f₁ n.g₁ n.left

    abbrev L₁ : ℕ → Type 0
    L₁ = Sofar W P s n.f₁ n.g₁ n.left

    abbrev K₂ : ℕ → Type 0
    K₂ = Calm W Q s n.f₂ n.g₂ n.right

    abbrev L₂ : ℕ → Type 0
    L₂ = Sofar W Q s n.f₂ n.g₂ n.right

    abbrev K : ℕ → Type 0
    K t = Empty W.w n.f₁ n.f₂ t × K₁ t × K₂ t

    abbrev L : ℕ → Type 0
    L t = Unit {0} × L₁ t × L₂ t

    -- a body that Q reaches is not reached by P, so each body is one side's own
    lone₂ : (q : ℕ) → reaches W.reach Q q ≡ true → reaches W.reach P q ≡ false
    lone₂ q z = by_bool (reaches W.reach P q) (λ y. not-both z (lone q y)) (λ y. y)

    -- no exit leaves a side
    par-in : (t : ℕ) → g.out t ≡ false
    par-in t = n.joined.out t ∙ ap₂ ◌||◌ (is-inside W P s n.f₁ n.g₁ n.left in_p t) (is-inside W Q s n.f₂ n.g₂ n.right inQ t)

    -- so neither side leaves
    par-still : {A : Type 0} (u : ℕ) → both (kept (means W P) (means W Q) σ) (goes W u P σ) (goes W u Q σ) ≡ still → (goes W u P σ ≡ still → A)
        → (goes W u Q σ ≡ still → A) → A
    par-still u p =
        both-still (kept (means W P) (means W Q) σ) (goes W u P σ) (goes W u Q σ) p (λ t σ' q. never-leaves (imperative W.w) (means W P) in_p u t σ σ' q)
        (λ t σ' q. never-leaves (imperative W.w) (means W Q) inQ u t σ σ' q)

    module _ (a c e u : ℕ) (h : a + u ≡ c) (o : c < e) (short : e ≤ c + gap W.w) (B : Begins W (par P Q) U σ K s g a c e) where
      par-owns : Owns W P U × Owns W Q U
      unfolding touches inline reaches
      par-owns = owns-both W P Q U B.ready.owns.mine B.ready.owns.reach

      side₁ : Side W P Q U σ K₁ L₁ n.f₁ n.g₁ a c e u
      side₁ =
          side W P Q timedP doesP apartQP lone U σ s g n.f₁ n.g₁ n.left n.f₂ n.g₂ n.right n.joined a c e u h o B.ready.calm.1
          B.pulse par-owns.0 (free B)

      side₂ : Side W Q P U σ K₂ L₂ n.f₂ n.g₂ a c e u
      side₂ =
          side W Q P timedQ doesQ apartPQ lone₂ U σ s g n.f₂ n.g₂ n.right n.f₁ n.g₁ n.left (joined-swap n.g₁ n.g₂ g n.joined)
          a c e u h o B.ready.calm.2 B.pulse par-owns.1 (free B)

      module _ (t₁ : ℕ) (σ₁ : Store) (t₂ : ℕ) (σ₂ : Store) (y : u ≡ max t₁ t₂) (p₁ : goes W u P σ ≡ ended t₁ σ₁) (p₂ : goes W u Q σ ≡ ended t₂ σ₂) where
        E₁ : Done at_end W (Own W U Q) σ₁ K₁ L₁ n.f₁ n.g₁ a (a + t₁) e
        E₁ = side₁.ends t₁ σ₁ (omega arith) p₁

        E₂ : Done at_end W (Own W U P) σ₂ K₂ L₂ n.f₂ n.g₂ a (a + t₂) e
        E₂ = side₂.ends t₂ σ₂ (omega arith) p₂

        par-words : Words W U (kept (means W P) (means W Q) σ σ₁ σ₂) c
        par-words x i =
            by_bool (writes (means W Q) (owner x))
            (λ z.
            let v = owner x in
            let z' : writes (means W P) v ≡ false = apart-unwritten (means W P) (means W Q) apartPQ v (writes-touches (means W Q) v z) in
            (side₂.last t₂ σ₂ (omega arith) p₂).0 x (i, z') ∙ sym (kept-right (means W P) (means W Q) σ σ₁ σ₂ x z' z))
            (λ z.
            (side₁.last t₁ σ₁ (omega arith) p₁).0 x (i, z)
            ∙ by_bool (writes (means W P) (owner x)) (λ z'. sym (kept-left (means W P) (means W Q) σ σ₁ σ₂ x z'))
            (λ z'. unwritten (imperative W.w) (means W P) (timely-formed W.w (inline W.flat P) (flat-paced W P timedP)) x z' u at_end t₁ σ σ₁ p₁ ∙ sym (kept-neither (means W P) (means W Q) σ σ₁ σ₂ x z' z)))

        par-meets : Meets W.w n.f₁ n.f₂ a c e
        par-meets =
            by_le t₁ t₂
            (λ k.
            let q : a + t₂ ≡ c = omega arith in
            meets W.w n.f₁ n.f₂ W.pos a (a + t₁) c e short o (omega arith) (omega arith) B.ready.calm.0 E₁.fin.quiet
            (shows-pulse E₁.fin) (λ t l r. E₂.fin.quiet t l (omega arith)) (pulse-at q (shows-pulse E₂.fin)))
            (λ k.
            let q : a + t₁ ≡ c = omega arith in
            meets-swap W.w n.f₁ n.f₂ a c e
            (meets W.w n.f₂ n.f₁ W.pos a (a + t₂) c e short o (omega arith) (omega arith)
            (empty-swap W.w n.f₁ n.f₂ a B.ready.calm.0) E₂.fin.quiet (shows-pulse E₂.fin)
            (λ t l r. E₁.fin.quiet t l (omega arith)) (pulse-at q (shows-pulse E₁.fin))))

        par-settled : Settled W U.procs c e
        par-settled =
            let S₁ = (side₁.last t₁ σ₁ (omega arith) p₁).1 in
            let S₂ = (side₂.last t₂ σ₂ (omega arith) p₂).1 in
            record {
              idle = λ q v. by_bool (reaches W.reach Q q) (λ z. S₂.idle q (v, lone₂ q z)) (λ z. S₁.idle q (v, z));
              low = λ q v. by_bool (reaches W.reach Q q) (λ z. S₂.low q (v, lone₂ q z)) (λ z. S₁.low q (v, z));
              sofar = λ q v. by_bool (reaches W.reach Q q) (λ z. S₂.sofar q (v, lone₂ q z)) (λ z. S₁.sofar q (v, z));
            }

        par-ends : Done at_end W U (kept (means W P) (means W Q) σ σ₁ σ₂) K L f g a c e
        par-ends =
            record {
              fin = shows-on (λ t l k. n.fin t ∙ par-meets.quiet t l k) (pulse-is n.fin par-meets.pulse);
              out = shows-off (omega arith) (omega arith) (λ t l k. par-in t);
              low = λ x t l k. n.joined.clocks x t ∙ ap₂ ◌||◌ (E₁.low x t (omega arith) k) (E₂.low x t (omega arith) k);
              called = λ x t l k. n.joined.called x t ∙ ap₂ ◌||◌ (E₁.called x t (omega arith) k) (E₂.called x t (omega arith) k);
              words = par-words;
              sofar = (tt, E₁.sofar, E₂.sofar);
              calm = λ k. (par-meets.empty k, E₁.calm (omega arith), E₂.calm (omega arith));
              settled = par-settled;
            }

      par-does : Does W U (goes W u (par P Q) σ) K L f g a c e u
      unfolding run inline
      par-does =
          record {
            goes_on = λ p.
                record {
                  fin =
                      par-still u p
                      (λ q t l k. n.fin t ∙ merged-left W.w n.f₁ n.f₂ a (suc c) B.ready.calm.0 (side₁.goes_on q).fin t l k)
                      (λ q t l k. n.fin t ∙ merged-right W.w n.f₁ n.f₂ a (suc c) B.ready.calm.0 (side₂.goes_on q).fin t l k);
                  out = λ t l k. par-in t;
                  sofar = (tt, side₁.sofar, side₂.sofar);
                  alive = λ k.
                      par-still u p (λ q. (side₁.goes_on q).alive k.1) (λ q. (side₂.goes_on q).alive k.2);
                  bodies = λ q v. by_bool (reaches W.reach Q q) (λ z. side₂.bodies q (v, lone₂ q z)) (λ z. side₁.bodies q (v, z));
                };
            ends = λ way σ' p.
                let v = both-done (kept (means W P) (means W Q) σ) (goes W u P σ) (goes W u Q σ) p in
                in-way (sym v.8)
                (subst (λ (τ : Store). Done at_end W U τ K L f g a c e) (sym v.7) (par-ends v.0 v.1 v.2 v.3 v.6 v.4 v.5));
          }

pub run-par : (W : World) (P Q : Code) → Paced W P → Paced W Q → Apart (means W P) (means W Q) → Apart (means W Q) (means W P)
    → exits (means W P) ≡ false → exits (means W Q) ≡ false → ((q : ℕ) → reaches W.reach P q ≡ true → reaches W.reach Q q ≡ false)
    → RunOf W P → RunOf W Q
    → ShortOf W (par P Q)
unfolding Circuit Each
run-par W P Q timedP timedQ apartPQ apartQP in_p inQ lone doesP doesQ U σ s f g n a c e u h o k B =
    par-does W P Q timedP timedQ apartPQ apartQP in_p inQ lone doesP doesQ U σ s f g n a c e u h o k B
