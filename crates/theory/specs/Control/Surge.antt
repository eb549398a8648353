-- The first w instants after a calm one: a start that does not fall makes nothing fall, neither the finish nor the exit signal nor a clock, as long as
-- the words that are read have stayed. Assumes nothing.
use Rattle.std.specs.Prelude.{ℕ, suc, ◌+◌, ◌≤◌, ◌<◌, ◌≡◌, Bool, true, false, not, ◌&&◌, ◌||◌, eqb}
use Rattle.std.proofs.Common.{sym, ◌∙◌, ap, ap₂, arith}
use Rattle.std.proofs.Math.Bool.{or-false}
use Rattle.model.specs.Word.{pick, is_zero}
use Rattle.model.specs.Program.{Expr, Code, ok, tick, assign, assign_elem, seq, par, ite, while, repeat, loop, exit, call, array_var, reads, touches}
use Rattle.model.specs.Procedures.{inline}
use Rattle.model.specs.Circuit.{Sig, delayed}
use Rattle.model.specs.Rules.{owner, eval}
use Rattle.laws.specs.Refusals.Laws.{by_bool, and-true}
use Rattle.laws.specs.Program.Fit.{FormedExpr}
use Rattle.laws.specs.Rules.Uses.{eval-same}
use Rattle.model.specs.Program.{gap}
use Rattle.theory.specs.Control.Signal.{Quiet, delayed-quiet}
use Rattle.theory.specs.Control.Pulses.{Firm, quiet-firm, delayed-firm, either-firm}
use Rattle.theory.specs.Control.Returns.{none_out}
use Rattle.theory.specs.Control.Meets.{merged-firm}
use Rattle.theory.specs.Control.Wiring.{either, ideal, Gives, Assigned, Joined, Circuit, Delays, Each}
use Rattle.theory.specs.Control.World.{World, Built, means, Paced, each_of}
use Rattle.theory.specs.Control.Memories.{Same}
use Rattle.theory.specs.Control.Calm.{Calm, calmly}
use Rattle.theory.specs.Control.Rest.{rest}

pub record Surges (f : Sig) (g : Gives) (a b : ℕ) : Type 0 where
  pub fin : Firm f a b
  pub out : Firm g.out a b
  pub clocks : (x : ℕ) → Firm (g.clk x) a (suc b)

abbrev pub Touched : World → Code → ℕ → Type 0
Touched W P x = touches (means W P) x ≡ true

abbrev pub SurgeOf : World → Code → Type 0
SurgeOf W P =
    (s f : Sig) (g : Gives) (n : Built W P s f g) (a b : ℕ) → Calm W P s f g n a → a ≤ b → b ≤ a + W.w → Firm s a b → Same W (Touched W P) a b → Surges f g a b

firm-is : (s f : Sig) (a b : ℕ) → ((t : ℕ) → a ≤ t → t < b → f t ≡ s t) → Firm s a b → Firm f a b
firm-is s f a b e p t l h z = e (suc t) (omega arith) h ∙ p t l h (sym (e t l (omega arith)) ∙ z)

-- a signal that lets another through as long as a condition holds
pub gated-firm : (D r c : Sig) (a b : ℕ) → ((t : ℕ) → a ≤ t → t < b → r t ≡ (D t && c t)) → Firm D a b → ((t : ℕ) → a ≤ t → t < b → c t ≡ c a) → Firm r a b
gated-firm D r c a b e p k t l h z =
    let i = and-true (D t) (c t) (sym (e t l (omega arith)) ∙ z) in
    e (suc t) (omega arith) h ∙ ap₂ ◌&&◌ (p t l h i.0) (k (suc t) (omega arith) h ∙ sym (k t l (omega arith)) ∙ i.1)

-- what two parts give
record Swells (g : Gives) (a b : ℕ) : Type 0 where
  out : Firm g.out a b
  clocks : (x : ℕ) → Firm (g.clk x) a (suc b)

swells : (f₁ : Sig) (g₁ : Gives) (f₂ : Sig) (g₂ g : Gives) (a b : ℕ) → Joined g₁ g₂ g → Surges f₁ g₁ a b → Surges f₂ g₂ a b → Swells g a b
swells f₁ g₁ f₂ g₂ g a b j p q =
    record {
      out = either-firm g₁.out g₂.out g.out a b j.out p.out q.out;
      clocks = λ x. either-firm (g₁.clk x) (g₂.clk x) (g.clk x) a (suc b) (j.clocks x) (p.clocks x) (q.clocks x);
    }

-- an assignment of either kind
surge-assigned : (W : World) (d y : ℕ) (r : ℕ → ℕ) (e : Expr) → 1 ≤ d → (s f : Sig) (g : Gives)
    → Assigned W.w (ideal W.m) d y r e s f g → (a b : ℕ) → Delays (calmly W.w W.m a) W.w d e s → Firm s a b → Surges f g a b
surge-assigned W d y r e pos s f g n a b calm q =
    let D : Firm (delayed d s) a (b + d) = delayed-firm d s a b calm.0.0 q in
    record {
      fin =
          firm-is (delayed W.w (delayed d s)) f a b (λ t l h. n.fin t)
          (λ t l h. delayed-firm W.w (delayed d s) a b calm.1.0 (λ t l h. D t l (omega arith)) t l (omega arith));
      out = quiet-firm g.out a b (λ t l h. n.out t);
      clocks = λ x.
          by_bool (eqb x y)
          (λ z.
          firm-is (delayed d s) (g.clk x) a (suc b) (λ t l h. n.clocks x t ∙ ap (λ (c : Bool). pick c (delayed d s t) false) z)
          (λ t l h. D t l (omega arith)))
          (λ z.
          quiet-firm (g.clk x) a (suc b) (λ t l h. n.clocks x t ∙ ap (λ (c : Bool). pick c (delayed d s t) false) z));
    }

surge-seq : (W : World) (P Q : Code) → SurgeOf W P → SurgeOf W Q → SurgeOf W (seq P Q)
unfolding Circuit Each touches inline
surge-seq W P Q hP hQ s f g n a b calm o o' q k =
    let v = each_of (λ x. touches (means W P) (owner x)) (λ x. touches (means W Q) (owner x)) k in
    let r = hP s n.mid n.g₁ n.left a b calm.0 o o' q v.0 in
    let r' = hQ n.mid f n.g₂ n.right a b calm.1 o o' r.fin v.1 in
    let j = swells n.mid n.g₁ f n.g₂ g a b n.joined r r' in
    record { fin = r'.fin; out = j.out; clocks = j.clocks }

surge-par : (W : World) (P Q : Code) → SurgeOf W P → SurgeOf W Q → SurgeOf W (par P Q)
unfolding Circuit Each touches inline
surge-par W P Q hP hQ s f g n a b calm o o' q k =
    let v = each_of (λ x. touches (means W P) (owner x)) (λ x. touches (means W Q) (owner x)) k in
    let r = hP s n.f₁ n.g₁ n.left a b calm.1 o o' q v.0 in
    let r' = hQ s n.f₂ n.g₂ n.right a b calm.2 o o' q v.1 in
    let j = swells n.f₁ n.g₁ n.f₂ n.g₂ g a b n.joined r r' in
    record {
      fin = λ t l h z. n.fin (suc t) ∙ merged-firm W.w n.f₁ n.f₂ a b o' calm.0 r.fin r'.fin t l h (sym (n.fin t) ∙ z);
      out = j.out;
      clocks = j.clocks;
    }

-- a condition whose words have stayed
pub test-same : (W : World) (e : Expr) → FormedExpr e → (U : ℕ → Type 0) (a b : ℕ) → ((x : ℕ) → reads e x ≡ true → U x) → Same W U a b
    → (t : ℕ) → a ≤ t → t < b → is_zero (eval e (W.m t)) ≡ is_zero (eval e (W.m a))
test-same W e formed U a b u k t l h = ap is_zero (eval-same e formed (W.m t) (W.m a) (λ x r. k x (u (owner x) r) t l h))

surge-ite : (W : World) (d : ℕ) (e : Expr) (P Q : Code) → FormedExpr e → SurgeOf W P → SurgeOf W Q → SurgeOf W (ite d e P Q)
unfolding Circuit Each touches inline
surge-ite W d e P Q formed hP hQ s f g n a b calm o o' q k =
    let v = each_of (λ x. reads e (owner x)) (λ x. touches (means W P) (owner x) || touches (means W Q) (owner x)) k in
    let v' = each_of (λ x. touches (means W P) (owner x)) (λ x. touches (means W Q) (owner x)) v.1 in
    let D : Firm (delayed d s) a b = λ t l h. delayed-firm d s a b calm.0.0 q t l (omega arith) in
    let c : (t : ℕ) → a ≤ t → t < b → is_zero (eval e (W.m t)) ≡ is_zero (eval e (W.m a)) =
    test-same W e formed (λ x. reads e x ≡ true) a b (λ x r. r) v.0 in
    let r =
    hP n.s₁ n.f₁ n.g₁ n.left a b calm.1 o o'
    (gated-firm (delayed d s) n.s₁ (λ t. not (is_zero (eval e (W.m t)))) a b (λ t l h. n.yes₁ t) D (λ t l h. ap not (c t l h)))
    v'.0 in
    let r' =
    hQ n.s₂ n.f₂ n.g₂ n.right a b calm.2 o o'
    (gated-firm (delayed d s) n.s₂ (λ t. is_zero (eval e (W.m t))) a b (λ t l h. n.no₂ t) D c)
    v'.1 in
    let j = swells n.f₁ n.g₁ n.f₂ n.g₂ g a b n.joined r r' in
    record { fin = either-firm n.f₁ n.f₂ f a b n.fin r.fin r'.fin; out = j.out; clocks = j.clocks }

-- the body of a while has not begun
surge-while : (W : World) (d : ℕ) (e : Expr) (P : Code) → gap W.w ≤ d → Paced W P → SurgeOf W (while d e P)
unfolding Circuit Each
surge-while W d e P long timed s f g n a b calm o o' q k =
    let D : Quiet (delayed d (either s n.f₁)) a b =
    λ t l h. delayed-quiet d (either s n.f₁) a a calm.0.0 (λ t l h. absurd (omega arith)) t l (omega arith) in
    let r =
    rest W P timed n.s₁ n.f₁ g n.body a b calm.1 o
    (λ t l h. n.begin t ∙ ap (λ (c : Bool). c && not (is_zero (eval e (W.m t)))) (D t l h)) in
    record {
      fin = quiet-firm f a b (λ t l h. n.fin t ∙ ap (λ (c : Bool). c && is_zero (eval e (W.m t))) (D t l h));
      out = quiet-firm g.out a b r.out;
      clocks = λ x. quiet-firm (g.clk x) a (suc b) (r.clocks x);
    }

-- that of a repeat has, and its finish has not gone round
surge-repeat : (W : World) (d : ℕ) (e : Expr) (P : Code) → gap W.w ≤ d → SurgeOf W P → SurgeOf W (repeat d e P)
unfolding Circuit Each touches inline
surge-repeat W d e P long hP s f g n a b calm o o' q k =
    let D : Quiet (delayed d n.f₁) a b =
    λ t l h. delayed-quiet d n.f₁ a a calm.0.0 (λ t l h. absurd (omega arith)) t l (omega arith) in
    let r =
    hP n.s₁ n.f₁ g n.body a b calm.1 o o'
    (firm-is s n.s₁ a b
    (λ t l h. n.begin t ∙ ap (λ (c : Bool). s t || (c && is_zero (eval e (W.m t)))) (D t l h) ∙ or-false (s t)) q)
    (each_of (λ x. reads e (owner x)) (λ x. touches (means W P) (owner x)) k).1 in
    record {
      fin = quiet-firm f a b (λ t l h. n.fin t ∙ ap (λ (c : Bool). c && not (is_zero (eval e (W.m t)))) (D t l h));
      out = r.out;
      clocks = r.clocks;
    }

-- so has that of a loop
surge-loop : (W : World) (d : ℕ) (P : Code) → gap W.w ≤ d → SurgeOf W P → SurgeOf W (loop d P)
unfolding Circuit Each touches inline
surge-loop W d P long hP s f g n a b calm o o' q k =
    let D : Quiet (delayed d n.f₁) a b =
    λ t l h. delayed-quiet d n.f₁ a a calm.0.0 (λ t l h. absurd (omega arith)) t l (omega arith) in
    let r =
    hP n.s₁ n.f₁ n.g₁ n.body a b calm.1 o o'
    (firm-is s n.s₁ a b (λ t l h. n.begin t ∙ ap (λ (c : Bool). s t || c) (D t l h) ∙ or-false (s t)) q) k in
    record {
      fin = firm-is n.g₁.out f a b (λ t l h. n.fin t) r.out;
      out = quiet-firm g.out a b (λ t l h. n.out t);
      clocks = λ x. firm-is (n.g₁.clk x) (g.clk x) a (suc b) (λ t l h. n.clocks x t) (r.clocks x);
    }

pub surge : (W : World) (P : Code) → Paced W P → SurgeOf W P
unfolding Circuit Each
surge W ok h = λ s f g n a b calm o o' q k.
    record {
      fin = firm-is s f a b (λ t l h. n.fin t) q;
      out = quiet-firm g.out a b (λ t l h. n.out t);
      clocks = λ x. quiet-firm (g.clk x) a (suc b) (λ t l h. n.clocks x t);
    }
surge W (tick d) h = λ s f g n a b calm o o' q k.
    record {
      fin = firm-is (delayed d s) f a b (λ t l h. n.fin t) (λ t l h. delayed-firm d s a b calm.0 q t l (omega arith));
      out = quiet-firm g.out a b (λ t l h. n.out t);
      clocks = λ x. quiet-firm (g.clk x) a (suc b) (λ t l h. n.clocks x t);
    }
surge W (assign d y e) h = λ s f g n a b calm o o' q k. surge-assigned W d y (λ t. 0) e h.0 s f g n a b calm q
surge W (assign_elem d j i e) h = λ s f g n a b calm o o' q k. surge-assigned W d (array_var j) (ideal W.m i) e h.0 s f g n a b calm.0 q
surge W (seq P Q) h = surge-seq W P Q (surge W P h.0) (surge W Q h.1)
surge W (par P Q) h = surge-par W P Q (surge W P h.0) (surge W Q h.1)
surge W (ite d e P Q) h = surge-ite W d e P Q h.1 (surge W P h.2) (surge W Q h.3)
surge W (while d e P) h = surge-while W d e P h.0 h.2
surge W (repeat d e P) h = surge-repeat W d e P h.0 (surge W P h.2)
surge W (loop d P) h = surge-loop W d P h.0 (surge W P h.1)
surge W exit h = λ s f g n a b calm o o' q k.
    record {
      fin = quiet-firm f a b (λ t l h. n.fin t);
      out = firm-is s g.out a b (λ t l h. n.out t) q;
      clocks = λ x. quiet-firm (g.clk x) a (suc b) (λ t l h. n.clocks x t);
    }
-- a call's delay is at least the gap: nothing has come to its merge
surge W (call d p) h = λ s f g n a b calm o o' q k.
    let D : Quiet (delayed d s) a b = λ t l i. delayed-quiet d s a a calm.0.0 (λ t l h. absurd (omega arith)) t l (omega (arith, h.0)) in
    record {
      fin = quiet-firm f a b (λ t l i. n.fin t ∙ none_out W.w (delayed d s) (W.ret p) a b calm.1 D t l i);
      out = quiet-firm g.out a b (λ t l i. n.out t);
      clocks = λ x. quiet-firm (g.clk x) a (suc b) (λ t l i. n.clocks x t);
    }
