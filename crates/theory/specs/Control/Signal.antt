-- Lemmas on signals: intervals where a signal is false, and delays. Assumes nothing.
use Rattle.std.specs.Prelude.{ℕ, zero, suc, ◌+◌, ◌-◌, ◌≤◌, ◌<◌, ◌≡◌, refl, Bool, true, false, leb}
use Rattle.std.proofs.Common.{◌∙◌, ap, subst, arith, leb-true, le-leb}
use Rattle.model.specs.Word.{pick}
use Rattle.model.specs.Circuit.{Sig, delayed}
use Rattle.laws.specs.Refusals.Laws.{by_le}

-- Intervals ---------------------------------------------------------------------------------------------------------------------

-- s is false on [a, b)
abbrev pub Quiet : Sig → ℕ → ℕ → Type 0
Quiet s a b = (t : ℕ) → a ≤ t → t < b → s t ≡ false

-- what a delay of d holds just before instant a is nothing: its input was false on [a - d, a)
abbrev pub Clear : ℕ → Sig → ℕ → Type 0
Clear d s a = (t : ℕ) → t < a → a ≤ t + d → s t ≡ false

-- two intervals that meet
pub glue : (s : Sig) (a b c : ℕ) → Quiet s a b → Quiet s b c → Quiet s a c
glue s a b c p q t l h = by_le b t (λ k. q t k h) (λ k. p t l k)

-- a signal that is false at each next instant, as long as it has been false
creep-n : (g : Sig) (a k : ℕ) → ((v : ℕ) → v < k → Quiet g a (a + v) → g (a + v) ≡ false) → (n : ℕ) → n ≤ k → Quiet g a (a + n)
creep-n g a k h zero o t l r = absurd (omega arith)
creep-n g a k h (suc n) o t l r =
    let i : Quiet g a (a + n) = creep-n g a k h n (omega arith) in
    by_le (a + n) t (λ j. subst (λ (u : ℕ). g u ≡ false) (omega arith) (h n o i)) (λ j. i t l j)

pub creep : (g : Sig) (a b : ℕ) → ((v : ℕ) → a + v < b → Quiet g a (a + v) → g (a + v) ≡ false) → Quiet g a b
creep g a b h t l r = creep-n g a (b - a) (λ v k. h v (omega arith)) (b - a) (omega arith) t l (omega arith)

-- Delays ------------------------------------------------------------------------------------------------------------------------

pub delayed-at : (d : ℕ) (s : Sig) (a t : ℕ) → a + d ≡ t → delayed d s t ≡ s a
unfolding delayed
delayed-at d s a t h = ap (λ (b : Bool). pick b (s (t - d)) false) (le-leb d t (omega arith)) ∙ ap s (omega arith)

pub delayed-off : (d : ℕ) (s : Sig) (t : ℕ) → ((u : ℕ) → u + d ≡ t → s u ≡ false) → delayed d s t ≡ false
unfolding delayed
delayed-off d s t h = go (leb d t) refl
  where
    go : (b : Bool) → leb d t ≡ b → pick b (s (t - d)) false ≡ false
    go true e = h (t - d) (omega (arith, leb-true d t e))
    go false e = refl

pub delayed-quiet : (d : ℕ) (s : Sig) (a b : ℕ) → Clear d s a → Quiet s a b → Quiet (delayed d s) a (b + d)
delayed-quiet d s a b p q t l h =
    delayed-off d s t (λ u e. by_le a u (λ k. q u k (omega arith)) (λ k. p u k (omega arith)))

pub clear_later : (d : ℕ) (s : Sig) (a b : ℕ) → a ≤ b → Clear d s a → Quiet s a b → Clear d s b
clear_later d s a b o p q t l h = by_le a t (λ k. q t k l) (λ k. p t k (omega arith))
