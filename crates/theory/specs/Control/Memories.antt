-- Memories that follow what a part gives. Assumes nothing.
use Rattle.std.specs.Prelude.{ℕ, zero, suc, ◌+◌, ◌-◌, ◌*◌, ◌/◌, ◌%◌, ◌≤◌, ◌<◌, ◌≡◌, refl, Bool, true, false, ◌||◌, eqb}
use Rattle.std.proofs.Common.{sym, ◌∙◌, ap, arith, eq-eqb, ne_eqb, eqb-true, lt-ltb, le-ltb}
use Rattle.std.proofs.Math.Bool.{or-false, or_comm as ||-comm}
use Rattle.std.proofs.lemmas.Nat.{or_comm}
use Rattle.std.proofs.lemmas.Bool.{eqb-false}
use Rattle.model.specs.Word.{index, element_word}
use Rattle.model.specs.Program.{array_var}
use Rattle.model.specs.Rules.{owner}
use Rattle.laws.specs.Refusals.Laws.{by_bool, by_le, not-both}
use Rattle.laws.specs.Rules.Words.{owner-variable, owner-later, same-variable}
use Rattle.theory.specs.Control.Signal.{Quiet}
use Rattle.theory.specs.Control.Pulses.{Firm}
use Rattle.theory.specs.Control.Wiring.{Gives, Joined, hits, latch, Latches}
use Rattle.theory.specs.Control.World.{World}

-- data and address are 0 where the clock is low
abbrev pub Dull : Gives → Type 0
Dull g = (x t : ℕ) → g.clk x t ≡ false → (g.dat x t ≡ 0) × (g.adr x t ≡ 0)

pub joined-swap : (g₁ g₂ g : Gives) → Joined g₁ g₂ g → Joined g₂ g₁ g
joined-swap g₁ g₂ g j =
    record {
      clocks = λ x t. j.clocks x t ∙ ||-comm (g₁.clk x t) (g₂.clk x t);
      words = λ x t. j.words x t ∙ or_comm (g₁.dat x t) (g₂.dat x t);
      addresses = λ x t. j.addresses x t ∙ or_comm (g₁.adr x t) (g₂.adr x t);
      called = λ q t. j.called q t ∙ ||-comm (g₁.calls q t) (g₂.calls q t);
      out = λ t. j.out t ∙ ||-comm (g₁.out t) (g₂.out t);
    }

-- the exit signal of a joined pair, where that of its other half is low
pub out-left : (g₁ g₂ g : Gives) → Joined g₁ g₂ g → (t : ℕ) → g₂.out t ≡ false → g.out t ≡ g₁.out t
out-left g₁ g₂ g j t q = j.out t ∙ ap (λ (b : Bool). g₁.out t || b) q ∙ or-false _

-- on [a, b] the words of U's variables follow what g gives
abbrev pub Follow : World → (ℕ → Type 0) → Gives → ℕ → ℕ → Type 0
Follow W U g a b = (x : ℕ) → U (owner x) → (t : ℕ) → a ≤ t → t < b → Latches W.m g x t

-- The word that an address names --------------------------------------------------------------------------------------------------------

pub hits-variable : (x y a : ℕ) → y < 16 → owner x ≡ y → hits x a ≡ eqb x y
unfolding hits
hits-variable x y a l e =
    let q : x ≡ y = same-variable x y l e in
    rw (lt-ltb x 16 (omega arith)) (sym (eq-eqb x y q))

pub hits-element : (x k a : ℕ) → owner x ≡ array_var k → hits x a ≡ eqb x (element_word k a)
unfolding hits element_word
hits-element x k a e =
    by_le 16 x
    (λ h.
    let q : (x - 16) / 64 ≡ k = omega (arith, owner-later x h, e) in
    rw (le-ltb x 16 h)
    (by_bool (eqb ((x - 16) % 64) (index a)) (λ z. z ∙ sym (eq-eqb x (16 + (64 * k + index a)) (omega (arith, eqb-true ((x - 16) % 64) (index a) z))))
    (λ z. z ∙ sym (ne_eqb x (16 + (64 * k + index a)) (λ p. eqb-false ((x - 16) % 64) (index a) z (omega (arith, p)))))))
    (λ h. absurd (omega (arith, owner-variable x h, e)))

-- Clocks that do not fall ----------------------------------------------------------------------------------------------------------------

holds : (p q hit : Bool) (v w : ℕ) → (p ≡ true → q ≡ true) → latch p q hit v w ≡ w
unfolding latch
holds true true hit v w h = refl
holds true false hit v w h = not-both (h refl) refl
holds false q hit v w h = refl

firm-n : (W : World) (U : ℕ → Type 0) (g : Gives) (a n x : ℕ) → U (owner x) → Follow W U g a (a + n) → Firm (g.clk (owner x)) a (suc (a + n))
    → W.m (a + n) x ≡ W.m a x
firm-n W U g a zero x v F q = ap (λ (k : ℕ). W.m k x) (omega arith)
firm-n W U g a (suc n) x v F q =
    let i : W.m (a + n) x ≡ W.m a x = firm-n W U g a n x v (λ y v t l h. F y v t l (omega arith)) (λ t l h. q t l (omega arith)) in
    let j : Latches W.m g x (a + n) = F x v (a + n) (omega arith) (omega arith) in
    let y = owner x in
    ap (λ (k : ℕ). W.m k x) (omega arith) ∙ j
    ∙ holds (g.clk y (a + n)) (g.clk y (suc (a + n))) (hits x (g.adr y (a + n))) (g.dat y (a + n)) (W.m (a + n) x)
    (q (a + n) (omega arith) (omega arith))
    ∙ i

-- while a clock does not fall its words stay
pub keep-firm : (W : World) (U : ℕ → Type 0) (g : Gives) (a b : ℕ) → a ≤ b → Follow W U g a b → (x : ℕ) → U (owner x)
    → Firm (g.clk (owner x)) a (suc b) → W.m b x ≡ W.m a x
keep-firm W U g a b o F x v q =
    let i : W.m (a + (b - a)) x ≡ W.m a x = firm-n W U g a (b - a) x v (λ y v t l h. F y v t l (omega arith)) (λ t l h. q t l (omega arith)) in
    ap (λ (k : ℕ). W.m k x) (omega arith) ∙ i

-- and while it is low
pub keep : (W : World) (U : ℕ → Type 0) (g : Gives) (a b : ℕ) → a ≤ b → Follow W U g a b → (x : ℕ) → U (owner x) → Quiet (g.clk (owner x)) a b
    → W.m b x ≡ W.m a x
keep W U g a b o F x i q = keep-firm W U g a b o F x i (λ t l h z. not-both z (q t l (omega arith)))

-- before k the words of U's variables are those of a
abbrev pub Same : World → (ℕ → Type 0) → ℕ → ℕ → Type 0
Same W U a k = (x : ℕ) → U (owner x) → (t : ℕ) → a ≤ t → t < k → W.m t x ≡ W.m a x

-- clocks that do not fall as long as the words have stayed
stays-n : (W : World) (U : ℕ → Type 0) (g : Gives) (a b : ℕ) → Follow W U g a b
    → ((k : ℕ) → a ≤ k → k ≤ b → Same W U a k → (x : ℕ) → U x → Firm (g.clk x) a (suc k)) → (n : ℕ) → a + n ≤ b → Same W U a (suc (a + n))
stays-n W U g a b F h zero o x i t l k = ap (λ (j : ℕ). W.m j x) (omega arith)
stays-n W U g a b F h (suc n) o x i t l k =
    let c : Same W U a (suc (a + n)) = stays-n W U g a b F h n (omega arith) in
    by_le (suc (a + n)) t
    (λ j.
    keep-firm W U g a t l (λ y v t' l' k'. F y v t' l' (omega arith)) x i
    (h t l (omega arith) (λ y v t' l' k'. c y v t' l' (omega arith)) (owner x) i))
    (λ j. c x i t l j)

pub stays : (W : World) (U : ℕ → Type 0) (g : Gives) (a b : ℕ) → a ≤ b → Follow W U g a b
    → ((k : ℕ) → a ≤ k → k ≤ b → Same W U a k → (x : ℕ) → U x → Firm (g.clk x) a (suc k)) → Same W U a (suc b)
stays W U g a b o F h x i t l k = stays-n W U g a b F h (b - a) (omega arith) x i t l (omega arith)
