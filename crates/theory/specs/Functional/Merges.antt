-- Signals and the merge, with pulses of one instant. Assumes nothing.
use Rattle.std.specs.Prelude.{ℕ, suc, ◌+◌, ◌≤◌, ◌<◌, ◌≡◌, refl, true, false, ◌||◌}
use Rattle.std.proofs.Common.{sym, ◌∙◌, subst, arith}
use Rattle.model.specs.Circuit.{Sig, delayed}
use Rattle.laws.specs.Refusals.Laws.{by_le, not-both}
use Rattle.laws.specs.Program.Widths.{gap-one}
use Rattle.theory.specs.Control.Signal.{Quiet, Clear, delayed-off}
use Rattle.theory.specs.Control.Pulses.{Pulse}
use Rattle.theory.specs.Control.Merge as merge
use Rattle.theory.specs.Control.Meets as meeting

-- Signals ----------------------------------------------------------------------------------------------------------------------------------

-- two intervals with an instant between them
pub glue_at : (s : Sig) (a b c : ℕ) → Quiet s a b → s b ≡ false → Quiet s (suc b) c → Quiet s a c
glue_at s a b c p e q t l h =
    by_le (suc b) t (λ k. q t k h) (λ k. by_le b t (λ j. subst (λ (u : ℕ). s u ≡ false) (omega arith) e) (λ j. p t l j))

pub either-quiet : (s g : Sig) (a b : ℕ) → Quiet s a b → Quiet g a b → Quiet (λ t. s t || g t) a b
either-quiet s g a b p q t l h = rw (p t l h) (q t l h)

pub delayed-after : (d : ℕ) (s : Sig) (a b : ℕ) → Quiet s a b → Quiet (delayed d s) (a + d) (b + d)
delayed-after d s a b q t l h = delayed-off d s t (λ u e. q u (omega arith) (omega arith))

-- a delay that had a pulse at a, and is empty again
pub clear-after : (d : ℕ) (s : Sig) (a b : ℕ) → a + d ≤ b → Quiet s (suc a) (suc b) → Clear d s (suc b)
clear-after d s a b o q t l h = q t (omega arith) l

-- up to c no pulse has entered a delay of d that held one
abbrev pub Spaced : ℕ → Sig → ℕ → Type 0
Spaced d s c = (u v : ℕ) → u < v → v < c → s u ≡ true → s v ≡ true → u + d ≤ v

-- while nothing enters
pub spaced-off : (d : ℕ) (s : Sig) (a b : ℕ) → Spaced d s a → Quiet s a b → Spaced d s b
spaced-off d s a b h q u v l k x y = by_le a v (λ o. not-both y (q v o k)) (λ o. h u v l o x y)

-- when a pulse enters at a
pub spaced-on : (d : ℕ) (s : Sig) (a b : ℕ) → Spaced d s a → ((t : ℕ) → t < a → a < t + d → s t ≡ false) → Quiet s (suc a) b → Spaced d s b
spaced-on d s a b h before q u v l k x y =
    by_le (suc a) v (λ o. not-both y (q v o k))
    (λ o. by_le a v (λ j. by_le (u + d) a (λ i. omega arith) (λ i. not-both x (before u (omega arith) i))) (λ j. h u v l j x y))

-- a delay of 1 holds none
pub spaced-one : (s : Sig) (a : ℕ) → Spaced 1 s a
spaced-one s a u v l k x y = omega arith

pub spaced-before : (d : ℕ) (s : Sig) (a : ℕ) → Clear d s a → (t : ℕ) → t < a → a < t + d → s t ≡ false
spaced-before d s a c t l k = c t l (omega arith)

-- The merge --------------------------------------------------------------------------------------------------------------------------------

abbrev pub merged : Sig → Sig → Sig
merged f g = merge.merged 1 f g

-- it holds nothing just before instant t
abbrev pub Empty : Sig → Sig → ℕ → Type 0
Empty f g t = merge.Empty 1 f g t

pub empty-zero : (f g : Sig) → Empty f g 0
empty-zero f g = merge.empty-zero 1 f g

pub stays-empty : (f g : Sig) (a b : ℕ) → a ≤ b → Empty f g a → Quiet f a b → Quiet g a b → Empty f g b
stays-empty f g a b o e x y = merge.stays-empty 1 f g a b o e x y

-- while an input has not come, nothing comes out
pub merged-left : (f g : Sig) (a b : ℕ) → Empty f g a → Quiet f a b → Quiet (merged f g) a b
merged-left f g a b e x = merge.merged-left 1 f g a b e x

pub merged-right : (f g : Sig) (a b : ℕ) → Empty f g a → Quiet g a b → Quiet (merged f g) a b
merged-right f g a b e x = merge.merged-right 1 f g a b e x

pub empty-swap : (f g : Sig) (t : ℕ) → Empty f g t → Empty g f t
empty-swap f g t e = merge.empty-swap 1 f g t e

-- at the later of the two pulses the output comes, and nothing is held any more
abbrev pub Meets : Sig → Sig → ℕ → Type 0
Meets f g b = (merged f g b ≡ true) × Empty f g (suc b)

-- f first, or both at once
pub meets : (f g : Sig) (a c b : ℕ) → a ≤ c → c ≤ b → Empty f g a → Quiet f a c → f c ≡ true → Quiet f (suc c) (suc b) → Quiet g a b → g b ≡ true
    → Meets f g b
meets f g a c b o₁ o₂ e x₁ x x₂ y₁ y =
    let z = gap-one 1 refl in
    let p : Pulse 1 f c (suc b) =
    record { high = λ t l h k. subst (λ (t : ℕ). f t ≡ true) (omega arith) x; low = λ t l h. x₂ t (omega arith) h } in
    let q : Pulse 1 g b (suc b) =
    record { high = λ t l h k. subst (λ (t : ℕ). g t ≡ true) (omega arith) y; low = λ t l h. absurd (omega arith) } in
    let m = meeting.meets 1 f g (omega arith) a c b (suc b) (omega (arith, z)) (omega arith) o₁ o₂ e x₁ p y₁ q in
    (m.pulse.high b (omega arith) (omega arith) (omega arith), m.empty (omega (arith, z)))

pub meets-swap : (f g : Sig) (b : ℕ) → Meets g f b → Meets f g b
meets-swap f g b h = (sym (merge.merged-swap 1 f g b) ∙ h.0, empty-swap g f (suc b) h.1)
