-- What is known of the past of a delay: that the words used at its end were held while the pulse was in it, and that with pulses of one instant a line
-- never holds two. Assumes nothing.
use Rattle.std.specs.Prelude.{ℕ, ◌+◌, ◌≤◌, ◌<◌, ◌≡◌, true, false}
use Rattle.std.proofs.Common.{sym, ◌∙◌, arith}
use Rattle.model.specs.Program.{Expr, reads}
use Rattle.model.specs.Rules.{owner}
use Rattle.model.specs.Circuit.{Sig, delayed}
use Rattle.laws.specs.Refusals.Laws.{by_le, not-both}
use Rattle.theory.specs.Control.Wiring.{Memory}
use Rattle.theory.specs.Control.Signal.{Quiet, Clear, delayed-at}
use Rattle.theory.specs.Control.Pulses.{Pulse}

-- Words that are used -------------------------------------------------------------------------------------------------------------------

-- the words that e reads are the same on all of [u, t]
abbrev pub Held : Memory → Expr → ℕ → ℕ → Type 0
Held m e u t = (x : ℕ) → reads e (owner x) ≡ true → (v : ℕ) → u ≤ v → v ≤ t → m v x ≡ m t x

-- "the whole of [start, start + d]": each pulse that has left a delay of d before instant c found the words that e reads held since it entered
abbrev pub Stable : Memory → ℕ → Expr → Sig → ℕ → Type 0
Stable m d e p c = (u t : ℕ) → u + d ≡ t → t < c → p u ≡ true → Held m e u t

-- while nothing leaves the delay
pub stable-off : (m : Memory) (d : ℕ) (e : Expr) (p : Sig) (a c : ℕ) → Stable m d e p a → Quiet (delayed d p) a c → Stable m d e p c
stable-off m d e p a c h q u t o k y =
    by_le a t (λ l. not-both y (sym (delayed-at d p u t o) ∙ q t l k)) (λ l. h u t o l y)

-- a pulse that enters from a on: what entered before has left by a + w, and the words stay until the pulse has left
pub stable-turn : (w : ℕ) (m : Memory) (d : ℕ) (e : Expr) (p : Sig) (a b : ℕ) (σ : ℕ → ℕ) → ((b' : ℕ) → b' ≤ a + w → b' ≤ b → Stable m d e p b')
    → ((t : ℕ) → t < a → a + w ≤ t + d → p t ≡ false) → ((t : ℕ) → a + w ≤ t → t + d < b → p t ≡ false)
    → (a + d < b → (x : ℕ) → reads e (owner x) ≡ true → (v : ℕ) → a ≤ v → v < a + d + w → v < b → m v x ≡ σ x) → Stable m d e p b
stable-turn w m d e p a b σ old before after words u t o k y =
    by_le (a + w) t
    (λ l.
    by_le a u
    (λ i.
    by_le (a + w) u (λ j. not-both y (after u j (omega arith)))
    (λ j x r v l₁ k₁.
    words (omega arith) x r v (omega arith) (omega arith) (omega arith) ∙ sym (words (omega arith) x r t (omega arith) (omega arith) k)))
    (λ i. not-both y (before u i (omega arith))))
    (λ l. let h : t < a + w = l in by_le b (a + w) (λ j. old b j (omega arith) u t o k y) (λ j. old (a + w) (omega arith) (omega arith) u t o h y))

-- Lines -----------------------------------------------------------------------------------------------------------------------------------

-- with pulses of one instant: before instant c no pulse has entered while another was in the line
abbrev pub Spaced : ℕ → ℕ → Sig → ℕ → Type 0
Spaced w d s c = w ≡ 1 → (u v : ℕ) → u < v → v < c → s u ≡ true → s v ≡ true → u + d ≤ v

-- while nothing enters
pub spaced-off : (w d : ℕ) (s : Sig) (a b : ℕ) → Spaced w d s a → Quiet s a b → Spaced w d s b
spaced-off w d s a b h q one u v o k y z = by_le a v (λ l. not-both z (q v l k)) (λ l. h one u v o l y z)

-- a pulse that enters from a on
pub spaced-turn : (w d : ℕ) (s : Sig) (a b : ℕ) → Spaced w d s a → ((t : ℕ) → t < a → a + w ≤ t + d → s t ≡ false)
    → ((t : ℕ) → a + w ≤ t → t < b → s t ≡ false) → Spaced w d s b
spaced-turn w d s a b h before after one u v o k y z =
    by_le a v
    (λ l.
    by_le (a + w) v (λ j. not-both z (after v j k))
    (λ j. by_le (a + w) (u + d) (λ i. not-both y (before u (omega (arith, one)) i)) (λ i. omega (arith, one))))
    (λ l. h one u v o l y z)

-- into a delay that is clear
pub spaced-on : (w d : ℕ) (s : Sig) (a e : ℕ) → Spaced w d s a → Clear d s a → Pulse w s a e → Spaced w d s e
spaced-on w d s a e h c p = spaced-turn w d s a e h (λ t l k. c t l (omega arith)) p.low

pub stable-on : (w : ℕ) (m : Memory) (d : ℕ) (e : Expr) (s : Sig) (a b : ℕ) (σ : ℕ → ℕ) → Stable m d e s a → Clear d s a → Pulse w s a b
    → (a + d < b → (x : ℕ) → reads e (owner x) ≡ true → (v : ℕ) → a ≤ v → v < a + d + w → v < b → m v x ≡ σ x) → Stable m d e s b
stable-on w m d e s a b σ h c p words u t o k y =
    by_le a u
    (λ i.
    by_le (a + w) u (λ j. not-both y (p.low u j (omega arith)))
    (λ j x r v l₁ k₁.
    words (omega arith) x r v (omega arith) (omega arith) (omega arith) ∙ sym (words (omega arith) x r t (omega arith) (omega arith) k)))
    (λ i. by_le a t (λ l. not-both y (c u i (omega arith))) (λ l. h u t o l y))
