-- Pulses of w instants, and signals that do not fall. Assumes nothing.
use Rattle.std.specs.Prelude.{ℕ, suc, ◌+◌, ◌-◌, ◌≤◌, ◌<◌, ◌≡◌, refl, Bool, true, false, ◌||◌}
use Rattle.std.proofs.Common.{sym, ◌∙◌, ap, subst, arith}
use Rattle.model.specs.Circuit.{Sig, delayed}
use Rattle.laws.specs.Refusals.Laws.{by_le, not-both}
use Rattle.theory.specs.Control.Signal.{Quiet, Clear, glue, delayed-at, delayed-off}

pub at : (s : Sig) {a b : ℕ} {c : Bool} → a ≡ b → s a ≡ c → s b ≡ c
at s {a} {b} {c} p e = subst (λ (t : ℕ). s t ≡ c) p e

-- Pulses ---------------------------------------------------------------------------------------------------------------------------------

-- from a on and before e the signal is high exactly on [a, a + w)
pub record Pulse (w : ℕ) (s : Sig) (a e : ℕ) : Type 0 where
  pub high : (t : ℕ) → a ≤ t → t < a + w → t < e → s t ≡ true
  pub low : (t : ℕ) → a + w ≤ t → t < e → s t ≡ false

pub pulse-less : {w : ℕ} {s : Sig} {a e e' : ℕ} → e' ≤ e → Pulse w s a e → Pulse w s a e'
pulse-less o p = record { high = λ t l h k. p.high t l h (omega arith); low = λ t l h. p.low t l (omega arith) }

pub pulse-delayed : {w : ℕ} (d : ℕ) {s : Sig} {a e : ℕ} → Pulse w s a e → Pulse w (delayed d s) (a + d) (e + d)
pulse-delayed {w} d {s} {a} {e} p =
    record {
      high = λ t l h k. delayed-at d s (t - d) t (omega arith) ∙ p.high (t - d) (omega arith) (omega arith) (omega arith);
      low = λ t l h. delayed-at d s (t - d) t (omega arith) ∙ p.low (t - d) (omega arith) (omega arith);
    }

pub pulse-is : {w : ℕ} {s f : Sig} {a e : ℕ} → ((t : ℕ) → f t ≡ s t) → Pulse w s a e → Pulse w f a e
pulse-is e p = record { high = λ t l h k. e t ∙ p.high t l h k; low = λ t l h. e t ∙ p.low t l h }

pub pulse-at : {w : ℕ} {s : Sig} {a a' e : ℕ} → a ≡ a' → Pulse w s a e → Pulse w s a' e
pulse-at {w} {s} {a} {a'} {e} q p = subst (λ (k : ℕ). Pulse w s k e) q p

-- Signals that come or stay away ----------------------------------------------------------------------------------------------------------

-- before e the signal is low on [a, c), shows b on [c, c + w), and is low again: a pulse if b is true, and else nothing
pub record Shows (w : ℕ) (b : Bool) (s : Sig) (a c e : ℕ) : Type 0 where
  pub quiet : Quiet s a c
  pub level : (t : ℕ) → c ≤ t → t < c + w → t < e → s t ≡ b
  pub low : (t : ℕ) → c + w ≤ t → t < e → s t ≡ false

pub shows-pulse : {w : ℕ} {s : Sig} {a c e : ℕ} → Shows w true s a c e → Pulse w s c e
shows-pulse h = record { high = h.level; low = h.low }

pub shows-on : {w : ℕ} {s : Sig} {a c e : ℕ} → Quiet s a c → Pulse w s c e → Shows w true s a c e
shows-on q p = record { quiet = q; level = p.high; low = p.low }

pub shows-none : {w : ℕ} {s : Sig} {a c e : ℕ} → Shows w false s a c e → Quiet s a e
shows-none {w} {s} {a} {c} {e} h t l k = by_le c t (λ j. by_le (c + w) t (λ i. h.low t i k) (λ i. h.level t j i k)) (λ j. h.quiet t l j)

pub shows-off : {w : ℕ} {s : Sig} {a c e : ℕ} → a ≤ c → c ≤ e → Quiet s a e → Shows w false s a c e
shows-off o o' q =
    record { quiet = λ t l k. q t l (omega arith); level = λ t l k j. q t (omega arith) j; low = λ t l k. q t (omega arith) k }

-- from an earlier instant
pub shows-from : {w : ℕ} {b : Bool} {s : Sig} {a a' c e : ℕ} → Quiet s a a' → Shows w b s a' c e → Shows w b s a c e
shows-from {s = s} {a = a} {a' = a'} {c = c} q h = record { quiet = glue s a a' c q h.quiet; level = h.level; low = h.low }

-- of a signal that is another one, up to e
pub shows-is : {w : ℕ} {b : Bool} {s f : Sig} {a c e : ℕ} → a ≤ c → c ≤ e → ((t : ℕ) → a ≤ t → t < e → f t ≡ s t) → Shows w b s a c e → Shows w b f a c e
shows-is o o' q h =
    record {
      quiet = λ t l k. q t l (omega arith) ∙ h.quiet t l k;
      level = λ t l k j. q t (omega arith) j ∙ h.level t l k j;
      low = λ t l k. q t (omega arith) k ∙ h.low t l k;
    }

-- Signals that do not fall -----------------------------------------------------------------------------------------------------------------

-- on [a, b) the signal, once high, stays so
abbrev pub Firm : Sig → ℕ → ℕ → Type 0
Firm s a b = (t : ℕ) → a ≤ t → suc t < b → s t ≡ true → s (suc t) ≡ true

pub pulse-firm : {w : ℕ} {s : Sig} {a e : ℕ} (b : ℕ) → b ≤ a + w → b ≤ e → Pulse w s a e → Firm s a b
pulse-firm b o o' p t l h z = p.high (suc t) (omega arith) (omega arith) (omega arith)

pub quiet-firm : (s : Sig) (a b : ℕ) → Quiet s a b → Firm s a b
quiet-firm s a b q t l h z = not-both z (q t l (omega arith))

pub delayed-firm : (d : ℕ) (s : Sig) (a b : ℕ) → Clear d s a → Firm s a b → Firm (delayed d s) a (b + d)
delayed-firm d s a b c p t l h z =
    by_le d t
    (λ k.
    let q : s (t - d) ≡ true = sym (delayed-at d s (t - d) t (omega arith)) ∙ z in
    by_le a (t - d) (λ j. delayed-at d s (suc (t - d)) (suc t) (omega arith) ∙ p (t - d) j (omega arith) q)
    (λ j. not-both q (c (t - d) j (omega arith))))
    (λ k. not-both z (delayed-off d s t (λ u y. absurd (omega arith))))

pub either-firm : (s g r : Sig) (a b : ℕ) → ((t : ℕ) → r t ≡ (s t || g t)) → Firm s a b → Firm g a b → Firm r a b
either-firm s g r a b e p q t l h z =
    e (suc t) ∙ go (s t) (g t) (sym (e t) ∙ z) (p t l h) (q t l h)
  where
    go : (x y : Bool) → (x || y) ≡ true → (x ≡ true → s (suc t) ≡ true) → (y ≡ true → g (suc t) ≡ true) → (s (suc t) || g (suc t)) ≡ true
    go true y z p q = ap (λ (c : Bool). c || g (suc t)) (p refl)
    go false y z p q = ap (λ (c : Bool). s (suc t) || c) (q z) ∙ one (s (suc t))
      where
        one : (c : Bool) → (c || true) ≡ true
        one true = refl
        one false = refl
