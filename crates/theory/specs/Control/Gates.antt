-- Operators that take their time: the word that an expression's wire shows when each operator shows the result of its inputs as they were its own time
-- earlier; and that it is the expression's word wherever the words that it reads were held for as long as the expression's time.
-- Assumes nothing.
use Rattle.std.specs.Prelude.{ℕ, ◌+◌, ◌-◌, ◌≤◌, ◌<◌, ◌≡◌, refl, Bool, true, false, ◌||◌, eqb, leb}
use Rattle.std.proofs.Common.{◌∙◌, ap, ap₂, arith, le-leb, leb-true, eq-eqb}
use Rattle.std.proofs.Math.Bool.{or-true}
use Rattle.model.specs.Word.{pick, operate, element_word}
use Rattle.model.specs.Program.{Expr, const, var, compl, op, elem, time, reads, array_var}
use Rattle.model.specs.Rules.{Store, owner, eval}
use Rattle.model.specs.Circuit.{Sig, delayed}
use Rattle.model.specs.Gates.{past}
use Rattle.laws.specs.Refusals.Laws.{not-both}
use Rattle.laws.specs.Circuit.Gates.{past_same}
use Rattle.laws.specs.Rules.Words.{owner-variable, owner-element}
use Rattle.laws.specs.Program.Fit.{FormedExpr}
use Rattle.theory.specs.Control.Wiring.{Memory, Reading, ideal}
use Rattle.theory.specs.Control.History.{Stable}

-- the word that e's wire shows; τ k is the operator time of kind k
unfoldable pub shown : (ℕ → ℕ) → Memory → Reading
shown τ m (const n) t = n
shown τ m (var x) t = m t x
shown τ m (compl e) t = operate 3 (past (τ 3) (shown τ m e) t) 0
shown τ m (op k a b) t = operate k (past (τ k) (shown τ m a) t) (past (τ k) (shown τ m b) t)
shown τ m (elem k e) t = past (τ 10) (λ u. m u (element_word k (shown τ m e u))) t

past-at : (d : ℕ) (w : ℕ → ℕ) (t : ℕ) → d ≤ t → past d w t ≡ w (t - d)
unfolding past
past-at d w t o = ap (λ (b : Bool). pick b (w (t - d)) 0) (le-leb d t o)

-- it depends on the words so far
pub shown-same : (τ : ℕ → ℕ) (m m' : Memory) (e : Expr) (t : ℕ) → ((v : ℕ) → v ≤ t → (x : ℕ) → m v x ≡ m' v x) → shown τ m e t ≡ shown τ m' e t
unfolding shown
shown-same τ m m' (const n) t h = refl
shown-same τ m m' (var x) t h = h t (omega arith) x
shown-same τ m m' (compl e) t h =
    ap (λ (v : ℕ). operate 3 v 0) (past_same (τ 3) (shown τ m e) (shown τ m' e) t (λ v l. shown-same τ m m' e v (λ u k. h u (omega arith))))
shown-same τ m m' (op k a b) t h =
    ap₂ (operate k) (past_same (τ k) (shown τ m a) (shown τ m' a) t (λ v l. shown-same τ m m' a v (λ u k. h u (omega arith))))
    (past_same (τ k) (shown τ m b) (shown τ m' b) t (λ v l. shown-same τ m m' b v (λ u k. h u (omega arith))))
shown-same τ m m' (elem k e) t h =
    past_same (τ 10) _ _ t
    (λ v l. h v l (element_word k (shown τ m e v)) ∙ ap (λ (w : ℕ). m' v (element_word k w)) (shown-same τ m m' e v (λ u k. h u (omega arith))))

-- the words that e reads were those of σ since u, and e's time has passed since
pub settled : (τ : ℕ → ℕ) (m : Memory) (e : Expr) → FormedExpr e → (σ : Store) (u t : ℕ) → u + time τ e ≤ t
    → ((x : ℕ) → reads e (owner x) ≡ true → (v : ℕ) → u ≤ v → v ≤ t → m v x ≡ σ x) → shown τ m e t ≡ eval e σ
unfolding shown eval reads time
settled τ m (const n) w σ u t o h = refl
settled τ m (var x) w σ u t o h = h x (eq-eqb (owner x) x (owner-variable x w)) t (omega arith) (omega arith)
settled τ m (compl e) w σ u t o h =
    ap (λ (v : ℕ). operate 3 v 0)
    (past-at (τ 3) (shown τ m e) t (omega arith)
    ∙ settled τ m e w σ u (t - τ 3) (omega arith) (λ x r v l k. h x r v l (omega arith)))
settled τ m (op k a b) w σ u t o h =
    ap₂ (operate k)
    (past-at (τ k) (shown τ m a) t (omega arith)
    ∙ settled τ m a w.2 σ u (t - τ k) (omega arith) (λ x r v l j. h x (ap (λ (z : Bool). z || reads b (owner x)) r) v l (omega arith)))
    (past-at (τ k) (shown τ m b) t (omega arith)
    ∙ settled τ m b w.3 σ u (t - τ k) (omega arith)
    (λ x r v l j. h x (ap (λ (z : Bool). reads a (owner x) || z) r ∙ or-true (reads a (owner x))) v l (omega arith)))
settled τ m (elem k e) w σ u t o h =
    past-at (τ 10) (λ v. m v (element_word k (shown τ m e v))) t (omega arith)
    ∙ ap (λ (y : ℕ). m (t - τ 10) (element_word k y))
    (settled τ m e w.1 σ u (t - τ 10) (omega arith)
    (λ x r v l j. h x (ap (λ (z : Bool). eqb (owner x) (array_var k) || z) r ∙ or-true (eqb (owner x) (array_var k))) v l (omega arith)))
    ∙ h (element_word k (eval e σ))
    (ap (λ (z : Bool). z || reads e (owner (element_word k (eval e σ)))) (eq-eqb (owner (element_word k (eval e σ))) (array_var k) (owner-element k (eval e σ))))
    (t - τ 10) (omega arith) (omega arith)

-- a pulse that leaves a delay has entered it
entered : (d : ℕ) (p : Sig) (t : ℕ) → delayed d p t ≡ true → (u : ℕ) × (u + d ≡ t) × (p u ≡ true)
unfolding delayed
entered d p t h = go (leb d t) refl h
  where
    go : (b : Bool) → leb d t ≡ b → pick b (p (t - d)) false ≡ true → (u : ℕ) × (u + d ≡ t) × (p u ≡ true)
    go true e k = (t - d, omega (arith, leb-true d t e), k)
    go false e k = not-both k refl

-- Where a word is used at the end of a delay that covers its expression's time, and was held since the pulse entered it, the slow wire shows it
pub used-word : (τ : ℕ → ℕ) (m : Memory) (d : ℕ) (e : Expr) (p : Sig) (c : ℕ) → FormedExpr e → time τ e ≤ d → Stable m d e p c
    → (t : ℕ) → t < c → delayed d p t ≡ true → shown τ m e t ≡ ideal m e t
used-word τ m d e p c w long st t l y =
    let u = entered d p t y in
    settled τ m e w (m t) u.0 t (omega (arith, u.1)) (st u.0 t u.1 l u.2)
