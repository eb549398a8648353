-- Bytes that are compared one by one: the test tells whether they are the same. Assumes nothing.
use Rattle.std.specs.Prelude.{◌≡◌, refl, true, List, [], ◌∷◌, ℕ, eqb}
use Rattle.std.proofs.Common.{sym, ap₂, subst, true≢false, eqb-true, eq-eqb}
use Rattle.model.specs.Text.{same}
use Rattle.laws.specs.Refusals.Laws.{and-true, and-of}

pub same_bytes : (s t : List ℕ) → same s t ≡ true → s ≡ t
unfolding same
same_bytes [] [] e = refl
same_bytes [] (y ∷ t) e = absurd (true≢false (sym e))
same_bytes (x ∷ s) [] e = absurd (true≢false (sym e))
same_bytes (x ∷ s) (y ∷ t) e = let p = and-true (eqb x y) (same s t) e in ap₂ ◌∷◌ (eqb-true x y p.0) (same_bytes s t p.1)

pub bytes_same : (s t : List ℕ) → s ≡ t → same s t ≡ true
unfolding same
bytes_same s t e = subst (λ (t : List ℕ). same s t ≡ true) e (itself s)
  where
    itself : (s : List ℕ) → same s s ≡ true
    itself [] = refl
    itself (x ∷ s) = and-of (eq-eqb x x refl) (itself s)
