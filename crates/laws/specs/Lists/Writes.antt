-- The algebra of writes. `sets d i v` is d with v put in from i on. Two writes side by side are one write of both, and writes apart may change
-- places; these laws hold of lists that are too short, too. Assumes nothing.
use Rattle.std.specs.Prelude.{List, [], ◌∷◌, ◌++◌, ◌≡◌, refl, ℕ, suc, ◌+◌, ◌<◌, ◌≤◌, length, set}
use Rattle.std.proofs.Common.{sym, ◌∙◌, arith}
use Rattle.std.proofs.lemmas.List.Edits.{sets}
use Rattle.std.proofs.lemmas.List.{set_comm}

pub sets-append : (d : List ℕ) (i : ℕ) (u v : List ℕ) → sets d i (u ++ v) ≡ sets (sets d i u) (i + length u) v
sets-append d i [] v = let e : i + 0 ≡ i = omega arith in rw e refl
sets-append d i (a ∷ u) v = let e : i + suc (length u) ≡ suc i + length u = omega arith in rw e (sets-append (set d i a) (suc i) u v)

set-sets : (d : List ℕ) (i a j : ℕ) (v : List ℕ) → i < j → set (sets d j v) i a ≡ sets (set d i a) j v
set-sets d i a j [] h = refl
set-sets d i a j (b ∷ v) h = rw (set_comm d i j a b (λ e. omega arith)) (set-sets (set d j b) i a (suc j) v (omega arith))

pub sets-swap : (d : List ℕ) (i : ℕ) (u : List ℕ) (j : ℕ) (v : List ℕ) → i + length u ≤ j → sets (sets d j v) i u ≡ sets (sets d i u) j v
sets-swap d i [] j v h = refl
sets-swap d i (a ∷ u) j v h = rw (set-sets d i a j v (omega arith)) (sets-swap (set d i a) (suc i) u j v (omega arith))

pub sets-before : (d : List ℕ) (i : ℕ) (u v : List ℕ) → sets (sets d (i + length u) v) i u ≡ sets d i (u ++ v)
sets-before d i u v = sets-swap d i u (i + length u) v (omega arith) ∙ sym (sets-append d i u v)
