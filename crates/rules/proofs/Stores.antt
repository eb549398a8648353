-- Arrays of words as stores: one word put, all written one by one.
-- Assumes nothing.
use mathlib.Core.Path.{◌≡◌, refl, sym, ◌∙◌, ap, fun_ext}
use mathlib.Core.List.{List}
use Prim.Native.Nat.{ℕ, zero, suc, ◌+◌, ◌≤◌, ◌<◌}
use native.Mathlib.Omega.{arith}
use native.Mathlib.Decide.{ℕ_discrete}
use lib.ListN.{length, get_or, take, set, length-set}
use lib.Seq.{get_or-set_same, get_or-set_other, get_or-take, ext_get_or}
use lib.Dec.{eqb}
use borrow.Author.Tests.{eq-eqb, ne_eqb}
use Rattle.model.specs.Word.{pick}
use Rattle.model.specs.Rules.{Store, put}
use Rattle.model.specs.Calls.{listed}
use Rattle.rules.specs.Ran.{store_of}

-- One word -----------------------------------------------------------------------------------------------------------------------------

pub store-set : (w : List ℕ) (x v : ℕ) → x < length w → store_of (set w x v) ≡ put (store_of w) x v
unfolding store_of put
store-set w x v h = fun_ext (λ y. go y (ℕ_discrete y x))
  where
    go : (y : ℕ) → Dec (y ≡ x) → get_or (set w x v) y 0 ≡ pick (eqb y x) v (get_or w y 0)
    go y (yes e) = rw (eq-eqb y x e, e) (get_or-set_same w x v 0 h)
    go y (no n) = rw (ne_eqb y x n) (get_or-set_other w x y v 0 n)

-- Words, written one by one ------------------------------------------------------------------------------------------------------------

-- of m words the first n are those of σ
abbrev pub Filled : ℕ → List ℕ → Store → ℕ → Type 0
Filled m w σ n = (length w ≡ m) × (n ≤ m) × ((x : ℕ) → x < n → get_or w x 0 ≡ σ x)

pub filled_more : (m : ℕ) (w : List ℕ) (σ : Store) (n v : ℕ) → Filled m w σ n → n < m → v ≡ σ n → Filled m (set w n v) σ (n + 1)
filled_more m w σ n v F h e = (simp length-set F.0, omega arith, λ x l. go x l (ℕ_discrete x n))
  where
    go : (x : ℕ) → x < n + 1 → Dec (x ≡ n) → get_or (set w n v) x 0 ≡ σ x
    go x l (yes q) = rw q (get_or-set_same w n v 0 (omega (arith, F.0)) ∙ e)
    go x l (no q) = get_or-set_other w n x v 0 q ∙ F.2 x (omega arith)

pub length-listed : (σ : Store) (x n : ℕ) → length (listed σ x n) ≡ n
unfolding listed
length-listed σ x zero = refl
length-listed σ x (suc n) = ap suc (length-listed σ (x + 1) n)

pub listed_at : (σ : Store) (n x i : ℕ) → i < n → get_or (listed σ x n) i 0 ≡ σ (x + i)
unfolding listed
listed_at σ zero x i h = absurd (omega arith)
listed_at σ (suc n) x zero h = ap σ (omega arith)
listed_at σ (suc n) x (suc i) h = listed_at σ n (x + 1) i (omega arith) ∙ ap σ (omega arith)

pub filled-listed : (m : ℕ) (w : List ℕ) (σ : Store) → Filled m w σ m → w ≡ listed σ 0 m
filled-listed m w σ F =
    ext_get_or 0 w (listed σ 0 m) (F.0 ∙ sym (length-listed σ 0 m))
    (λ i h.
    let l : i < m = omega (arith, F.0) in
    F.2 i l ∙ ap σ (omega arith) ∙ sym (listed_at σ m 0 i l))

pub taken : (n : ℕ) (w v : List ℕ) → length v ≡ n → v ≡ take n w → v ≡ listed (store_of w) 0 n
unfolding store_of
taken n w v l e =
    filled-listed n v (store_of w) (l, omega arith, λ x m. ap (λ (v : List ℕ). get_or v x 0) e ∙ get_or-take n w x 0 m)
