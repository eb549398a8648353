-- The words of the last sixteen cells, one after another in an array. Assumes nothing.
use mathlib.Core.List.{List}
use mathlib.Core.Path.{◌≡◌, refl, sym, ◌∙◌, ap}
use Prim.Native.Nat.{ℕ, zero, suc, ◌+◌, ◌-◌, ◌<◌, ◌≤◌}
use native.Mathlib.Omega.{arith}
use native.Mathlib.Decide.{ℕ_discrete}
use lib.ListN.{length, get_or, set, length-set}
use lib.Seq.{get_or-set_same, get_or-set_other, ext_get_or}
use Rattle.model.specs.declared.Cell.{Cell}
use Rattle.model.specs.NetlistFile.{last_words}

module _ (net : List Cell) (v : ℕ → ℕ) where
  -- the first n of them are in an array of m
  abbrev pub Shown : ℕ → List ℕ → ℕ → Type 0
  Shown m words n = (length words ≡ m) × (n ≤ m) × ((x : ℕ) → x < n → get_or words x 0 ≡ v (length net - 16 + x))

  pub shown-more : (m : ℕ) (words : List ℕ) (n w : ℕ) → Shown m words n → n < m → w ≡ v (length net - 16 + n) → Shown m (set words n w) (n + 1)
  shown-more m words n w S h e = (simp length-set S.0, omega arith, λ x l. go x l (ℕ_discrete x n))
    where
      go : (x : ℕ) → x < n + 1 → Dec (x ≡ n) → get_or (set words n w) x 0 ≡ v (length net - 16 + x)
      go x l (yes q) = rw q (get_or-set_same words n w 0 (omega (arith, S.0)) ∙ e)
      go x l (no q) = get_or-set_other words n x w 0 q ∙ S.2 x (omega arith)

  last-length : (x n : ℕ) → length (last_words net v x n) ≡ n
  unfolding last_words
  last-length x zero = refl
  last-length x (suc n) = ap suc (last-length (x + 1) n)

  last-at : (n x i : ℕ) → i < n → get_or (last_words net v x n) i 0 ≡ v (length net - 16 + (x + i))
  unfolding last_words
  last-at zero x i h = absurd (omega arith)
  last-at (suc n) x zero h = ap v (omega arith)
  last-at (suc n) x (suc i) h = last-at n (x + 1) i (omega arith) ∙ ap v (omega arith)

  pub shown-all : (m : ℕ) (words : List ℕ) → Shown m words m → words ≡ last_words net v 0 m
  shown-all m words S =
      ext_get_or 0 words (last_words net v 0 m) (S.0 ∙ sym (last-length 0 m))
      (λ i h.
      let l : i < m = omega (arith, S.0) in
      S.2 i l ∙ ap v (omega arith) ∙ sym (last-at m 0 i l))
