-- Equations of cells that look only at lower cells and at the past: the values that are worked out instant by instant, and within an instant cell by
-- cell, solve them, and no others do.
-- Assumes nothing.
use Rattle.std.specs.Prelude.{◌≡◌}
use Rattle.std.proofs.Math.Path.{refl, sym, ap, subst}
use Rattle.std.proofs.Common.{◌∙◌, not-suc-le-zero, le_of_suc-le-suc, eq-or-lt_of_le, le_refl, add-zero, arith, get_or-append-add}
use mathlib.Core.List.{List, [], ◌∷◌, ◌++◌}
use Rattle.std.proofs.Math.Logic.{⊎_elim}
use Prim.Native.Nat.{ℕ, zero, suc, ◌+◌, ◌<◌, ◌≤◌}
use Rattle.std.proofs.Math.ListN.{length, get_or, length-append, get_or-append}
use Rattle.model.specs.Circuit.{Values}
use Rattle.model.specs.Gates.{values_in, row_from, history, worked}

-- of n cells: equal at every cell before instant t, and at the cells below k at t
abbrev pub Alike : ℕ → Values → Values → ℕ → ℕ → Type 0
Alike n U W t k = ((u : ℕ) → u < t → (j : ℕ) → j < n → U j u ≡ W j u) × ((j : ℕ) → j < k → U j t ≡ W j t)

-- F W k t is what cell k of n shows at instant t, from the values W of lower cells and of the past
abbrev pub Causal : ℕ → (Values → ℕ → ℕ → ℕ) → Type 0
Causal n F = (U W : Values) (k t : ℕ) → k < n → Alike n U W t k → F U k t ≡ F W k t

abbrev pub Solves : ℕ → (Values → ℕ → ℕ → ℕ) → Values → Type 0
Solves n F W = (k : ℕ) → k < n → (t : ℕ) → W k t ≡ F W k t

module _ (n : ℕ) (F : Values → ℕ → ℕ → ℕ) (causal : Causal n F) (U W : Values) (hU : Solves n F U) (hW : Solves n F W) where
  -- at instant t, if they are equal before
  row : (t : ℕ) → ((u : ℕ) → u < t → (j : ℕ) → j < n → U j u ≡ W j u) → (k : ℕ) → k ≤ n → (j : ℕ) → j < k → U j t ≡ W j t
  row t h zero l j lj = absurd (not-suc-le-zero lj)
  row t h (suc k) l j lj =
      let ih = row t h k (omega arith) in
      ⊎_elim (λ (e : j ≡ k). rw e (hU k l t ∙ causal U W k t l (h, ih) ∙ sym (hW k l t))) (λ (lt : j < k). ih j lt)
      (eq-or-lt_of_le (le_of_suc-le-suc lj))

  rows : (t : ℕ) (u : ℕ) → u < t → (j : ℕ) → j < n → U j u ≡ W j u
  rows zero u l j lj = absurd (not-suc-le-zero l)
  rows (suc t) u l j lj =
      ⊎_elim (λ (e : u ≡ t). rw e (row t (rows t) n (le_refl n) j lj)) (λ (lt : u < t). rows t u lt j lj) (eq-or-lt_of_le (le_of_suc-le-suc l))

  pub one : (k : ℕ) → k < n → (t : ℕ) → U k t ≡ W k t
  one k l t = rows (suc t) t (le_refl (suc t)) k l

-- The values that are worked out -------------------------------------------------------------------------------------------------------------

-- the last of a list
last-at : {A : Type 0} (xs : List A) (y d : A) → get_or (xs ++ (y ∷ [])) (length xs) d ≡ y
last-at xs y d = ap (λ (k : ℕ). get_or (xs ++ (y ∷ [])) k d) (sym (add-zero (length xs))) ∙ get_or-append-add xs (y ∷ []) 0 d

module _ (F : Values → ℕ → ℕ → ℕ) where
  module _ (H : List (List ℕ)) where
    abbrev next : List ℕ → List ℕ
    next row = row ++ (F (values_in (H ++ (row ∷ []))) (length row) (length H) ∷ [])

    next-length : (row : List ℕ) → length (next row) ≡ length row + 1
    next-length row = length-append row _

    -- what stands in a row stays
    row_keeps : (row : List ℕ) (n j : ℕ) → j < length row → get_or (row_from F H row n) j 0 ≡ get_or row j 0
    unfolding row_from
    row_keeps row zero j l = refl
    row_keeps row (suc n) j l = row_keeps (next row) n j (omega (arith, next-length row)) ∙ get_or-append row _ 0 j l

    -- cell k is what F makes of the row before it
    row-cell : (row : List ℕ) (n k : ℕ) → length row ≤ k → k < length row + n
        → (before : List ℕ) × (length before ≡ k) × ((j : ℕ) → j < k → get_or before j 0 ≡ get_or (row_from F H row n) j 0)
        × (get_or (row_from F H row n) k 0 ≡ F (values_in (H ++ (before ∷ []))) k (length H))
    unfolding row_from
    row-cell row zero k l h = absurd (omega arith)
    row-cell row (suc n) k l h =
        let e = next-length row in
        ⊎_elim
        (λ (q : length row ≡ k). (
          row,
          q,
          (λ j i. sym (row_keeps row (suc n) j (omega arith))),
          subst (λ (k : ℕ). get_or (row_from F H (next row) n) k 0 ≡ F (values_in (H ++ (row ∷ []))) k (length H)) q
              (row_keeps (next row) n (length row) (omega (arith, e)) ∙ last-at row _ 0),
        ))
        (λ (q : length row < k). row-cell (next row) n k (omega (arith, e)) (omega (arith, e))) (eq-or-lt_of_le l)

  module _ (n : ℕ) where
    history-length : (t : ℕ) → length (history F n t) ≡ t
    unfolding history
    history-length zero = refl
    history-length (suc t) = length-append (history F n t) _ ∙ omega (arith, history-length t)

    abbrev row_at : ℕ → List ℕ
    row_at t = row_from F (history F n t) [] n

    history-row : (t : ℕ) → get_or (history F n (suc t)) t [] ≡ row_at t
    unfolding history
    history-row t = ap (λ (k : ℕ). get_or (history F n t ++ (row_at t ∷ [])) k []) (sym (history-length t)) ∙ last-at (history F n t) (row_at t) []

    history-keeps : (t u : ℕ) → u < t → get_or (history F n t) u [] ≡ row_at u
    unfolding history
    history-keeps zero u l = absurd (not-suc-le-zero l)
    history-keeps (suc t) u l =
        ⊎_elim (λ (e : u ≡ t). rw e (history-row t))
        (λ (lt : u < t).
        let l' : u < length (history F n t) = rw (history-length t) lt in
        get_or-append (history F n t) (row_at t ∷ []) [] u l' ∙ history-keeps t u lt) (eq-or-lt_of_le (le_of_suc-le-suc l))

    pub worked-row : (k t : ℕ) → worked F n k t ≡ get_or (row_at t) k 0
    unfolding worked
    worked-row k t = ap (λ (r : List ℕ). get_or r k 0) (history-row t)

    pub worked-solves : Causal n F → Solves n F (worked F n)
    worked-solves causal k l t =
        let H = history F n t in
        let e : length H ≡ t = history-length t in
        let c = row-cell H [] n k (omega arith) (omega arith) in
        let before = c.0 in
        worked-row k t
        ∙ c.3
        ∙ ap (λ (u : ℕ). F (values_in (H ++ (before ∷ []))) k u) e
        ∙ causal (values_in (H ++ (before ∷ []))) (worked F n) k t l (
          (λ u lu j lj.
              ap (λ (r : List ℕ). get_or r j 0) (get_or-append H (before ∷ []) [] u (rw e lu) ∙ history-keeps t u lu) ∙ sym (worked-row j u)),
          (λ j lj.
              ap (λ (u : ℕ). get_or (get_or (H ++ (before ∷ [])) u []) j 0) (sym e)
              ∙ ap (λ (r : List ℕ). get_or r j 0) (last-at H before [])
              ∙ c.2 j lj
              ∙ sym (worked-row j t)),
        )
