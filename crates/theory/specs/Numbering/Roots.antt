-- Where each root of a program stands in its netlist: its callers' 35s, its delays and its walk; and what the roots give together.
-- Assumes nothing.
use Rattle.std.specs.Prelude.{◌≡◌, Bool, true, false, eqb, get_or}
use Rattle.std.proofs.Math.Path.{refl, ap, ap₂}
use Rattle.std.proofs.Common.{◌∙◌, le_of_suc-le-suc, eqb→eq}
use Rattle.std.proofs.Math.Bool.{◌||◌, or-true}
use mathlib.Core.List.{List, [], ◌∷◌, ◌++◌}
use Prim.Native.Nat.{ℕ, zero, suc, ◌+◌, ◌<◌, ◌≤◌, suc-le-suc}
use Rattle.std.proofs.Math.Nat.{add-zero}
use native.Mathlib.Omega.{arith}
use Rattle.std.proofs.Math.ListN.{length}
use Rattle.std.specs.Int.Bits.{bit_or, or_zero_r}
use Rattle.std.proofs.lemmas.Nat.{or_comm}
use Rattle.model.specs.declared.Cell.{Cell}
use Rattle.model.specs.Program.{Code, ok, tick, assign, assign_elem, seq, par, ite, while, repeat, loop, exit, call}
use Rattle.model.specs.Circuit.{Values}
use Rattle.model.specs.Numbering.{Wires, if_delay_count, delay_count, walk_count, finish_wire, delays, walk, call_sources, ors, or_count, Source, wires_of, root_start, root_walk, past_root, root_finishes, root_delays, root_walks, root_sources, root_walk_sources}
use Rattle.laws.specs.Refusals.Laws.{is_false}
use Rattle.laws.specs.Program.Fit.{Earlier}
use Rattle.laws.specs.Numbering.Cells.{All, split, join}
use Rattle.laws.specs.Numbering.Lengths.{ors-len, d-len, w-len}
use Rattle.theory.specs.Numbering.Levels.{any_high, all_or, clk_of, dat_of, wires-append, any_append, or-append}

-- where root j of some begins: its delays, and its callers' 35s
unfoldable pub delays_at : List Code → ℕ → ℕ → ℕ
delays_at [] d j = d
delays_at (P ∷ Ps) d zero = d
delays_at (P ∷ Ps) d (suc j) = delays_at Ps (d + delay_count P) j

unfoldable pub joins_at : List Source → ℕ → List Code → ℕ → ℕ → ℕ
joins_at cs r [] c j = c
joins_at cs r (P ∷ Ps) c zero = c
joins_at cs r (P ∷ Ps) c (suc j) = joins_at cs (r + 1) Ps (past_root cs r P c) j

-- R of the cells of root r, which is P, where its delays stand at d and its callers' 35s at c
pub record AtRoot (pulse : ℕ) (R : ℕ → Cell → Type 0) (M : Wires) (F : ℕ → ℕ) (z : ℕ) (cs : List Source) (r : ℕ) (P : Code) (d c : ℕ) : Type 0 where
  pub joins : All R c (ors 35 c (wires_of r cs))
  pub delays : All R d (delays pulse P (root_start z cs r c) d (root_walk cs r c))
  pub walk : All R (root_walk cs r c) (walk M F P (root_start z cs r c) d (root_walk cs r c))

module _ (pulse : ℕ) (R : ℕ → Cell → Type 0) (M : Wires) (F : ℕ → ℕ) (z : ℕ) (cs : List Source) where
  pub roots-apart : (r : ℕ) (Ps : List Code) (d c : ℕ) → All R d (root_delays pulse z cs r Ps d c) → All R c (root_walks M F z cs r Ps d c) → (j : ℕ) → j < length Ps
      → AtRoot pulse R M F z cs (r + j) (get_or Ps j ok) (delays_at Ps d j) (joins_at cs r Ps c j)
  unfolding root_delays root_walks delays_at joins_at
  roots-apart r [] d c hd hw j l = absurd (omega arith)
  roots-apart r (P ∷ Ps) d c hd hw j l =
      let s = root_start z cs r c in
      let c₀ = root_walk cs r c in
      let d₁ = d + delay_count P in
      let c₁ = past_root cs r P c in
      let ds = root_delays pulse z cs (r + 1) Ps d₁ c₁ in
      let ws = root_walks M F z cs (r + 1) Ps d₁ c₁ in
      let qd = split R d (delay_count P) (delays pulse P s d c₀) ds (d-len pulse P s d c₀) hd in
      let qo = split R c (or_count (wires_of r cs)) (ors 35 c (wires_of r cs)) (walk M F P s d c₀ ++ ws) (ors-len 35 c (wires_of r cs)) hw in
      let qw = split R c₀ (walk_count P) (walk M F P s d c₀) ws (w-len M F P s d c₀) qo.1 in
      at j l (record { joins = qo.0; delays = qd.0; walk = qw.0 }) (roots-apart (r + 1) Ps d₁ c₁ qd.1 qw.1)
    where
      at : (j : ℕ) → j < length (P ∷ Ps) → AtRoot pulse R M F z cs r P d c
          → ((j : ℕ) → j < length Ps
          → AtRoot pulse R M F z cs (r + 1 + j) (get_or Ps j ok) (delays_at Ps (d + delay_count P) j) (joins_at cs (r + 1) Ps (past_root cs r P c) j))
          → AtRoot pulse R M F z cs (r + j) (get_or (P ∷ Ps) j ok) (delays_at (P ∷ Ps) d j) (joins_at cs r (P ∷ Ps) c j)
      at zero l h k = rw add-zero h
      at (suc j) l h k =
          let q : r + 1 + j ≡ r + suc j = omega arith in
          rw q at (k j (le_of_suc-le-suc l))

  pub roots-together : (r : ℕ) (Ps : List Code) (d c : ℕ)
      → ((j : ℕ) → j < length Ps → AtRoot pulse R M F z cs (r + j) (get_or Ps j ok) (delays_at Ps d j) (joins_at cs r Ps c j))
      → All R d (root_delays pulse z cs r Ps d c) × All R c (root_walks M F z cs r Ps d c)
  unfolding root_delays root_walks delays_at joins_at
  roots-together r [] d c h = (tt, tt)
  roots-together r (P ∷ Ps) d c h =
      let s = root_start z cs r c in
      let c₀ = root_walk cs r c in
      let d₁ = d + delay_count P in
      let c₁ = past_root cs r P c in
      let ds = root_delays pulse z cs (r + 1) Ps d₁ c₁ in
      let ws = root_walks M F z cs (r + 1) Ps d₁ c₁ in
      let a : AtRoot pulse R M F z cs r P d c = rw add-zero at (h 0 (omega arith)) in
      let next : (j : ℕ) → r + 1 + j ≡ r + suc j = λ j. omega arith in
      let b = roots-together (r + 1) Ps d₁ c₁ (λ j l. rw (next j) (h (suc j) (suc-le-suc l))) in (
        join R d (delay_count P) (delays pulse P s d c₀) ds (d-len pulse P s d c₀) a.delays b.0,
        join R c (or_count (wires_of r cs)) (ors 35 c (wires_of r cs)) (walk M F P s d c₀ ++ ws) (ors-len 35 c (wires_of r cs)) a.joins
            (join R c₀ (walk_count P) (walk M F P s d c₀) ws (w-len M F P s d c₀) a.walk b.1),
      )

-- the finish of root j
pub finish-at : (z : ℕ) (cs : List Source) (r : ℕ) (Ps : List Code) (d c j : ℕ) → j < length Ps
    → get_or (root_finishes z cs r Ps d c) j 1
    ≡ finish_wire (get_or Ps j ok) (root_start z cs (r + j) (joins_at cs r Ps c j)) (delays_at Ps d j) (root_walk cs (r + j) (joins_at cs r Ps c j))
unfolding root_finishes delays_at joins_at
finish-at z cs r [] d c j l = absurd (omega arith)
finish-at z cs r (P ∷ Ps) d c zero l = rw add-zero refl
finish-at z cs r (P ∷ Ps) d c (suc j) l =
    let q : r + 1 + j ≡ r + suc j = omega arith in
    rw q at (finish-at z cs (r + 1) Ps (d + delay_count P) (past_root cs r P c) j (le_of_suc-le-suc l))

-- What the roots give together -----------------------------------------------------------------------------------------------------------

or_zero_l : (a : ℕ) → bit_or 0 a ≡ a
or_zero_l a = or_comm 0 a ∙ or_zero_r a

module _ (W : Values) (sources : Code → ℕ → List Source) (y t : ℕ) where
  -- by delay cells: what none gives is not given, and what one gives is
  abbrev pub given_at : List Code → ℕ → ℕ → Bool
  given_at Ps d j = clk_of W (sources (get_or Ps j ok) (delays_at Ps d j)) y t

  pub none-gives : (Ps : List Code) (d : ℕ) → ((j : ℕ) → j < length Ps → given_at Ps d j ≡ false) → clk_of W (root_sources sources Ps d) y t ≡ false
  unfolding root_sources delays_at
  none-gives [] d h = unfold any_high wires_of in refl
  none-gives (P ∷ Ps) d h =
      rw wires-append
      (any_append W (wires_of y (sources P d)) (wires_of y (root_sources sources Ps (d + delay_count P))) t
      ∙ ap₂ ◌||◌ (h 0 (omega arith)) (none-gives Ps (d + delay_count P) (λ j l. h (suc j) (suc-le-suc l))))

  pub one-gives : (Ps : List Code) (d j : ℕ) → j < length Ps → given_at Ps d j ≡ true → clk_of W (root_sources sources Ps d) y t ≡ true
  unfolding root_sources delays_at
  one-gives [] d j l h = absurd (omega arith)
  one-gives (P ∷ Ps) d zero l h =
      rw wires-append
      (any_append W (wires_of y (sources P d)) (wires_of y (root_sources sources Ps (d + delay_count P))) t
      ∙ ap (λ (b : Bool). b || any_high W (wires_of y (root_sources sources Ps (d + delay_count P))) t) h)
  one-gives (P ∷ Ps) d (suc j) l h =
      rw wires-append
      (any_append W (wires_of y (sources P d)) (wires_of y (root_sources sources Ps (d + delay_count P))) t
      ∙ ap (λ (b : Bool). any_high W (wires_of y (sources P d)) t || b) (one-gives Ps (d + delay_count P) j (le_of_suc-le-suc l) h)
      ∙ or-true (any_high W (wires_of y (sources P d)) t))

  -- by walk cells: the word of the one that gives one
  abbrev pub word_at : List Source → ℕ → List Code → ℕ → ℕ → ℕ
  word_at cs r Ps c j = dat_of W (sources (get_or Ps j ok) (root_walk cs (r + j) (joins_at cs r Ps c j))) y t

  later : (cs : List Source) (r : ℕ) (P : Code) (Ps : List Code) (c j : ℕ) → word_at cs (r + 1) Ps (past_root cs r P c) j ≡ word_at cs r (P ∷ Ps) c (suc j)
  unfolding joins_at
  later cs r P Ps c j =
      let q : r + 1 + j ≡ r + suc j = omega arith in
      ap (λ (k : ℕ). dat_of W (sources (get_or Ps j ok) (root_walk cs k (joins_at cs (r + 1) Ps (past_root cs r P c) j))) y t) q

  no_word : (cs : List Source) (r : ℕ) (Ps : List Code) (c : ℕ) → ((j : ℕ) → j < length Ps → word_at cs r Ps c j ≡ 0)
      → dat_of W (root_walk_sources sources cs r Ps c) y t ≡ 0
  unfolding root_walk_sources
  no_word cs r [] c h = unfold all_or wires_of in refl
  no_word cs r (P ∷ Ps) c h =
      let here : dat_of W (sources P (root_walk cs r c)) y t ≡ 0 = unfold joins_at in rw add-zero at (h 0 (omega arith)) in
      rw wires-append
      (or-append W (wires_of y (sources P (root_walk cs r c))) (wires_of y (root_walk_sources sources cs (r + 1) Ps (past_root cs r P c))) t
      ∙ ap₂ bit_or here
      (no_word cs (r + 1) Ps (past_root cs r P c) (λ j l. later cs r P Ps c j ∙ h (suc j) (suc-le-suc l)))
      ∙ or_zero_r 0)

  pub one_word : (cs : List Source) (r : ℕ) (Ps : List Code) (c j : ℕ) → j < length Ps
      → ((i : ℕ) → i < length Ps → (i ≡ j → ⊥) → word_at cs r Ps c i ≡ 0) → dat_of W (root_walk_sources sources cs r Ps c) y t ≡ word_at cs r Ps c j
  unfolding root_walk_sources
  one_word cs r [] c j l h = absurd (omega arith)
  one_word cs r (P ∷ Ps) c zero l h =
      let here : dat_of W (sources P (root_walk cs r c)) y t ≡ word_at cs r (P ∷ Ps) c 0 = unfold joins_at in rw add-zero refl in
      rw wires-append
      (or-append W (wires_of y (sources P (root_walk cs r c))) (wires_of y (root_walk_sources sources cs (r + 1) Ps (past_root cs r P c))) t
      ∙ ap₂ bit_or here
      (no_word cs (r + 1) Ps (past_root cs r P c) (λ j l. later cs r P Ps c j ∙ h (suc j) (suc-le-suc l) (λ e. omega arith)))
      ∙ or_zero_r (word_at cs r (P ∷ Ps) c 0))
  one_word cs r (P ∷ Ps) c (suc j) l h =
      let here : dat_of W (sources P (root_walk cs r c)) y t ≡ 0 = unfold joins_at in rw add-zero at (h 0 (omega arith) (λ e. omega arith)) in
      rw wires-append
      (or-append W (wires_of y (sources P (root_walk cs r c))) (wires_of y (root_walk_sources sources cs (r + 1) Ps (past_root cs r P c))) t
      ∙ ap₂ bit_or here
      (one_word cs (r + 1) Ps (past_root cs r P c) j (le_of_suc-le-suc l)
      (λ i o n. later cs r P Ps c i ∙ h (suc i) (suc-le-suc o) (λ e. n (omega arith))) ∙ later cs r P Ps c j)
      ∙ or_zero_l (word_at cs r (P ∷ Ps) c (suc j)))

-- Nobody calls a procedure that is not below -----------------------------------------------------------------------------------------------

single : (p q d : ℕ) → p < q → wires_of q ((p, d) ∷ []) ≡ []
unfolding wires_of
single p q d l = rw (is_false (eqb p q) (λ z. let e : p ≡ q = eqb→eq p q z in omega arith))

no-calls : (k : ℕ) (P : Code) → Earlier k P → (q d : ℕ) → k ≤ q → wires_of q (call_sources P d) ≡ []
unfolding call_sources
no-calls k ok w q d h = unfold wires_of in refl
no-calls k (tick δ) w q d h = unfold wires_of in refl
no-calls k (assign δ x e) w q d h = unfold wires_of in refl
no-calls k (assign_elem δ j i e) w q d h = unfold wires_of in refl
no-calls k (seq P Q) w q d h = simp (wires-append, no-calls k P w.0 q d h, no-calls k Q w.1 q (d + delay_count P) h)
no-calls k (par P Q) w q d h = simp (wires-append, no-calls k P w.0 q d h, no-calls k Q w.1 q (d + delay_count P) h)
no-calls k (ite δ e P Q) w q d h =
    simp (wires-append, no-calls k P w.2 q (d + if_delay_count δ) h, no-calls k Q w.3 q (d + if_delay_count δ + delay_count P) h)
no-calls k (while δ e P) w q d h = no-calls k P w.2 q (d + 1) h
no-calls k (repeat δ e P) w q d h = no-calls k P w.2 q (d + 1) h
no-calls k (loop δ P) w q d h = no-calls k P w.1 q (d + 1) h
no-calls k exit w q d h = unfold wires_of in refl
no-calls k (call δ p) w q d h = single p q d (omega (arith, w.1))

pub never-called : (k : ℕ) (Ps : List Code) → ((j : ℕ) → j < length Ps → Earlier k (get_or Ps j ok)) → (d : ℕ) → wires_of k (root_sources call_sources Ps d) ≡ []
unfolding root_sources
never-called k [] h d = unfold wires_of in refl
never-called k (P ∷ Ps) h d =
    simp (wires-append, no-calls k P (h 0 (omega arith)) k d (omega arith), never-called k Ps (λ j l. h (suc j) (suc-le-suc l)) (d + delay_count P))
