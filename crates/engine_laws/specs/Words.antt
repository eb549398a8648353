-- Which words an instant changes: a word that looks at no changed register stays, and the others are evaluated again in rising order.
-- Assumes nothing.
use Rattle.std.specs.Prelude.{Bool, true, false, ◌⊎◌, ◌≡◌, ℕ, zero, suc, ◌+◌, ◌*◌, ◌<◌, ◌≤◌, length}
use Rattle.std.proofs.Common.{inl, inr, ⊎_elim, ◌∙◌, not-suc-le-zero, le_of_suc-le-suc, eq-or-lt_of_le, le_refl, arith}
use Rattle.std.proofs.Math.Path.{refl, sym, ap, ap₂}
use Rattle.model.specs.declared.Cell.{Cell}
use Rattle.model.specs.declared.Format.{Format}
use Rattle.model.specs.Word.{operate, index, element_of}
use Rattle.model.specs.Circuit.{Netlist, cell_at, Shape, cell_table, k_constant, k_complement, k_operator, k_start, k_ground, k_delay, k_or, k_when_true, k_when_false, k_merge, k_return, k_memory, k_gated, k_array, k_address, k_read, k_latch, k_unknown}
use Rattle.laws.specs.Refusals.Laws.{not-both}
use Rattle.laws.specs.Circuit.Ordered.{kinds, Looks, Ordered}
use Rattle.laws.specs.State.Passes.{shape_at}
use Rattle.engine_laws.specs.View.{View, shows, Next}
use Rattle.engine_laws.specs.Idle.{Clears, read_low}
use Rattle.engine_laws.specs.Buffers.{Fit}

-- what follows what: D k m says that word k looks at register m, directly or through other words
abbrev pub Follows : Shape → Netlist → (ℕ → ℕ) → (ℕ → ℕ → Bool) → ℕ → Cell → Type 0
Follows k_constant net rank D k c = Unit {0}
Follows k_complement net rank D k c = (m : ℕ) → D c.a m ≡ true → D k m ≡ true
Follows k_operator net rank D k c = (m : ℕ) → ((D c.a m ≡ true → D k m ≡ true) × (D c.b m ≡ true → D k m ≡ true))
Follows k_start net rank D k c = Unit {0}
Follows k_ground net rank D k c = Unit {0}
Follows k_delay net rank D k c = Unit {0}
Follows k_or net rank D k c = Unit {0}
Follows k_when_true net rank D k c = Unit {0}
Follows k_when_false net rank D k c = Unit {0}
Follows k_merge net rank D k c = Unit {0}
Follows k_return net rank D k c = Unit {0}
Follows k_memory net rank D k c = D k (rank k) ≡ true
Follows k_gated net rank D k c = Unit {0}
Follows k_array net rank D k c = Unit {0}
Follows k_address net rank D k c = Unit {0}
Follows k_read net rank D k c = (D k (16 + (cell_at net.cells c.a).delay) ≡ true) × ((m : ℕ) → D c.b m ≡ true → D k m ≡ true)
Follows k_latch net rank D k c = Unit {0}
Follows k_unknown net rank D k c = Unit {0}

-- register m keeps its words from v to w
pub record Same (net : Netlist) (rank : ℕ → ℕ) (v w : View) (m : ℕ) : Type 0 where
  pub memory : (k : ℕ) → k < length net.cells → shape_at net k ≡ k_memory → rank k ≡ m → w.now k ≡ v.now k
  pub array : (a i : ℕ) → a < 4 → i < 64 → 16 + a ≡ m → w.word (64 * a + i) ≡ v.word (64 * a + i)

module _ (net : Netlist) (rank : ℕ → ℕ) (D : ℕ → ℕ → Bool) (g : ℕ → Bool) (v w : View) (K : ℕ → ℕ) (n k : ℕ) (c : Cell)
    (lower : (j : ℕ) → j < k → g j ≡ false → ((m : ℕ) → D j m ≡ true → Same net rank v w m) → w.now j ≡ v.now j) where
  stays-cell : (sh : Shape) → Looks (cell_table sh).row K n k c → Clears sh g k c → Follows sh net rank D k c → Fit sh net v k c
      → (sh ≡ k_memory → Same net rank v w (rank k) → w.now k ≡ v.now k) → (sh ≡ k_read → (cell_at net.cells c.a).delay < 4)
      → w.now k ≡ shows sh net v w k c → g k ≡ false → ((m : ℕ) → D k m ≡ true → Same net rank v w m) → w.now k ≡ v.now k
  unfolding shows cell_table
  stays-cell k_constant o z d f m r e q s = e ∙ sym f
  stays-cell k_complement o z d f m r e q s = e ∙ ap (λ (x : ℕ). operate 3 x 0) (lower c.a o.1.0 z.1 (λ i h. s i (d i h))) ∙ sym f
  stays-cell k_operator o (inl z) d f m r e q s = not-both z.0 q
  stays-cell k_operator o (inr z) d f m r e q s =
      e ∙ ap₂ (λ (x y : ℕ). operate c.kind x y) (lower c.a o.1.0 z.1 (λ i h. s i ((d i).0 h))) (lower c.b o.2.0 z.2 (λ i h. s i ((d i).1 h))) ∙ sym f
  stays-cell k_start o z d f m r e q s = not-both z q
  stays-cell k_ground o z d f m r e q s = not-both z q
  stays-cell k_delay o z d f m r e q s = not-both z.0 q
  stays-cell k_or o z d f m r e q s = not-both z.0 q
  stays-cell k_when_true o z d f m r e q s = not-both z.0 q
  stays-cell k_when_false o z d f m r e q s = not-both z.0 q
  stays-cell k_merge o z d f m r e q s = not-both z.0 q
  stays-cell k_return o z d f m r e q s = not-both z.0 q
  stays-cell k_memory o z d f m r e q s = m refl (s (rank k) d)
  stays-cell k_gated o z d f m r e q s = not-both z.0 q
  stays-cell k_array o z d f m r e q s = e ∙ sym f
  stays-cell k_address o z d f m r e q s = e ∙ sym f
  stays-cell k_read o z d f m r e q s =
      let a = (cell_at net.cells c.a).delay in
      e ∙ (s (16 + a) d.0).array a (index (w.now c.b)) (r refl) (omega arith) refl
      ∙ ap (λ (x : ℕ). v.word (element_of a x)) (lower c.b o.2.0 z.1 (λ i h. s i (d.1 i h))) ∙ sym f
  stays-cell k_latch o z d f m r e q s = absurd f
  stays-cell k_unknown o z d f m r e q s = e ∙ sym f

module _ (F : Format) (net : Netlist) (ordered : Ordered net.cells) (rank : ℕ → ℕ) (D : ℕ → ℕ → Bool) (g : ℕ → Bool)
    (cleared : (k : ℕ) → k < length net.cells → Clears (shape_at net k) g k (cell_at net.cells k))
    (follows : (k : ℕ) → k < length net.cells → Follows (shape_at net k) net rank D k (cell_at net.cells k)) (v w : View) (next : Next F net v w)
    (fit : (k : ℕ) → k < length net.cells → Fit (shape_at net k) net v k (cell_at net.cells k)) where
  stays-below : (n : ℕ) → n ≤ length net.cells → (k : ℕ) → k < n → g k ≡ false → ((m : ℕ) → D k m ≡ true → Same net rank v w m) → w.now k ≡ v.now k
  stays-below zero l k h = absurd (not-suc-le-zero h)
  stays-below (suc n) l k h =
      let ih = stays-below n (omega arith) in
      ⊎_elim (λ (e : k ≡ n).
      rw e
      (stays-cell net rank D g v w (kinds net.cells) (length net.cells) n (cell_at net.cells n) ih (shape_at net n) (ordered.looks n l) (cleared n l) (follows n l) (fit n l)
      (λ y s. s.memory n l y refl) (read_low net ordered n l) (next.present n l)))
      (λ (lt : k < n). ih k lt) (eq-or-lt_of_le (le_of_suc-le-suc h))

  -- A word that looks at no changed register stays.
  pub word-stays : (k : ℕ) → k < length net.cells → g k ≡ false → ((m : ℕ) → D k m ≡ true → Same net rank v w m) → w.now k ≡ v.now k
  word-stays k h = stays-below (length net.cells) (le_refl (length net.cells)) k h

  -- The pass: below i, and where nothing is to be done, the values are the next ones.
  pub record Settling (values : ℕ → ℕ) (todo : ℕ → Bool) (i : ℕ) : Type 0 where
    pub right : (k : ℕ) → k < length net.cells → g k ≡ false → (k < i) ⊎ (todo k ≡ false) → values k ≡ w.now k

  -- what is evaluated at i from such values is the next value there
  settle-cell : (values : ℕ → ℕ) (i : ℕ) → ((j : ℕ) → j < i → g j ≡ false → values j ≡ w.now j) → (sh : Shape) (c : Cell)
      → Looks (cell_table sh).row (kinds net.cells) (length net.cells) i c
      → Clears sh g i c → g i ≡ false → (sh ≡ k_operator) → w.now i ≡ shows sh net v w i c → operate c.kind (values c.a) (values c.b) ≡ w.now i
  unfolding shows cell_table
  settle-cell values i low sh c o z q y e = go (rw y at o) (rw y at z) (rw y at e)
    where
      go : Looks (cell_table k_operator).row (kinds net.cells) (length net.cells) i c → Clears k_operator g i c → w.now i ≡ shows k_operator net v w i c
          → operate c.kind (values c.a) (values c.b) ≡ w.now i
      go o (inl z) e = not-both z.0 q
      go o (inr z) e = ap₂ (λ (x y : ℕ). operate c.kind x y) (low c.a o.1.0 z.1) (low c.b o.2.0 z.2) ∙ sym e

  pub settle-operator : (values : ℕ → ℕ) (todo : ℕ → Bool) (i : ℕ) → Settling values todo i → i < length net.cells → g i ≡ false → shape_at net i ≡ k_operator
      → operate (cell_at net.cells i).kind (values (cell_at net.cells i).a) (values (cell_at net.cells i).b) ≡ w.now i
  settle-operator values todo i s l q y =
      settle-cell values i (λ j h z. s.right j (omega arith) z (inl h)) (shape_at net i) (cell_at net.cells i) (ordered.looks i l) (cleared i l) q y (next.present i l)
