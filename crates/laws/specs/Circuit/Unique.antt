-- Two sets of values that obey one netlist are equal, and so are their arrays' words, if its cells look only at lower cells and at the past.
use Rattle.std.specs.Prelude.{◌≡◌, Bool, ◌&&◌, ◌||◌, List}
use Rattle.std.proofs.Math.Path.{refl, ap, ap₂}
use Rattle.std.proofs.Common.{sym, ◌∙◌, ⊎_elim, eq-or-lt_of_le, le_refl, arith, eqb-true}
use Rattle.std.proofs.Math.Bool.{true, false, not}
use Prim.Native.Nat.{ℕ, zero, suc, ◌+◌, ◌-◌, ◌<◌, ◌≤◌}
use Rattle.std.proofs.Math.Dec.{eqb, leb, leb→le}
use Rattle.std.proofs.Math.ListN.{length}
use Rattle.laws.specs.Circuit.Ordered.{Looks, kinds, Ordered}
use Rattle.model.specs.Word.{pick, bit, operate, index}
use Rattle.model.specs.declared.Cell.{Cell}
use Rattle.model.specs.declared.Merged.{Merged}
use Rattle.model.specs.Circuit.{cell_at, array_at, delayed, merged, merge_step, return_step, Step, merged_before, Sig, Values, level, memory, latch, element, Shape, cell_table, shape, cell_row, equation, start_word, Obeys, Netlist}
use Rattle.laws.specs.Numbering.Cells.{cell_val}
use Rattle.laws.specs.Circuit.Causal.{Alike, Causal, one}
use Rattle.model.specs.Circuit.{k_constant, k_complement, k_operator, k_start, k_ground, k_delay, k_or, k_when_true, k_when_false, k_merge, k_return, k_memory, k_gated, k_array, k_address, k_read, k_latch, k_unknown}

-- what the words of an array look at, if its kind 42 is cell j: clock, data and address
abbrev pub Feeds : List Cell → ℕ → Type 0
Feeds net j = ((cell_at net j).a < j) × ((cell_at net j).b < length net) × ((cell_at net (j + 1)).a < length net)

-- the inputs of a 42 and of a 43, by their rows
module _ (K : ℕ → ℕ) (n j : ℕ) (c : Cell) (kind : ℕ) where
  array-inputs : kind ≡ 42 → Looks (cell_row kind) K n j c → (c.a < j) × (c.b < n)
  unfolding shape cell_table
  array-inputs q o =
      let h : Looks (cell_row 42) K n j c = rw q at o in
      (h.1.0, h.2.0)

  address-input : kind ≡ 43 → Looks (cell_row kind) K n j c → c.a < n
  unfolding shape cell_table
  address-input q o =
      let h : Looks (cell_row 43) K n j c = rw q at o in
      h.1.0

pub feeds : (net : List Cell) → Ordered net → (j : ℕ) → j < length net → (cell_at net j).kind ≡ 42 → Feeds net j
feeds net o j l q =
    let r = array-inputs (kinds net) (length net) j (cell_at net j) (cell_at net j).kind q (o.looks j l) in
    let s = o.stands j l q in
    let p = o.arrays (cell_at net j).delay s.0 in
    let e : array_at net (cell_at net j).delay + 1 ≡ j + 1 = ap (λ (m : ℕ). m + 1) (sym s.1) in
    let b : j + 1 < length net = rw e at p.0 in
    let k : (cell_at net (j + 1)).kind ≡ 43 = rw e at p.3 in
    (r.0, r.1, address-input (kinds net) (length net) (j + 1) (cell_at net (j + 1)) (cell_at net (j + 1)).kind k (o.looks (j + 1) b))

module _ (net : List Cell) (words : ℕ → ℕ) (U W : Values) where
  abbrev pub Before : ℕ → ℕ → Type 0
  Before t k = Alike (length net) U W t k

  -- a cell below k that is equal up to and with instant t
  pub upto : (t k : ℕ) → k < length net → Before t k → (j : ℕ) → j < k → (u : ℕ) → u ≤ t → U j u ≡ W j u
  upto t k l h j lj u lu =
      ⊎_elim (λ (e : u ≡ t). rw e (h.1 j lj)) (λ (lt : u < t). h.0 u lt j (omega arith)) (eq-or-lt_of_le lu)

  held-cong : (step : Step) (a b : ℕ) (t : ℕ) → ((u : ℕ) → u < t → U a u ≡ W a u) → ((u : ℕ) → u < t → U b u ≡ W b u)
      → merged_before step (level U a) (level U b) t ≡ merged_before step (level W a) (level W b) t
  unfolding merged_before
  held-cong step a b zero h h' = refl
  held-cong step a b (suc t) h h' =
      let e = held-cong step a b t (λ u l. h u (omega arith)) (λ u l. h' u (omega arith)) in
      let ea : U a t ≡ W a t = h t (omega arith) in
      let eb : U b t ≡ W b t = h' t (omega arith) in
      λ i. step (e i).out (e i).held (eqb (ea i) 1) (eqb (eb i) 1)

  pub merged-cong : (step : Step) (a b : ℕ) (t : ℕ) → ((u : ℕ) → u ≤ t → U a u ≡ W a u) → ((u : ℕ) → u ≤ t → U b u ≡ W b u)
      → merged step (level U a) (level U b) t ≡ merged step (level W a) (level W b) t
  unfolding merged
  merged-cong step a b t h h' =
      ap (λ (m : Merged). m.out) (held-cong step a b (suc t) (λ u l. h u (omega arith)) (λ u l. h' u (omega arith)))

  pub delayed-here : (d a t : ℕ) → 1 ≤ d → ((u : ℕ) → u < t → U a u ≡ W a u) → delayed d (level U a) t ≡ delayed d (level W a) t
  unfolding delayed
  delayed-here d a t l h = go (leb d t) refl
    where
      go : (q : Bool) → leb d t ≡ q → pick (leb d t) (level U a (t - d)) false ≡ pick (leb d t) (level W a (t - d)) false
      go true e =
          let le : d ≤ t = leb→le d t (rw e tt) in
          ap (λ (v : ℕ). pick (leb d t) (eqb v 1) false) (h (t - d) (omega arith))
      go false e = rw e

  mem-cong : (first t k : ℕ) (c : Cell) → k < length net → c.a < k → c.b < length net → Before t k → memory first U k c t ≡ memory first W k c t
  unfolding memory
  mem-cong first zero k c l la lb h = refl
  mem-cong first (suc t) k c l la lb h =
      let e₁ : U c.a t ≡ W c.a t = h.0 t (le_refl (suc t)) c.a (omega arith) in
      let e₂ : U c.a (suc t) ≡ W c.a (suc t) = h.1 c.a la in
      let e₃ : U c.b t ≡ W c.b t = h.0 t (le_refl (suc t)) c.b lb in
      let e₄ : U k t ≡ W k t = h.0 t (le_refl (suc t)) k l in
      cc (e₁, e₂, e₃, e₄)

  latch-cong : (t k : ℕ) (c : Cell) → k < length net → c.a < length net → c.b < length net → Before t k → latch U k c t ≡ latch W k c t
  unfolding latch
  latch-cong zero k c l la lb h = refl
  latch-cong (suc t) k c l la lb h =
      let e₁ : U c.a t ≡ W c.a t = h.0 t (le_refl (suc t)) c.a la in
      let e₂ : U c.b t ≡ W c.b t = h.0 t (le_refl (suc t)) c.b lb in
      let e₃ : U k t ≡ W k t = h.0 t (le_refl (suc t)) k l in
      cc (e₁, e₂, e₃)

  pub element-cong : (j i t : ℕ) → Feeds net j → j ≤ length net → ((u : ℕ) → u < t → (m : ℕ) → m < length net → U m u ≡ W m u)
      → ((m : ℕ) → m < j → U m t ≡ W m t) → element net words U j i t ≡ element net words W j i t
  unfolding element
  element-cong j i zero f l past below = refl
  element-cong j i (suc t) f l past below =
      let e : (m : ℕ) → m < length net → U m t ≡ W m t = past t (le_refl (suc t)) in
      cc (
        e (cell_at net j).a (omega (arith, f.0)),
        below (cell_at net j).a f.0,
        e (cell_at net j).b f.1,
        e (cell_at net (j + 1)).a f.2,
        element-cong j i t f l (λ u lu. past u (omega arith)) (λ m lm. e m (omega arith)),
      )

  module _ (w : ℕ) (starts : Sig) (fed : (j : ℕ) → j < length net → (cell_at net j).kind ≡ 42 → Feeds net j) where
    pub shape-cong : (s : Shape) (first k : ℕ) (c : Cell) (t : ℕ) → k < length net → Looks (cell_table s).row (kinds net) (length net) k c → Before t k
        → equation w s starts first (element net words U) U k c t ≡ equation w s starts first (element net words W) W k c t
    unfolding equation cell_table
    shape-cong k_constant first k c t l o h = refl
    shape-cong k_complement first k c t l o h = ap (λ (x : ℕ). operate 3 x 0) (h.1 c.a o.1.0)
    shape-cong k_operator first k c t l o h = ap₂ (λ (x y : ℕ). operate c.kind x y) (h.1 c.a o.1.0) (h.1 c.b o.2.0)
    shape-cong k_start first k c t l o h = refl
    shape-cong k_ground first k c t l o h = refl
    shape-cong k_delay first k c t l o h = ap bit (delayed-here c.delay c.a t o.0.0 (λ u lu. h.0 u lu c.a o.1.0))
    shape-cong k_or first k c t l o h = ap₂ (λ (x y : ℕ). bit (eqb x 1 || eqb y 1)) (h.1 c.a o.1.0) (h.1 c.b o.2.0)
    shape-cong k_when_true first k c t l o h = ap₂ (λ (x y : ℕ). bit (eqb x 1 && not (eqb y 0))) (h.1 c.a o.1.0) (h.1 c.b o.2.0)
    shape-cong k_when_false first k c t l o h = ap₂ (λ (x y : ℕ). bit (eqb x 1 && eqb y 0)) (h.1 c.a o.1.0) (h.1 c.b o.2.0)
    shape-cong k_merge first k c t l o h =
        ap bit (merged-cong (merge_step (eqb w 1)) c.a c.b t (upto t k l h c.a o.1.0) (upto t k l h c.b o.2.0))
    shape-cong k_return first k c t l o h =
        ap bit (merged-cong (return_step (eqb w 1)) c.a c.b t (upto t k l h c.a o.1.0) (upto t k l h c.b o.2.0))
    shape-cong k_memory first k c t l o h = mem-cong first t k c l o.1.0 o.2.0 h
    shape-cong k_gated first k c t l o h = ap₂ (λ (x y : ℕ). pick (eqb x 1) y 0) (h.1 c.a o.1.0) (h.1 c.b o.2.0)
    shape-cong k_array first k c t l o h = refl
    shape-cong k_address first k c t l o h = refl
    shape-cong k_read first k c t l o h =
        let below : c.a < k = o.1.0 in
        ap (λ (x : ℕ). element net words U c.a (index x) t) (h.1 c.b o.2.0)
        ∙ element-cong c.a (index (W c.b t)) t (fed c.a (omega arith) (eqb-true _ _ o.1.1)) (omega arith) h.0
        (λ m lm. h.1 m (omega arith))
    shape-cong k_latch first k c t l o h = latch-cong t k c l o.1.0 o.2.0 h
    shape-cong k_unknown first k c t l o h = refl

    pub cell-cong : (first k : ℕ) (c : Cell) (t : ℕ) → k < length net → Looks (cell_row c.kind) (kinds net) (length net) k c → Before t k
        → cell_val w starts first (element net words U) U k c t ≡ cell_val w starts first (element net words W) W k c t
    unfolding cell_val
    cell-cong first k c t l o h = shape-cong (shape c.kind) first k c t l o h

-- what each cell shows
unfoldable pub shows : Netlist → Sig → (ℕ → ℕ) → Values → ℕ → ℕ → ℕ
shows net starts words W k t =
    cell_val net.pulse starts (start_word net.cells words k) (element net.cells words W) W k (cell_at net.cells k) t

pub shows-causal : (net : Netlist) → Ordered net.cells → (starts : Sig) (words : ℕ → ℕ) → Causal (length net.cells) (shows net starts words)
unfolding shows
shows-causal net o starts words U W k t l b =
    let cs = net.cells in
    cell-cong cs words U W net.pulse starts (feeds cs o) (start_word cs words k) k (cell_at cs k) t l (o.looks k l) b

module _ (net : Netlist) (o : Ordered net.cells) (starts : Sig) (words : ℕ → ℕ) (U W : Values) (hU : Obeys net starts words U) (hW : Obeys net starts words W) where
  pub unique : (k : ℕ) → k < length net.cells → (t : ℕ) → U k t ≡ W k t
  unfolding Obeys cell_val shows
  unique = one (length net.cells) (shows net starts words) (shows-causal net o starts words) U W hU hW

  -- and so are the words of an array, whose kind 42 is cell j
  pub unique-elements : (j i t : ℕ) → j < length net.cells → (cell_at net.cells j).kind ≡ 42 → element net.cells words U j i t ≡ element net.cells words W j i t
  unique-elements j i t l q =
      element-cong net.cells words U W j i t (feeds net.cells o j l q) (omega arith) (λ u lu m lm. unique m lm u) (λ m lm. unique m (omega arith) t)
