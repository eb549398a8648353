-- The run in which operators take their time: it exists, and there is one. An operator's inputs are lower cells and the words of arrays, now or in the past.
-- Assumes nothing.
use Rattle.std.specs.Prelude.{◌≡◌, refl, Bool, true, false, List, ℕ, ◌-◌, ◌<◌, ◌≤◌, leb, ltb, length}
use Rattle.std.proofs.Math.Path.{ap, ap₂}
use Rattle.std.proofs.Common.{◌∙◌, arith, eqb-true}
use Rattle.model.specs.declared.Cell.{Cell}
use Rattle.model.specs.Word.{pick, operate, index}
use Rattle.model.specs.Circuit.{cell_at, Sig, Values, Elements, element, start_word, Shape, cell_table, shape, equation}
use Rattle.model.specs.Circuit.{k_constant, k_complement, k_operator, k_start, k_ground, k_delay, k_or, k_when_true, k_when_false, k_merge, k_return, k_memory, k_gated, k_array, k_address, k_read, k_latch, k_unknown}
use Rattle.model.specs.Gates.{past, gate, first_start, slow_cell, slow_values}
use Rattle.laws.specs.Circuit.Ordered.{Looks, kinds, Ordered}
use Rattle.laws.specs.Refusals.Laws.{by_bool, not-both}
use Rattle.laws.specs.Circuit.Causal.{Causal, Solves, one, worked-solves}
use Rattle.laws.specs.Circuit.Unique.{Feeds, feeds, Before, upto, element-cong, shape-cong}

pub past_same : (d : ℕ) (w w' : ℕ → ℕ) (t : ℕ) → ((v : ℕ) → v ≤ t → w v ≡ w' v) → past d w t ≡ past d w' t
unfolding past
past_same d w w' t h = ap (λ (v : ℕ). pick (leb d t) v 0) (h (t - d) (omega arith))

-- the shapes of operators
unfoldable pub late : Shape → Bool
late k_constant = false
late k_complement = true
late k_operator = true
late k_start = false
late k_ground = false
late k_delay = false
late k_or = false
late k_when_true = false
late k_when_false = false
late k_merge = false
late k_return = false
late k_memory = false
late k_gated = false
late k_array = false
late k_address = false
late k_read = true
late k_latch = false
late k_unknown = false

-- all others are as in the ideal circuit
pub instant-gate : (s : Shape) → late s ≡ false → (τ : ℕ → ℕ) (starts : Sig) (first : ℕ) (E : Elements) (W : Values) (k : ℕ) (c : Cell) (t : ℕ)
    → gate τ s starts first E W k c t ≡ equation 1 s starts first E W k c t
unfolding late gate
instant-gate k_constant e τ starts first E W k c t = refl
instant-gate k_complement e τ starts first E W k c t = not-both refl e
instant-gate k_operator e τ starts first E W k c t = not-both refl e
instant-gate k_start e τ starts first E W k c t = refl
instant-gate k_ground e τ starts first E W k c t = refl
instant-gate k_delay e τ starts first E W k c t = refl
instant-gate k_or e τ starts first E W k c t = refl
instant-gate k_when_true e τ starts first E W k c t = refl
instant-gate k_when_false e τ starts first E W k c t = refl
instant-gate k_merge e τ starts first E W k c t = refl
instant-gate k_return e τ starts first E W k c t = refl
instant-gate k_memory e τ starts first E W k c t = refl
instant-gate k_gated e τ starts first E W k c t = refl
instant-gate k_array e τ starts first E W k c t = refl
instant-gate k_address e τ starts first E W k c t = refl
instant-gate k_read e τ starts first E W k c t = not-both refl e
instant-gate k_latch e τ starts first E W k c t = refl
instant-gate k_unknown e τ starts first E W k c t = refl

-- no control wire is an operator's
pub control-instant : (s : Shape) → (cell_table s).row.control ≡ true → late s ≡ false
unfolding late cell_table
control-instant k_constant e = refl
control-instant k_complement e = not-both e refl
control-instant k_operator e = not-both e refl
control-instant k_start e = refl
control-instant k_ground e = refl
control-instant k_delay e = refl
control-instant k_or e = refl
control-instant k_when_true e = refl
control-instant k_when_false e = refl
control-instant k_merge e = refl
control-instant k_return e = refl
control-instant k_memory e = refl
control-instant k_gated e = refl
control-instant k_array e = refl
control-instant k_address e = refl
control-instant k_read e = not-both e refl
control-instant k_latch e = refl
control-instant k_unknown e = refl

module _ (net : List Cell) (words : ℕ → ℕ) (U W : Values) (starts : Sig) (fed : (j : ℕ) → j < length net → (cell_at net j).kind ≡ 42 → Feeds net j) where
  gate-cong : (s : Shape) (τ : ℕ → ℕ) (first k : ℕ) (c : Cell) (t : ℕ) → k < length net → Looks (cell_table s).row (kinds net) (length net) k c
      → Before net words U W t k → gate τ s starts first (element net words U) U k c t ≡ gate τ s starts first (element net words W) W k c t
  unfolding gate cell_table
  gate-cong k_constant τ first k c t l o h = shape-cong net words U W 1 starts fed k_constant first k c t l o h
  gate-cong k_complement τ first k c t l o h =
      ap (λ (x : ℕ). operate 3 x 0) (past_same (τ 3) (U c.a) (W c.a) t (upto net words U W t k l h c.a o.1.0))
  gate-cong k_operator τ first k c t l o h =
      ap₂ (operate c.kind) (past_same (τ c.kind) (U c.a) (W c.a) t (upto net words U W t k l h c.a o.1.0))
      (past_same (τ c.kind) (U c.b) (W c.b) t (upto net words U W t k l h c.b o.2.0))
  gate-cong k_start τ first k c t l o h = shape-cong net words U W 1 starts fed k_start first k c t l o h
  gate-cong k_ground τ first k c t l o h = shape-cong net words U W 1 starts fed k_ground first k c t l o h
  gate-cong k_delay τ first k c t l o h = shape-cong net words U W 1 starts fed k_delay first k c t l o h
  gate-cong k_or τ first k c t l o h = shape-cong net words U W 1 starts fed k_or first k c t l o h
  gate-cong k_when_true τ first k c t l o h = shape-cong net words U W 1 starts fed k_when_true first k c t l o h
  gate-cong k_when_false τ first k c t l o h = shape-cong net words U W 1 starts fed k_when_false first k c t l o h
  gate-cong k_merge τ first k c t l o h = shape-cong net words U W 1 starts fed k_merge first k c t l o h
  gate-cong k_return τ first k c t l o h = shape-cong net words U W 1 starts fed k_return first k c t l o h
  gate-cong k_memory τ first k c t l o h = shape-cong net words U W 1 starts fed k_memory first k c t l o h
  gate-cong k_gated τ first k c t l o h = shape-cong net words U W 1 starts fed k_gated first k c t l o h
  gate-cong k_array τ first k c t l o h = shape-cong net words U W 1 starts fed k_array first k c t l o h
  gate-cong k_address τ first k c t l o h = shape-cong net words U W 1 starts fed k_address first k c t l o h
  gate-cong k_read τ first k c t l o h =
      let below : c.a < k = o.1.0 in
      past_same (τ 10) _ _ t
      (λ u lu.
      ap (λ (x : ℕ). element net words U c.a (index x) u) (upto net words U W t k l h c.b o.2.0 u lu)
      ∙ element-cong net words U W c.a (index (W c.b u)) u (fed c.a (omega arith) (eqb-true _ _ o.1.1)) (omega arith)
      (λ v lv m lm. h.0 v (omega arith) m lm) (λ m lm. upto net words U W t k l h m (omega arith) u lu))
  gate-cong k_latch τ first k c t l o h = shape-cong net words U W 1 starts fed k_latch first k c t l o h
  gate-cong k_unknown τ first k c t l o h = shape-cong net words U W 1 starts fed k_unknown first k c t l o h

module _ (τ : ℕ → ℕ) (net : List Cell) (ors : ℕ) (o : Ordered net) (words : ℕ → ℕ) where
  slow-causal : Causal (length net) (slow_cell τ net ors words)
  unfolding slow_cell
  slow-causal U W k t l h =
      let c = cell_at net k in
      by_bool (ltb k ors)
      (λ e. rw e (gate-cong net words U W first_start (feeds net o) (shape c.kind) τ (start_word net words k) k c t l (o.looks k l) h))
      (λ e. rw e (shape-cong net words U W 1 first_start (feeds net o) (shape c.kind) (start_word net words k) k c t l (o.looks k l) h))

  pub slow-solves : Solves (length net) (slow_cell τ net ors words) (slow_values τ net ors words)
  unfolding slow_values
  slow-solves = worked-solves (slow_cell τ net ors words) (length net) slow-causal

  pub slow-unique : (U W : Values) → Solves (length net) (slow_cell τ net ors words) U → Solves (length net) (slow_cell τ net ors words) W
      → (k : ℕ) → k < length net → (t : ℕ) → U k t ≡ W k t
  slow-unique = one (length net) (slow_cell τ net ors words) slow-causal
