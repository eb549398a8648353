-- A cell more: what is written beside a cell's value leaves what is kept, and with its value one cell more has been evaluated. Assumes nothing.
use mathlib.Core.Bool.{true}
use mathlib.Core.List.{List}
use mathlib.Core.Logic.{◌⊎◌, inl, inr, ⊎_elim}
use mathlib.Core.Path.{◌≡◌, sym, ap, subst, ◌∙◌}
use Prim.Native.Nat.{ℕ, ◌+◌, ◌*◌, ◌<◌, ◌≤◌}
use native.Mathlib.Omega.{arith}
use lib.ListN.{length, get_or}
use borrow.Author.Tests.{eqb-true}
use Rattle.model.specs.declared.Cell.{Cell}
use Rattle.model.specs.Word.{put16}
use Rattle.model.specs.Program.{time_in}
use Rattle.model.specs.Circuit.{cell_at, array_at, Values, element, merges, start_word, shape, cell_table}
use Rattle.model.specs.Calls.{word_at}
use Rattle.model.specs.Gates.{slow_size}
use Rattle.laws.specs.Circuit.Ordered.{Looks, kinds, Ordered}
use Rattle.laws.specs.Circuit.Shapes.{by-merge}
use Rattle.laws.specs.Circuit.Gates.{slow-solves}
use Rattle.slow.specs.Ring.{net_of, slot, word_in, held_ring, shown_in, time_at, taken_in, read_word, Leaves, Beside, Owned, Prepared, values_of, KeptIn}
use Rattle.slow.proofs.Cells.{net-length, net-cell}
use Rattle.slow.proofs.Rings.{Touches, Changes, put-leaves, put_same, leaves-both, leaves-more, seen-still, kept_more}
use Rattle.slow.proofs.Showing.{shown-right, taken_is, read_right, holds-right}

-- a merge looks at lower cells
merge-looks : (net : List Cell) (o : Ordered net) (k : ℕ) → k < length net → merges (cell_at net k).kind ≡ true → ((cell_at net k).a < k) × ((cell_at net k).b < k)
unfolding shape cell_table
merge-looks net o k l m =
    by-merge (cell_at net k).kind m
    (λ e. let y : Looks (cell_table (shape 38)).row (kinds net) (length net) k (cell_at net k) =
    subst (λ (j : ℕ). Looks (cell_table (shape j)).row (kinds net) (length net) k (cell_at net k)) e (o.looks k l) in (y.1.0, y.2.0))
    (λ e. let y : Looks (cell_table (shape 39)).row (kinds net) (length net) k (cell_at net k) =
    subst (λ (j : ℕ). Looks (cell_table (shape j)).row (kinds net) (length net) k (cell_at net k)) e (o.looks k l) in (y.1.0, y.2.0))

-- a read looks at an array and at a lower cell
read_looks : (net : List Cell) (o : Ordered net) (k : ℕ) → k < length net → (cell_at net k).kind ≡ 44
    → ((cell_at net k).a < k) × ((cell_at net (cell_at net k).a).kind ≡ 42) × ((cell_at net k).b < k)
unfolding shape cell_table
read_looks net o k l e =
    let y : Looks (cell_table (shape 44)).row (kinds net) (length net) k (cell_at net k) =
    subst (λ (j : ℕ). Looks (cell_table (shape j)).row (kinds net) (length net) k (cell_at net k)) e (o.looks k l) in
    (y.1.0, eqb-true _ _ y.1.1, y.2.0)

module _ (cells : List ℕ) (n ors : ℕ) (times words : List ℕ) (small : (i : ℕ) → get_or times i 0 < 256) (o : Ordered (net_of cells n)) (t k : ℕ) (l : k < n)
    (s s₁ : List ℕ) (h : KeptIn cells n ors times words t k s) (p : Prepared cells n k (cell_at (net_of cells n) k) t s s₁) (room : slow_size n ≤ length s) where
  abbrev net : List Cell
  net = net_of cells n

  abbrev c : Cell
  c = cell_at net k

  abbrev W : Values
  W = values_of cells n ors times words

  abbrev σ : ℕ → ℕ
  σ = word_at words

  long : length net ≡ n
  long = net-length cells n

  inside : k < length net
  inside = omega (arith, long)

  owned : (e : ℕ) → Owned c e → Changes net σ W k e
  owned e q =
      let st = o.stands k inside q.0 in
      (c.delay, st.0, sym st.1, q.1, q.2)

  beside : Leaves (length net) t (Touches net σ W k) (Changes net σ W k) s s₁
  beside =
      rw long
      (leaves-more n t (Beside n k) (Owned c) (Touches net σ W k) (Changes net σ W k) s s₁ (λ j e. inr (omega (arith, long, e))) owned p.leaves)

  read-now : c.kind ≡ 44 → word_in s₁ (held_ring (length net) k) t ≡ read_word net σ W k t
  read-now e =
      let y = read_looks net o k inside e in
      rw long (p.read e) ∙ rw long at (read_right net σ W k inside s o t h y.0 y.1 y.2)

  -- its value
  pub value-right : shown_in (shape c.kind) s₁ n k c t (time_at times ors k c.kind) (start_word net σ k) ≡ W k t
  value-right =
      rw long at (shown-right times small net ors σ W o t k inside s₁ (seen-still net σ W t k s s₁ inside beside h.seen) read-now)
      ∙ sym (slow-solves (time_in times) net ors o σ k inside t)

  pub evaluated : (v : ℕ) → v ≡ W k t → KeptIn cells n ors times words t (k + 1) (put16 s₁ (slot k t) v)
  evaluated v e =
      let s₂ = put16 s₁ (slot k t) v in
      let put : Leaves (length net) t (λ j. j ≡ k) (λ e. ⊥) s₁ s₂ = put-leaves (length net) s₁ k t v (λ z. omega (arith, inside)) in
      let room₁ : slow_size n ≤ length s₁ = rw p.leaves.long room in
      let all : Leaves (length net) t (Touches net σ W k) (Changes net σ W k) s s₂ =
      leaves-more (length net) t (λ j. Touches net σ W k j ⊎ (j ≡ k)) (λ e. Changes net σ W k e ⊎ ⊥) (Touches net σ W k) (Changes net σ W k) s s₂
      (λ j x. ⊎_elim (λ y. y) (λ y. inl y) x) (λ e x. ⊎_elim (λ y. y) (λ y. absurd y) x)
      (leaves-both (length net) t (Touches net σ W k) (Changes net σ W k) (λ j. j ≡ k) (λ e. ⊥) s s₁ s₂ beside put) in
      kept_more net σ W t k s s₂ inside all h (put_same s₁ k t v (omega arith) ∙ e)
      (λ v' i lv li q.
      let st : k ≡ array_at net c.delay = (o.stands k inside (kind-42 v' lv q)).1 in
      let d : v' ≡ c.delay = omega (arith, q, st) in
      let w : word_in s₂ (length net) (64 * c.delay + i) ≡ element net σ W k i t =
      put.elements (64 * c.delay + i) (omega (arith, d)) (λ y. y)
      ∙ rw long (p.elements (kind-42 v' lv q) i li)
      ∙ ap (λ (j : ℕ). taken_in s n c j t i) (sym (ap (λ (x : Cell). x.a) (net-cell cells n (k + 1) (next-in v' lv q))))
      ∙ rw long at (taken_is net σ W k inside s o t h (kind-42 v' lv q) i li) in
      rw d w)
      (λ m.
      let y = merge-looks net o k inside m in
      put.new (held_ring (length net) k) (λ z. omega arith) (λ z. omega (arith, long))
      ∙ rw long (p.held m)
      ∙ rw long at (holds-right net σ W t k inside s h.seen m y.0 y.1))
      (λ q. put.new (held_ring (length net) k) (λ z. omega arith) (λ z. omega (arith, long)) ∙ read-now q)
    where
      kind-42 : (v' : ℕ) → v' < 4 → array_at net v' ≡ k → c.kind ≡ 42
      kind-42 v' lv q = ap (λ (j : ℕ). (cell_at net j).kind) (sym q) ∙ (o.arrays v' lv).1

      next-in : (v' : ℕ) → v' < 4 → array_at net v' ≡ k → k + 1 < n
      next-in v' lv q = omega (arith, (o.arrays v' lv).0, q, long)
