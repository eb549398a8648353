-- The tree of a node with children, by its kind, read off the node and the array of subtree ends.
-- Assumes nothing.
use mathlib.Core.Path.{◌≡◌}
use mathlib.Core.List.{List}
use Prim.Native.Nat.{ℕ, ◌+◌, ◌≤◌, ◌<◌}
use native.Mathlib.Omega.{arith}
use lib.ListN.{drop}
use Rattle.model.specs.declared.Node.{Node}
use Rattle.model.specs.Program.{op, elem, assign, assign_elem, seq, par, ite, while, repeat, node_at, node_count, trees_at, expr_at, stmt_at}
use Rattle.laws.specs.Program.Trees.{at_op, at-elem, at-assign, at-assign-elem, at-seq, at-par, at-ite, at-while, at-repeat}
use Rattle.program.specs.Ends.{Laid, past, past-trees, past-later}

-- node i is there; it is a, and its second child is node j
pub record Inner (s ends : List ℕ) (i : ℕ) (a : Node) (j : ℕ) : Type 0 where
  pub laid : Laid s ends
  pub here : i < node_count s
  pub node : a ≡ node_at s i
  pub next : j ≡ past ends (node_count s) (i + 1)

-- a kind above 17 that is none of these is a repeat's or an element assignment's
pub last-kind : {X : Type 0} {k : ℕ} → 17 < k → ((((X × (k ≡ 18 → ⊥)) × (k ≡ 19 → ⊥)) × (k ≡ 20 → ⊥)) × (k ≡ 21 → ⊥)) × (k ≡ 22 → ⊥) → 23 ≤ k
last-kind h r = omega (arith, h, r.0.0.0.0.1, r.0.0.0.1, r.0.0.1, r.0.1, r.1)

module _ {s ends : List ℕ} {i j : ℕ} {a : Node} (n : Inner s ends i a j) where
  pub second-later : i + 1 ≤ j
  second-later = past-later s ends (i + 1) (n.laid.each (i + 1)) j n.next

  second : trees_at s j ≡ drop 1 (trees_at s (i + 1))
  second = past-trees s ends (i + 1) (n.laid.each (i + 1)) j n.next

  pub op-read : a.kind < 16 → (a.kind ≡ 1 → ⊥) → (a.kind ≡ 2 → ⊥) → (a.kind ≡ 3 → ⊥) → (a.kind ≡ 10 → ⊥)
      → expr_at s i ≡ op a.kind (expr_at s (i + 1)) (expr_at s j)
  op-read = at_op s i n.here a n.node j second

  pub elem-read : a.kind ≡ 10 → expr_at s i ≡ elem a.n (expr_at s (i + 1))
  elem-read = at-elem s i n.here a n.node

  pub assign-read : a.kind ≡ 18 → stmt_at s i ≡ assign a.delay a.n (expr_at s (i + 1))
  assign-read = at-assign s i n.here a n.node

  pub assign-elem-read : a.kind ≡ 24 → stmt_at s i ≡ assign_elem a.delay a.n (expr_at s (i + 1)) (expr_at s j)
  assign-elem-read = at-assign-elem s i n.here a n.node j second

  pub seq-read : a.kind ≡ 19 → stmt_at s i ≡ seq (stmt_at s (i + 1)) (stmt_at s j)
  seq-read = at-seq s i n.here a n.node j second

  pub par-read : a.kind ≡ 20 → stmt_at s i ≡ par (stmt_at s (i + 1)) (stmt_at s j)
  par-read = at-par s i n.here a n.node j second

  pub ite-read : (k : ℕ) → k ≡ past ends (node_count s) j → a.kind ≡ 21
      → stmt_at s i ≡ ite a.delay (expr_at s (i + 1)) (stmt_at s j) (stmt_at s k)
  ite-read k e = at-ite s i n.here a n.node j second k (past-trees s ends j (n.laid.each j) k e)

  pub while-read : a.kind ≡ 22 → stmt_at s i ≡ while a.delay (expr_at s (i + 1)) (stmt_at s j)
  while-read = at-while s i n.here a n.node j second

  pub repeat_read : 23 ≤ a.kind → (a.kind ≡ 24 → ⊥) → (a.kind ≡ 25 → ⊥) → (a.kind ≡ 26 → ⊥) → (a.kind ≡ 27 → ⊥)
      → stmt_at s i ≡ repeat a.delay (expr_at s (i + 1)) (stmt_at s j)
  repeat_read = at-repeat s i n.here a n.node j second
