-- What the walk reads off a program and off a node. Assumes nothing: definitions.
use Rattle.std.specs.Prelude.{◌≡◌, List, ℕ, ◌<◌}
use Rattle.model.specs.declared.Node.{Node}
use Rattle.model.specs.Program.{Expr, Code, const, ok, node_at, node_count, expr_at, stmt_at}
use Rattle.program.specs.Ends.{Laid}
use Rattle.program.specs.declared.nodes.Tree.{Tree}

-- a program with its array of subtree ends, and the expression and the statement at a node of it
abbrev pub IsLaid : Tree → Type 0
IsLaid t = Laid t.program.now t.ends.now

abbrev pub expr_in : Tree → ℕ → Expr
expr_in t i = expr_at t.program.now i

abbrev pub stmt_in : Tree → ℕ → Code
stmt_in t i = stmt_at t.program.now i

-- a node for the expression at node i: one of kind 1 tells it, and any other is node i
pub record ExprNode (s : List ℕ) (i : ℕ) (a : Node) : Type 0 where
  pub constant : a.kind ≡ 1 → expr_at s i ≡ const a.n
  pub here : (a.kind ≡ 1 → ⊥) → (i < node_count s) × (a.kind < 16) × (a ≡ node_at s i)

-- a node for the statement at node i: one of kind 16 tells it, and any other is node i
pub record StmtNode (s : List ℕ) (i : ℕ) (a : Node) : Type 0 where
  pub nothing : a.kind ≡ 16 → stmt_at s i ≡ ok
  pub here : (a.kind ≡ 16 → ⊥) → (i < node_count s) × (16 < a.kind) × (a ≡ node_at s i)
