-- What the walk reads off a node is so: `ExprNode` and `StmtNode`. Assumes nothing.
use mathlib.Core.Path.{◌≡◌, refl}
use mathlib.Core.List.{List}
use Prim.Native.Nat.{ℕ, ◌+◌, ◌≤◌, ◌<◌}
use native.Mathlib.Omega.{arith}
use Rattle.model.specs.declared.Node.{Node}
use Rattle.model.specs.Program.{node_at, node_count}
use Rattle.laws.specs.Program.Trees.{expr-none, stmt-none, no-expr, no-stmt, at-const, at_ok}
use Rattle.program.specs.Ends.{Laid, past}
use Rattle.program.proofs.Children.{Inner}
use Rattle.compiler.specs.Nodes.{ExprNode, StmtNode}

abbrev none : ℕ → Node
none k = record { kind = k; delay = 0; n = 0 }

module _ (s : List ℕ) (i : ℕ) where
  pub no_node : node_count s ≤ i → ExprNode s i (none 1) × StmtNode s i (none 16)
  no_node h = (
    record { constant = λ e. expr-none s i h; here = λ n. absurd (n refl) },
    record { nothing = λ e. stmt-none s i h; here = λ n. absurd (n refl) },
  )

  module _ {a : Node} (u : (i < node_count s) × (a ≡ node_at s i)) where
    pub other-expr : 16 ≤ a.kind → ExprNode s i (none 1)
    other-expr l = record { constant = λ q. no-expr s i u.0 a u.1 l; here = λ n. absurd (n refl) }

    pub expr-read : a.kind < 16 → ExprNode s i a
    expr-read l = record { constant = λ q. at-const s i u.0 a u.1 q; here = λ n. (u.0, l, u.1) }

    pub other-stmt : a.kind < 16 → StmtNode s i (none 16)
    other-stmt l = record { nothing = λ q. no-stmt s i u.0 a u.1 l; here = λ n. absurd (n refl) }

    pub stmt-read : 16 ≤ a.kind → StmtNode s i a
    stmt-read l = record { nothing = λ q. at_ok s i u.0 a u.1 q; here = λ n. (u.0, omega arith, u.1) }

-- a node with children, of which the first ends before node j
module _ {s ends : List ℕ} {i j : ℕ} {a : Node} (l : Laid s ends) where
  pub inner-expr : ExprNode s i a → (a.kind ≡ 1 → ⊥) → j ≡ past ends (node_count s) (i + 1) → Inner s ends i a j
  inner-expr u k e = let h = u.here k in record { laid = l; here = h.0; node = h.2; next = e }

  pub inner-stmt : StmtNode s i a → (a.kind ≡ 16 → ⊥) → j ≡ past ends (node_count s) (i + 1) → Inner s ends i a j
  inner-stmt u k e = let h = u.here k in record { laid = l; here = h.0; node = h.2; next = e }
