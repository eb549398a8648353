-- `counts::count_expr` meets its contract: the tree at its node, by the node's kind, tells its parts. The nodes that are left fall. Assumes nothing.
use Prim.Native.Nat.{◌-◌}
use Rattle.model.specs.Program.{node_count}
use Rattle.functional.proofs.counts.+count_expr.Given as goal

abbrev pub decreases-count_expr : goal.decreases-count_expr
decreases-count_expr l = node_count l.tree.now.program.now - l.i
