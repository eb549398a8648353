-- `walk::put_expr` meets its contract: the tree at its node, by the node's kind, tells its parts. The nodes that are left fall. Assumes nothing.
use Prim.Native.Nat.{◌-◌}
use Rattle.model.specs.Program.{node_count}
use Rattle.compiler.proofs.walk.+put_expr.Given as goal

abbrev pub decreases-put_expr : goal.decreases-put_expr
decreases-put_expr g l = node_count l.tree.now.program.now - l.i
