-- `counts::written` meets its contract: the tree at its node, by the node's kind, tells its parts. The nodes that are left fall. Assumes nothing.
use Prim.Native.Nat.{◌-◌}
use Rattle.model.specs.Program.{node_count}
use Rattle.functional.proofs.counts.+written.Given as goal

abbrev pub decreases-written : goal.decreases-written
decreases-written l = node_count l.tree.now.program.now - l.i
