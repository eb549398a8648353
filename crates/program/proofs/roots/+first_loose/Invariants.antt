-- Refusal 22 by the node's kind; the nodes after it fall.
use Prim.Native.Nat.{◌-◌}
use Rattle.model.specs.Program.{node_count}
use Rattle.program.proofs.roots.+first_loose.Given as goal

abbrev pub decreases-first_loose : goal.decreases-first_loose
decreases-first_loose l = node_count l.tree.now.program.now - l.i
