-- The node at i, from its four bytes.
use Rattle.model.specs.Program.{node_at}
use Rattle.program.proofs.nodes.read_node.Goals as goal

pub returns : goal.returns
unfolding node_at
returns c = rw (← c.get16.ensures)
