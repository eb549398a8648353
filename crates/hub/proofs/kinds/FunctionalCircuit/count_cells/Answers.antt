-- What is counted is how many cells the file has. Assumes nothing.
use Rattle.hub.proofs.Cells.{cells_functional}
use Rattle.hub.proofs.kinds.FunctionalCircuit.count_cells.Goals as goal

pub returns : goal.returns
returns c = cells_functional c.args.options c.args.program.now c.requires c.count_cells.ensures
