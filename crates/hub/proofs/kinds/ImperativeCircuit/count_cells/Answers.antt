-- What is counted is how many cells the file has. Assumes nothing.
use Rattle.hub.proofs.Cells.{cells_imperative}
use Rattle.hub.proofs.kinds.ImperativeCircuit.count_cells.Goals as goal

pub returns : goal.returns
returns c = cells_imperative c.args.options c.args.program.now c.requires c.count_cells.ensures
