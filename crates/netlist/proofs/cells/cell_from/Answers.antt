-- `cells::cell_from` meets its contract. Assumes nothing.
use Rattle.model.specs.NetlistFile.{cell_from}
use Rattle.netlist.proofs.cells.cell_from.Goals as goal

pub returns : goal.returns
unfolding cell_from
returns c = cc
