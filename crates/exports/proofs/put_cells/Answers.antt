-- `put_cells` meets its contract: a cell more is put in. Assumes nothing.
use Rattle.netlist.proofs.Putting.{filled_none}
use Rattle.exports.proofs.put_cells.Goals as goal

pub loop-k-init : goal.loop-k-init
loop-k-init c = filled_none _ _ _ _ _
