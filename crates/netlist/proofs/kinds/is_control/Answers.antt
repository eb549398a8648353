-- `kinds::is_control` meets its contract. Assumes nothing.
use Rattle.std.proofs.Common.{ap}
use Rattle.model.specs.declared.kinds.CellRow.{CellRow}
use Rattle.model.specs.Circuit.{control}
use Rattle.netlist.proofs.kinds.is_control.Goals as goal

pub returns : goal.returns
unfolding control
returns c = ap (λ (r : CellRow). r.control) c.cell_row.ensures
