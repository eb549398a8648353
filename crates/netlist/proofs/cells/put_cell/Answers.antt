-- `cells::put_cell` meets its contract. Assumes nothing.
use Rattle.std.proofs.Common.{arith}
use Rattle.model.specs.NetlistFile.{sum_with}
use Rattle.netlist.proofs.Bytes.{cell-put}
use Rattle.netlist.proofs.cells.put_cell.Goals as goal

pub returns-clause-put : goal.returns-clause-put
returns-clause-put c = cell-put c.args.d.now c.args.i c.args.c c.put16.ensures c.put16-2.ensures

pub returns-clause-sum : goal.returns-clause-sum
unfolding sum_with
returns-clause-sum c = omega (arith, c.from_le_bytes-first.ensures)
