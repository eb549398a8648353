-- `put_cells` meets its contract. The invariant: the cells before the next one are put in. Assumes nothing.
use Rattle.netlist.specs.Blocks.{Filled}
use Rattle.exports.proofs.put_cells.Given as goal

abbrev pub invariant-loop-k : goal.invariant-loop-k
invariant-loop-k l = Filled l.first l.cells l.finish l.initial.file l.k l.sum l.file
