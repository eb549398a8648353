-- `rules::begin` meets its contract. Assumes nothing.
use Rattle.netlist.proofs.CellChecks.{scan-none}
use Rattle.netlist.proofs.rules.begin.Goals as goal

pub returns : goal.returns
returns c = λ net e. scan-none net c.args.finish e
