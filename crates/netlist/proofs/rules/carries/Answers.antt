-- `rules::carries` meets its contract. Assumes nothing.
use Rattle.std.proofs.Common.{refl}
use Rattle.model.specs.NetlistFile.{carries}
use Rattle.netlist.proofs.rules.carries.Goals as goal

pub returns : goal.returns
unfolding carries
returns c = refl
