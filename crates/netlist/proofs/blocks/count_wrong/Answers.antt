-- `blocks::count_wrong` meets its contract. Assumes nothing.
use Rattle.std.proofs.Common.{refl}
use Rattle.model.specs.NetlistFile.{count_wrong}
use Rattle.netlist.proofs.blocks.count_wrong.Goals as goal

pub returns : goal.returns
unfolding count_wrong
returns c = rw c.blocks_for.ensures refl
