-- `blocks::pulse_wrong` meets its contract. Assumes nothing.
use Rattle.std.proofs.Common.{refl}
use Rattle.model.specs.NetlistFile.{pulse_wrong}
use Rattle.netlist.proofs.blocks.pulse_wrong.Goals as goal

pub returns : goal.returns
unfolding pulse_wrong
returns c = refl
