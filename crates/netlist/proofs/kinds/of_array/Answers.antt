-- `kinds::of_array` meets its contract. Assumes nothing.
use Rattle.std.proofs.Common.{refl}
use Rattle.model.specs.NetlistFile.{of_array}
use Rattle.netlist.proofs.kinds.of_array.Goals as goal

pub returns : goal.returns
unfolding of_array
returns c = refl
