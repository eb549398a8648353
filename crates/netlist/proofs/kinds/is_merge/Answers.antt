-- `kinds::is_merge` meets its contract. Assumes nothing.
use Rattle.std.proofs.Common.{refl}
use Rattle.model.specs.Circuit.{merges}
use Rattle.netlist.proofs.kinds.is_merge.Goals as goal

pub returns : goal.returns
unfolding merges
returns c = refl
