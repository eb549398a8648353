-- `BlockHeader::sum` meets its contract. Assumes nothing.
use Rattle.std.proofs.Common.{arith}
use Rattle.model.specs.NetlistFile.{sum_after, running_sum}
use Rattle.netlist.proofs.blocks.BlockHeader.sum.Goals as goal

pub returns : goal.returns
unfolding running_sum sum_after
returns c = omega arith
