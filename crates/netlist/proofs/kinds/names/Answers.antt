-- `kinds::names` meets its contract. Assumes nothing.
use Rattle.std.proofs.Common.{arith}
use Rattle.model.specs.Circuit.{names}
use Rattle.netlist.proofs.kinds.names.Goals as goal

pub returns-in-Unknown : goal.returns-in-Unknown
unfolding names
returns-in-Unknown c = grind arith

pub returns-in-ControlBelow : goal.returns-in-ControlBelow
unfolding names
returns-in-ControlBelow c = grind arith
