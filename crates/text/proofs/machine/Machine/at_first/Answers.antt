-- `Machine::at_first` meets its contract. Assumes nothing.
use Rattle.std.proofs.Common.{refl}
use Rattle.text.proofs.Moves.{first-shown}
use Rattle.text.proofs.machine.Machine.at_first.Goals as goal

pub returns : goal.returns
returns c = (refl, refl, first-shown)
