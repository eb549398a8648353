-- `Machine::in_mode` meets its contract. Assumes nothing.
use Rattle.std.proofs.Common.{arith}
use Rattle.text.proofs.Moves.{mode-shown}
use Rattle.text.proofs.machine.Machine.in_mode.Goals as goal

pub returns : goal.returns
returns c =
    let args = c.args in record { grows = omega arith; follows = (λ l. mode-shown l.stack l.nodes args.self args.mode) }
