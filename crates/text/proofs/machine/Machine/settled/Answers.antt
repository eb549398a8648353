-- `Machine::settled` meets its contract. Assumes nothing.
use Rattle.std.proofs.Common.{arith}
use Rattle.text.proofs.Moves.{settled-shown}
use Rattle.text.proofs.machine.Machine.settled.Goals as goal

pub returns : goal.returns
returns c =
    let args = c.args in
    let pop = c.pop-p in record { grows = omega (arith, pop.ensures.lower); follows = (λ nodes. settled-shown args.stack.now nodes args.self pop.ensures) }
