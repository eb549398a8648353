-- `Machine::opened` meets its contract. Assumes nothing.
use Rattle.std.proofs.Common.{arith}
use Rattle.text.proofs.Moves.{opened-shown}
use Rattle.text.proofs.machine.Machine.opened.Goals as goal

pub returns : goal.returns
returns c =
    let args = c.args in
    let push = c.push in record { grows = omega arith; follows = (λ nodes. opened-shown args.stack.now nodes args.self push.new.stack args.mode args.code push.ensures) }
