-- `Machine::closed` meets its contract. Assumes nothing.
use Rattle.std.proofs.Common.{arith}
use Rattle.text.proofs.Moves.{closed-shown}
use Rattle.text.proofs.machine.Machine.closed.Goals as goal

pub returns : goal.returns
returns c =
    let args = c.args in
    let below = c.saturating_sub.ensures in
    record { grows = omega (arith, below); follows = (λ nodes. closed-shown args.stack.now nodes args.self args.mode c.top-top.ensures.start below) }
