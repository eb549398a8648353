-- `Machine::turned` meets its contract. Assumes nothing.
use Rattle.std.proofs.Common.{arith}
use Rattle.text.proofs.Moves.{turned-shown}
use Rattle.text.proofs.machine.Machine.turned.Goals as goal

pub returns : goal.returns
returns c =
    let args = c.args in
    let below = c.saturating_sub-below.ensures in record {
      grows = omega (arith, below);
      follows = (λ nodes. turned-shown args.stack.now nodes args.self c.push.new.stack args.mode args.code c.top-top.ensures.start below c.push.ensures);
    }
