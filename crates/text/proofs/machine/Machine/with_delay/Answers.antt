-- `Machine::with_delay` meets its contract. Assumes nothing.
use Rattle.std.proofs.Common.{arith}
use Rattle.text.proofs.Moves.{delay-shown}
use Rattle.text.proofs.machine.Machine.with_delay.Goals as goal

pub returns : goal.returns
returns c =
    let args = c.args in
    let set-delay = c.set_delay in record {
      grows = omega arith;
      follows = (λ stack.
          delay-shown stack args.nodes.now args.self set-delay.new.nodes args.mode args.p args.d set-delay.ensures);
    }
