-- `Machine::leaf` meets its contract. Assumes nothing.
use Rattle.std.proofs.Common.{arith}
use Rattle.text.proofs.Moves.{leaf-shown}
use Rattle.text.proofs.machine.Machine.leaf.Goals as goal

pub returns : goal.returns
returns c =
    let args = c.args in
    let more = c.with_node in
    record {
      grows = omega (arith, more.ensures.grows);
      follows = (λ stack. leaf-shown stack args.nodes.now args.self more.new.nodes args.mode args.node more.result (more.ensures.follows stack));
    }
