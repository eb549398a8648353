-- `Machine::opened_node` meets its contract. Assumes nothing.
use Rattle.std.proofs.Common.{arith}
use Rattle.text.proofs.Moves.{opened-node-shown}
use Rattle.text.proofs.machine.Machine.opened_node.Goals as goal

pub returns : goal.returns
returns c =
    let args = c.args in
    let o = c.opened in
    let more = c.with_node in
    record {
      grows = omega (arith, o.ensures.grows, more.ensures.grows);
      follows = opened-node-shown args.stack.now args.nodes.now args.self o.new.stack more.new.nodes
          args.mode args.code args.node (o.ensures.follows args.nodes.now) (more.ensures.follows o.new.stack);
    }
