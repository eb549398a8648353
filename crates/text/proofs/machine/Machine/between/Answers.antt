-- `Machine::between` meets its contract. Assumes nothing.
use Rattle.std.proofs.Common.{arith}
use Rattle.text.proofs.Moves.{between-shown}
use Rattle.text.proofs.machine.Machine.between.Goals as goal

pub returns : goal.returns
returns c =
    let args = c.args in
    let pop = c.pop-p in
    let push = c.push in
    let more = c.with_node in
    record {
      grows = omega (arith, pop.ensures.lower, more.ensures.grows);
      follows = between-shown args.stack.now args.nodes.now args.self push.new.stack more.new.nodes
          args.mode args.code c.reach_of-reach.ensures pop.ensures push.ensures (rw c.bare.ensures at (more.ensures.follows push.new.stack));
    }
