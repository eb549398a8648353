-- `nodes::insert_node` meets its contract. Assumes nothing.
use Rattle.std.proofs.Common.{arith}
use Rattle.text.proofs.Bytes.{insert-past, insert-here}
use Rattle.text.proofs.nodes.insert_node.Goals as goal

pub returns-then-count-ge200 : goal.returns-then-count-ge200
returns-then-count-ge200 c =
    let args = c.args in
    λ ns e k. insert-past args.nodes.now args.at args.node ns c.requires (omega arith)

pub returns : goal.returns
returns c =
    let args = c.args in
    λ ns e k.
    insert-here args.nodes.now args.at args.node ns c.requires (omega arith) (rw e at c.min.ensures) (rw e at c.shift.ensures)
    c.put16.ensures k
