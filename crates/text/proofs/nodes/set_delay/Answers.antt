-- `nodes::set_delay` meets its contract. Assumes nothing.
use Rattle.std.proofs.Common.{arith}
use Rattle.text.proofs.Bytes.{delay-past, delay-many, delay-here}
use Rattle.text.proofs.nodes.set_delay.Goals as goal

pub returns-then-count-at : goal.returns-then-count-at
returns-then-count-at c =
    let args = c.args in
    λ ns e k. delay-past args.nodes.now args.at args.d ns (omega arith) k

pub returns-then-count-gt200 : goal.returns-then-count-gt200
returns-then-count-gt200 c =
    let args = c.args in
    λ ns e k. delay-many args.nodes.now args.at args.d ns (omega arith)

pub returns : goal.returns
returns c =
    let args = c.args in
    λ ns e k. delay-here args.nodes.now args.at args.d ns (omega arith) k
