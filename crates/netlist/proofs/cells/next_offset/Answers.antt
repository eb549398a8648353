-- `cells::next_offset` meets its contract. Assumes nothing.
use Rattle.std.proofs.Common.{arith}
use Rattle.netlist.proofs.Following.{after_block, after-cell}
use Rattle.netlist.proofs.cells.next_offset.Goals as goal

pub returns-then-next-eq0 : goal.returns-then-next-eq0
returns-then-next-eq0 c = omega (arith, after_block c.args.i c.if-next-eq0.true)

pub returns-else-next-eq0 : goal.returns-else-next-eq0
returns-else-next-eq0 c = omega (arith, after-cell c.args.i c.if-next-eq0.false)
