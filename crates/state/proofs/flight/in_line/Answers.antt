-- `in_line` meets its contract. Assumes nothing.
use Rattle.state.proofs.Counting.{one_left, compact-ones, truth}
use Rattle.state.proofs.Places.{left_here}
use Rattle.state.proofs.flight.in_line.Goals as goal

pub returns-in-Compact : goal.returns-in-Compact
unfolding one_left
returns-in-Compact c =
    let args = c.args in
    let left = left_here args.format args.s.now args.k _ c.base.ensures c.in-Compact.is in
    rw (c.in-Compact.is, c.from.ensures, truth) (cc (left, compact-ones args.s.now args.k args.d))
