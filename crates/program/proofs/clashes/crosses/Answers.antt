-- One direction of a clash.
use Rattle.program.proofs.Crossing.{crosses_both, crosses-not}
use Rattle.program.proofs.clashes.crosses.Goals as goal

pub returns-then-does : goal.returns-then-does
returns-then-does c =
    crosses_both _ _ _ _ _ c.mark_of.ensures c.does.ensures c.mark_of-then-does.ensures c.does-then-does.ensures c.if-does.true

pub returns-else-does : goal.returns-else-does
returns-else-does c =
    crosses-not _ _ _ _ _ c.mark_of.ensures c.does.ensures c.if-does.false
