-- `counts::both` meets its contract. Assumes nothing.
use Rattle.functional.proofs.Writing.{or-written}
use Rattle.functional.proofs.counts.both.Goals as goal

pub returns : goal.returns
returns c = or-written _ _ _ _ _ c.written-p.ensures c.written-q.ensures
