-- A run that begins later.
use Rattle.std.proofs.Common.{refl, arith}
use Rattle.model.specs.Rules.{after}
use Rattle.rules.proofs.ways.Ran.later.Goals as goal

pub returns-in-Ended : goal.returns-in-Ended
unfolding after
returns-in-Ended c w = rw c.in-Ended.is (record { is = refl; within = omega arith })

pub returns-in-Left : goal.returns-in-Left
unfolding after
returns-in-Left c w = rw c.in-Left.is (record { is = refl; within = omega arith })

pub returns-in-Unfinished : goal.returns-in-Unfinished
unfolding after
returns-in-Unfinished c w = rw c.in-Unfinished.is (record { is = refl; within = omega arith })
