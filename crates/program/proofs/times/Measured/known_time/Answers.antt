-- A time that the array has; past the last node it is that of a constant.
use Rattle.model.specs.Program.{time_in}
use Rattle.program.specs.Times.{time-none}
use Rattle.program.proofs.times.Measured.known_time.Goals as goal

pub returns-then-i-self : goal.returns-then-i-self
returns-then-i-self c = c.requires c.if-i-self.true

pub returns-else-i-self : goal.returns-else-i-self
returns-else-i-self c = time-none (time_in c.args.self.now.operators.now) _ _ _ c.operator_time.ensures.time c.if-i-self.false
