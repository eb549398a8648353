-- A node that does what a mark says, by computation.
use mathlib.Core.Path.{refl}
use Rattle.program.specs.Uses.{names}
use Rattle.program.proofs.clashes.names.Goals as goal

pub returns-in-Writes : goal.returns-in-Writes
unfolding names
returns-in-Writes c = rw c.in-Writes.is refl

pub returns-in-Touches : goal.returns-in-Touches
unfolding names
returns-in-Touches c = rw c.in-Touches.is refl

pub returns-in-Calls : goal.returns-in-Calls
unfolding names
returns-in-Calls c = rw c.in-Calls.is refl
