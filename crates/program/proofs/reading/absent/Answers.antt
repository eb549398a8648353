-- A variable or array that is not there, by computation.
use mathlib.Core.Path.{refl}
use Rattle.model.specs.ProgramChecks.{absent}
use Rattle.program.proofs.reading.absent.Goals as goal

pub returns : goal.returns
unfolding absent
returns c = refl
