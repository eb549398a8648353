-- A kind that was added, by computation.
use mathlib.Core.Path.{refl}
use Rattle.model.specs.ProgramChecks.{added}
use Rattle.program.proofs.reading.added.Goals as goal

pub returns : goal.returns
unfolding added
returns c = refl
