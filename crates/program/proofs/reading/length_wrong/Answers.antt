-- Refusal 1's condition, by computation.
use mathlib.Core.Path.{refl}
use Rattle.model.specs.ProgramChecks.{program_length_wrong}
use Rattle.program.proofs.reading.length_wrong.Goals as goal

pub returns : goal.returns
unfolding program_length_wrong
returns c = refl
