-- The built-in times, by computation.
use mathlib.Core.Path.{refl}
use Rattle.model.specs.Program.{built_in_times}
use Rattle.model.specs.TimeTables.{verdict_of, times_of, load}
use Rattle.program.proofs.tables.built_in.Goals as goal

pub returns : goal.returns
unfolding load verdict_of times_of built_in_times
returns c = refl
