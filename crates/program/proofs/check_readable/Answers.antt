-- The refusals after 6.
use Rattle.program.proofs.Halves.{filled}
use Rattle.program.proofs.check_readable.Goals as goal

pub late_check-requires : goal.late_check-requires
late_check-requires c = filled _ _ _ _ c.requires c.measure.ensures

pub returns : goal.returns
returns c = c.late_check.ensures
