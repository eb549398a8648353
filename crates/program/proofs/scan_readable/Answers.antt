-- The refusals after 6, and then the arrays.
use Rattle.std.proofs.Common.{sym, ◌∙◌}
use Rattle.laws.specs.Refusals.Laws.{handed_on}
use Rattle.program.proofs.Halves.{filled}
use Rattle.program.proofs.scan_readable.Goals as goal

pub late_check-requires : goal.late_check-requires
late_check-requires c = filled _ _ _ _ c.requires c.measure-told.ensures

pub returns-in_err-late_check : goal.returns-in_err-late_check
returns-in_err-late_check c = rw (handed_on _ c.from_residual.ensures.1) (sym c.late_check.ensures ∙ c.in_err-late_check.was)

pub returns : goal.returns
returns c = (sym c.late_check.ensures ∙ c.in_ok-late_check.was, c.measure-told.ensures)
