-- The refusals before the arrays, and then the others.
use Rattle.laws.specs.Refusals.Laws.{handed_on}
use Rattle.program.proofs.scan.Goals as goal

pub returns-in_err-first_check : goal.returns-in_err-first_check
returns-in_err-first_check c = rw (handed_on _ c.from_residual.ensures.1) (rw c.in_err-first_check.was at c.first_check.ensures)

pub scan_readable-requires : goal.scan_readable-requires
scan_readable-requires c = (rw c.in_ok-first_check.was at c.first_check.ensures).0

pub returns : goal.returns
returns c = rw (rw c.in_ok-first_check.was at c.first_check.ensures).1 c.scan_readable.ensures
