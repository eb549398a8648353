-- The refusals before the arrays, and then the others.
use Rattle.std.proofs.Common.{sym, ◌∙◌}
use Rattle.laws.specs.Refusals.Laws.{handed_on}
use Rattle.program.proofs.check.Goals as goal

pub returns-in_err-first_check : goal.returns-in_err-first_check
returns-in_err-first_check c = handed_on _ c.from_residual.ensures.1 ∙ sym (rw c.in_err-first_check.was at c.first_check.ensures)

pub check_readable-requires : goal.check_readable-requires
check_readable-requires c = (rw c.in_ok-first_check.was at c.first_check.ensures).0

pub returns : goal.returns
returns c = c.check_readable.ensures ∙ sym (rw c.in_ok-first_check.was at c.first_check.ensures).1
