-- The refusals before the arrays, and then the others.
use Rattle.std.proofs.Common.{sym, ◌∙◌}
use Rattle.laws.specs.Refusals.Laws.{handed_on}
use Rattle.program.proofs.check_functional.Goals as goal

pub returns-in_err-alone : goal.returns-in_err-alone
returns-in_err-alone c = rw c.in_err-alone.ensures (handed_on _ c.from_residual.ensures.1)

pub check_readable-requires : goal.check_readable-requires
check_readable-requires c = c.in_ok-alone.ensures.0.0

pub returns : goal.returns
returns c = c.check_readable.ensures ∙ sym c.in_ok-alone.ensures.0.1
