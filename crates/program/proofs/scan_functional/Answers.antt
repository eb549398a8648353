-- The refusals before the arrays, and then the others.
use Rattle.laws.specs.Refusals.Laws.{handed_on}
use Rattle.program.proofs.scan_functional.Goals as goal

pub returns-in_err-alone : goal.returns-in_err-alone
returns-in_err-alone c = rw (handed_on _ c.from_residual.ensures.1) c.in_err-alone.ensures

pub scan_readable-requires : goal.scan_readable-requires
scan_readable-requires c = c.in_ok-alone.ensures.0.0

pub returns : goal.returns
returns c = rw (c.in_ok-alone.ensures.0.1, ← c.in_ok-alone.ensures.1) c.scan_readable.ensures
