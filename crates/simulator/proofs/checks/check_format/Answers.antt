-- `check_format` meets its contract. Assumes nothing.
use mathlib.Core.Path.{◌∙◌}
use Rattle.simulator.proofs.Refusing.{full-goes, compact-goes, compact-stops}
use Rattle.simulator.proofs.checks.check_format.Goals as goal

pub returns-in-Compact : goal.returns-in-Compact
returns-in-Compact c = c.refuse.ensures ∙ compact-stops _ _ c.in-Compact.is c.if-pulse-gt1.true

pub returns-in_default : goal.returns-in_default
returns-in_default c = compact-goes _ _ c.in-Compact.is c.if-pulse-gt1.false

pub returns-in_default-2 : goal.returns-in_default-2
returns-in_default-2 c = full-goes _ _ c.in_default.is
