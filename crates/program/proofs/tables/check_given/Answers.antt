-- Refusal 27, and then the table's.
use mathlib.Core.Path.{◌∙◌}
use Rattle.model.specs.NetlistFile.{pulse_wrong}
use Rattle.program.proofs.TimeTables.{pulse-refuses, pulse-accepts}
use Rattle.program.proofs.tables.check_given.Goals as goal

pub returns-then-options : goal.returns-then-options
unfolding pulse_wrong
returns-then-options c = c.refuse.ensures ∙ pulse-refuses _ c.if-options.true

pub returns : goal.returns
unfolding pulse_wrong
returns c = pulse-accepts _ c.if-options.false
