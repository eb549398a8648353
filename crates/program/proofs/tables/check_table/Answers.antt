-- Refusals 19 to 21, in their order.
use mathlib.Core.Path.{◌∙◌}
use Rattle.program.proofs.TimeTables.{at_length, at_sum, at-bytes}
use Rattle.program.proofs.tables.check_table.Goals as goal

pub returns-then-file-ne-BLOCK : goal.returns-then-file-ne-BLOCK
returns-then-file-ne-BLOCK c = c.refuse.ensures ∙ at_length c.args.file.now c.if-file-ne-BLOCK.true

pub returns-then-sum16-ne0 : goal.returns-then-sum16-ne0
returns-then-sum16-ne0 c = c.refuse-then-sum16-ne0.ensures ∙ at_sum c.args.file.now c.if-file-ne-BLOCK.false c.sum16.ensures c.if-sum16-ne0.true

pub returns : goal.returns
returns c = at-bytes c.args.file.now c.if-file-ne-BLOCK.false c.sum16.ensures c.if-sum16-ne0.false c.first_wrong.ensures
