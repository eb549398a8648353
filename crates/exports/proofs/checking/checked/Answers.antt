-- `checking::checked` meets its contract. Assumes nothing.
use Rattle.std.proofs.Common.{◌∙◌}
use Rattle.exports.proofs.Scanning.{count-refused, count-right}
use Rattle.exports.proofs.checking.checked.Goals as goal

pub returns-then-count_wrong : goal.returns-then-count_wrong
returns-then-count_wrong c = λ cs f p. c.refuse.ensures ∙ count-refused p (rw c.blocks_for.ensures at c.count_wrong.ensures) c.if-count_wrong.true

pub returns : goal.returns
returns c = λ cs f p. count-right p (rw c.blocks_for.ensures at c.count_wrong.ensures) c.if-count_wrong.false (c.told.ensures cs f)
