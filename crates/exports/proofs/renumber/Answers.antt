-- `renumber` meets its contract: a cell more is moved. Assumes nothing.
use Rattle.exports.proofs.Moving.{all-moved}
use Rattle.exports.proofs.renumber.Goals as goal

pub loop-c-init : goal.loop-c-init
loop-c-init c = all-moved c.args.k c.args.cells.now
