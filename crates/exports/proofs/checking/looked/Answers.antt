-- `checking::looked` meets its contract. Assumes nothing.
use Rattle.std.proofs.Common.{refl}
use borrow.Author.Tests.{lt-leb}
use Rattle.model.specs.NetlistFile.{cell_limit}
use Rattle.exports.proofs.checking.looked.Goals as goal

pub returns-else-n-le-MOST_CELLS : goal.returns-else-n-le-MOST_CELLS
returns-else-n-le-MOST_CELLS c = rw (lt-leb c.args.n cell_limit c.if-n-le-MOST_CELLS.false) refl
