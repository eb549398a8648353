-- `walk::put` meets its contract. Assumes nothing.
use Rattle.compiler.specs.Writes.{write}
use Rattle.compiler.proofs.walk.put.Goals as goal

pub returns : goal.returns
unfolding write
returns c = rw c.from.ensures at c.put_cell.ensures.put
