-- `whole::put_head` meets its contract. Assumes nothing.
use Rattle.compiler.proofs.Writes.{write-three}
use Rattle.compiler.proofs.whole.put_head.Goals as goal

pub returns : goal.returns
returns c = write-three 0 _ _ _ _ c.put.ensures c.put-2.ensures c.put-3.ensures
