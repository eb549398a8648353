-- `walk::put_masks` meets its contract. Assumes nothing.
use Rattle.compiler.proofs.Writes.{write-three}
use Rattle.functional.proofs.walk.put_masks.Goals as goal

pub returns : goal.returns
returns c =
    write-three _ _ _ _ _ c.put.ensures c.put-2.ensures c.put-3.ensures
