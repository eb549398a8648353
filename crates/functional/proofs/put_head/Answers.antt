-- `put_head` meets its contract. Assumes nothing.
use Rattle.functional.proofs.Whole.{head_done}
use Rattle.functional.proofs.put_head.Goals as goal

pub returns : goal.returns
returns c = head_done _ c.put_head.ensures c.put_memories.ensures c.put_arrays.ensures
