-- The first sixteen, copied.
use Rattle.rules.proofs.Stores.{taken}
use Rattle.rules.proofs.words.variables.Goals as goal

pub returns : goal.returns
returns c = taken 16 _ _ c.copy_from_slice.ensures.len c.copy_from_slice.ensures.after
