-- `sets::same` meets its contract. Assumes nothing.
use Rattle.functional.proofs.Bits.{same_at}
use Rattle.functional.proofs.sets.same.Goals as goal

pub returns : goal.returns
returns c = same_at c.args.wire 16
