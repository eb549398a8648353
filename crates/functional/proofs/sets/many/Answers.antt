-- `sets::many` meets its contract. Assumes nothing.
use Rattle.functional.proofs.Bits.{ones-many}
use Rattle.functional.proofs.sets.many.Goals as goal

pub returns : goal.returns
returns c = ones-many c.args.set c.ranges.set.fits
