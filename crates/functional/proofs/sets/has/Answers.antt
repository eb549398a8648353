-- `sets::has` meets its contract. Assumes nothing.
use mathlib.Core.Path.{sym}
use Rattle.functional.proofs.Bits.{has-power}
use Rattle.functional.proofs.sets.has.Goals as goal

pub returns : goal.returns
returns c = sym (has-power c.args.set c.args.x)
