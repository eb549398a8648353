-- `has` meets its contract. Assumes nothing.
use Rattle.std.proofs.Common.{refl}
use Rattle.engine_laws.specs.Sets.{member, digit}
use Rattle.engine.proofs.sets.has.Goals as goal

pub returns : goal.returns
unfolding member digit
returns c = refl
