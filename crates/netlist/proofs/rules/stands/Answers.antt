-- `rules::stands` meets its contract. Assumes nothing.
use Rattle.std.proofs.Common.{refl, ne_eqb}
use Rattle.model.specs.NetlistFile.{stands}
use Rattle.netlist.proofs.rules.stands.Goals as goal

pub returns-in-32 : goal.returns-in-32
unfolding stands
returns-in-32 c = rw c.in-32.is refl

pub returns-in-33 : goal.returns-in-33
unfolding stands
returns-in-33 c = rw c.in-33.is refl

pub returns-in_default : goal.returns-in_default
unfolding stands
returns-in_default c = rw (ne_eqb _ _ c.in_default.in_default-own.rest.1, ne_eqb _ _ c.in_default.in_default-own.rest.0.1) refl
