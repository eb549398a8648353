-- `rules::is_placed` meets its contract. Assumes nothing.
use Rattle.std.proofs.Common.{refl, ne_eqb}
use Rattle.model.specs.NetlistFile.{placed}
use Rattle.netlist.proofs.rules.is_placed.Goals as goal

pub returns-in-0 : goal.returns-in-0
unfolding placed
returns-in-0 c =
    rw c.in-0.is refl

pub returns-in-1 : goal.returns-in-1
unfolding placed
returns-in-1 c =
    rw c.in-1.is refl

pub returns-in-2 : goal.returns-in-2
unfolding placed
returns-in-2 c =
    rw c.in-2.is refl

pub returns-in_default : goal.returns-in_default
unfolding placed
returns-in_default c =
    rw (ne_eqb _ _ c.in_default.in_default-own.rest.1, ne_eqb _ _ c.in_default.in_default-own.rest.0.1, ne_eqb _ _ c.in_default.in_default-own.rest.0.0.1) refl
