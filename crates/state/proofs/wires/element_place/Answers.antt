-- `element_place` meets its contract. Assumes nothing.
use Rattle.std.proofs.Common.{refl}
use Rattle.state.proofs.wires.element_place.Goals as goal

pub returns : goal.returns
returns c = rw (c.base-at.ensures, c.from.ensures) refl
