-- `kinds::is_word` meets its contract. Assumes nothing.
use Rattle.std.proofs.Common.{refl}
use Rattle.netlist.proofs.kinds.is_word.Goals as goal

pub returns : goal.returns
returns c = rw (c.of_array.ensures, c.is_control.ensures) refl
