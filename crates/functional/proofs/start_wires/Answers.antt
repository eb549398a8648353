-- `start_wires` meets its contract. Assumes nothing.
use mathlib.Core.Path.{◌∙◌}
use Rattle.functional.specs.Sets.{wired}
use Rattle.functional.proofs.Bits.{full-placed}
use Rattle.functional.proofs.start_wires.Goals as goal

pub returns : goal.returns
returns c x h = c.placed.ensures x h ∙ full-placed (wired c.same.result.of) x h
