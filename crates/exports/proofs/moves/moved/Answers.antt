-- `moves::moved` meets its contract: each input by itself. Assumes nothing.
use Rattle.std.proofs.Common.{refl}
use Rattle.model.specs.CellSlices.{renumbered}
use Rattle.exports.proofs.moves.moved.Goals as goal

pub returns : goal.returns
returns c = c.rewired.ensures (renumbered c.args.k) (λ e. refl) (λ e. refl)
