-- `has_fallen` meets its contract. Assumes nothing.
use Rattle.slow.specs.Ring.{word_in}
use Rattle.slow.proofs.ByKind.{fell}
use Rattle.slow.proofs.gates.has_fallen.Goals as goal

pub returns : goal.returns
returns c = cc (fell (word_in c.args.work.now c.args.a) c.args.t)
