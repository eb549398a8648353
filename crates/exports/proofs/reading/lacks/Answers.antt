-- `reading::lacks` meets its contract: the sum is compared. Assumes nothing.
use Rattle.std.proofs.Common.{ℕ, ap}
use lib.Dec.{ltb}
use Rattle.exports.proofs.reading.lacks.Goals as goal

pub returns-in-Some : goal.returns-in-Some
returns-in-Some c = ap (λ (end : ℕ). ltb c.args.room end) c.in-Some.ensures.1
