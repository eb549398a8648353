-- `moving::rewired` meets its contract: each input by itself. Assumes nothing.
use Rattle.joiner.specs.Stands.{moves}
use Rattle.joiner.proofs.moving.rewired.Goals as goal

pub returns : goal.returns
returns c =
    let low = c.requires.1 in
    c.rewired.ensures (moves c.args.at) (λ e. c.new_number-a.ensures (low.first e)) (λ e. c.new_number-b.ensures (low.second e))

pub new_number-a-requires : goal.new_number-a-requires
new_number-a-requires c = c.requires.0

pub new_number-b-requires : goal.new_number-b-requires
new_number-b-requires c = c.requires.0
