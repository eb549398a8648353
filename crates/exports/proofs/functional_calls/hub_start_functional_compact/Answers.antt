-- The exported start of a functional run, on a compact state. Assumes nothing.
use Rattle.exports.proofs.functional_calls.hub_start_functional_compact.Goals as goal

pub returns : goal.returns
returns c = record { done = c.start.ensures.done; state = c.start.ensures.state; reply = c.start.ensures.reply }
