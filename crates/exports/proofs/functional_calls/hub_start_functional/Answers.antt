-- The exported start of a functional run, on a full state. Assumes nothing.
use Rattle.exports.proofs.functional_calls.hub_start_functional.Goals as goal

pub returns : goal.returns
returns c = record { done = c.start.ensures.done; state = c.start.ensures.state; reply = c.start.ensures.reply }
