-- The exported beginning of a functional run, on a compact state. Assumes nothing.
use Rattle.exports.proofs.functional_calls.hub_begin_functional_compact.Goals as goal

pub returns : goal.returns
returns c = record { done = c.begin.ensures.done; state = c.begin.ensures.state; reply = c.begin.ensures.reply }
