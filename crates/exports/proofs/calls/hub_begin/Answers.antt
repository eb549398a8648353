-- The exported beginning of a run, on a full state. Assumes nothing.
use Rattle.exports.proofs.calls.hub_begin.Goals as goal

pub returns : goal.returns
returns c = record { done = c.begin.ensures.done; state = c.begin.ensures.state; reply = c.begin.ensures.reply }
