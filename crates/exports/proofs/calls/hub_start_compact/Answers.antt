-- The exported start of a run, on a compact state. Assumes nothing.
use Rattle.exports.proofs.calls.hub_start_compact.Goals as goal

pub returns : goal.returns
returns c = record { done = c.start.ensures.done; state = c.start.ensures.state; reply = c.start.ensures.reply }
