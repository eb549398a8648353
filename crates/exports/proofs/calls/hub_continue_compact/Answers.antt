-- The exported continuing of a compact state: it is `continue_by` on that format. Assumes nothing.
use Rattle.exports.proofs.calls.hub_continue_compact.Goals as goal

pub returns : goal.returns
returns c = record { done = c.continue_by.ensures.done; state = c.continue_by.ensures.state; reply = c.continue_by.ensures.reply }
