-- The exported continuing of a functional run, on a compact state. Assumes nothing.
use Rattle.exports.proofs.functional_calls.hub_continue_functional_compact.Goals as goal

pub returns : goal.returns
returns c = record { done = c.continue_by.ensures.done; state = c.continue_by.ensures.state; reply = c.continue_by.ensures.reply }
