-- The exported full run of a functional netlist. Assumes nothing.
use Rattle.exports.proofs.functional_calls.hub_run_functional.Goals as goal

pub returns : goal.returns
returns c = record { done = c.run.ensures.done; state = c.run.ensures.state; reply = c.run.ensures.reply }
