-- The exported full run of a netlist. Assumes nothing.
use Rattle.exports.proofs.calls.hub_run_netlist.Goals as goal

pub returns : goal.returns
returns c = record { done = c.run.ensures.done; state = c.run.ensures.state; reply = c.run.ensures.reply }
