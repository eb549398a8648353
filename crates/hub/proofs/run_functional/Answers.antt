-- `run_functional` meets its contract. Assumes nothing.
use Rattle.hub.proofs.run_functional.Goals as goal

pub returns : goal.returns
returns c = let clauses = c.run_netlist.ensures in record { answer = clauses.answer; lent = clauses.lent }
