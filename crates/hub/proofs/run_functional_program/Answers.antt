-- `run_functional_program` meets its contract. Assumes nothing.
use Rattle.hub.proofs.run_functional_program.Goals as goal

pub returns : goal.returns
returns c = let clauses = c.run.ensures in record { answer = clauses.answer; netlist = clauses.netlist; state = clauses.state }
