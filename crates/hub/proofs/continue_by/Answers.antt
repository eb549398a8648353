-- `continue_by` meets its contract: it is the simulator's, on the state's own format. Assumes nothing.
use Rattle.hub.proofs.continue_by.Goals as goal

pub returns : goal.returns
returns c = let clauses = c.continue_by.ensures in record { answer = clauses.answer; lent = clauses.lent }
