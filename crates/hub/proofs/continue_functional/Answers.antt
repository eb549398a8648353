-- `continue_functional` meets its contract. Assumes nothing.
use Rattle.hub.proofs.continue_functional.Goals as goal

pub returns : goal.returns
returns c = let clauses = c.continue_by.ensures in record { answer = clauses.answer; lent = clauses.lent }
