-- `start_functional` meets its contract. Assumes nothing.
use Rattle.hub.proofs.start_functional.Goals as goal

pub returns : goal.returns
returns c = let clauses = c.start.ensures in record { answer = clauses.answer; lent = clauses.lent }
