-- `begin_functional` meets its contract. Assumes nothing.
use Rattle.hub.proofs.begin_functional.Goals as goal

pub returns : goal.returns
returns c = let clauses = c.begin.ensures in record { answer = clauses.answer; lent = clauses.lent }
