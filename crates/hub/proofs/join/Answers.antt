-- `join` meets its contract. Assumes nothing.
use Rattle.hub.proofs.join.Goals as goal

pub returns : goal.returns
returns c = let clauses = c.join.ensures in record { answer = clauses.answer; lent = clauses.lent }
