-- `compile_functional` meets its contract. Assumes nothing.
use Rattle.hub.proofs.compile_functional.Goals as goal

pub returns : goal.returns
returns c = let clauses = c.compile.ensures in record { answer = clauses.answer; lent = clauses.lent }
