-- `slow_run` meets its contract. Assumes nothing.
use Rattle.hub.proofs.slow_run.Goals as goal

pub returns : goal.returns
returns c = let clauses = c.slow_run.ensures in record { answer = clauses.answer; values = clauses.values; work = clauses.work }
