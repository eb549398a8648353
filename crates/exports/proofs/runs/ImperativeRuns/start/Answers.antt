-- The start of an imperative run is hub's. Assumes nothing.
use Rattle.exports.proofs.runs.ImperativeRuns.start.Goals as goal

pub returns : goal.returns
returns c = let clauses = c.start.ensures in record { answer = clauses.answer; lent = clauses.lent }
