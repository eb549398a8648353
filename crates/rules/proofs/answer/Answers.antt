-- The answer of a run that ended, and of one that has not.
use Rattle.rules.proofs.Answers.{answer-ended, answer-open}
use Rattle.rules.proofs.answer.Goals as goal

pub returns-in-Ended : goal.returns-in-Ended
returns-in-Ended c = rw c.in-Ended.is (answer-ended _ _ _ _ c.variables.ensures)

pub returns-in_default : goal.returns-in_default
returns-in_default c = answer-open _ _ _ c.in_default.not-Ended
