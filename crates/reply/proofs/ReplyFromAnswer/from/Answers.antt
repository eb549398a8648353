-- The reply of a run that is open. Assumes nothing.
use Rattle.reply.specs.Replies.{outcome_reply}
use Rattle.reply.proofs.ReplyFromAnswer.from.Goals as goal

pub returns-in-Open : goal.returns-in-Open
unfolding outcome_reply
returns-in-Open c = rw c.in-Open.is c.of_numbers-in-Open.ensures
