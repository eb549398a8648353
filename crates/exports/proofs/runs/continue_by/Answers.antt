-- The exported continuing of a run. Assumes nothing.
use Rattle.std.proofs.Common.{ap, ◌∙◌}
use Rattle.reply.specs.Replies.{answer_reply}
use Rattle.reply.proofs.Rooms.{answered, nothing}
use Rattle.exports.proofs.runs.continue_by.Goals as goal

pub returns-then-reply-lt-LENGTH : goal.returns-then-reply-lt-LENGTH
returns-then-reply-lt-LENGTH g c = let clauses = nothing _ c.if-reply-lt-LENGTH.true _ _ _ in record { done = clauses.0; state = clauses.1.0; reply = clauses.1.1 }

pub returns : goal.returns
returns g c =
    let put = c in
    let call = put in
    let told = call.continue_by-answer.ensures in
    let clauses = answered _ call.if-reply-lt-LENGTH.false _ _ _ _ _ _ told.lent put.put.ensures (put.from.ensures ∙ ap answer_reply told.answer) in record { done = clauses.0; state = clauses.1.0; reply = clauses.1.1 }
