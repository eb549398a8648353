-- The exported compiling of a functional circuit. Assumes nothing.
use Rattle.std.proofs.Common.{ap, ◌∙◌}
use Rattle.reply.specs.Replies.{written_reply}
use Rattle.reply.proofs.Rooms.{answered, nothing}
use Rattle.exports.proofs.functional_calls.hub_compile_functional.Goals as goal

pub returns-then-reply-lt-LENGTH : goal.returns-then-reply-lt-LENGTH
returns-then-reply-lt-LENGTH c = let clauses = nothing _ c.if-reply-lt-LENGTH.true _ _ _ in record { done = clauses.0; file = clauses.1.0; reply = clauses.1.1 }

pub returns : goal.returns
returns c =
    let put = c in
    let call = put in
    let told = rw call.load_if-options.ensures at call.compile_functional-answer.ensures in
    let clauses = answered _ call.if-reply-lt-LENGTH.false _ _ _ _ _ _ told.lent put.put.ensures (put.from.ensures ∙ ap written_reply told.answer) in record { done = clauses.0; file = clauses.1.0; reply = clauses.1.1 }
