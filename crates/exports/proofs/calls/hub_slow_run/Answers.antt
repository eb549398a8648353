-- The exported slow run of a program. Assumes nothing.
use Rattle.std.proofs.Common.{refl, le-leb}
use borrow.Author.Tests.{lt-leb}
use Rattle.exports.proofs.calls.hub_slow_run.Goals as goal

pub returns-then-reply-lt-LENGTH : goal.returns-then-reply-lt-LENGTH
returns-then-reply-lt-LENGTH c = rw (lt-leb 48 _ c.if-reply-lt-LENGTH.true) (record { done = refl; values = refl; work = refl; reply = refl })

pub returns : goal.returns
returns c =
    let put = c in
    let call = put in
    let told = rw call.load_if-options.ensures at call.slow_run-answer.ensures in
    rw (le-leb 48 _ call.if-reply-lt-LENGTH.false) (record { done = refl; values = told.values; work = told.work; reply = rw (put.from.ensures, told.answer) at put.put.ensures })
