-- `asked::check_asked` meets its contract where it refuses: each comparison is the one of its definition. Assumes nothing.
use Rattle.std.proofs.Common.{length, le-ltb, lt-ltb, arith}
use Rattle.model.proofs.asked.check_asked.Goals as goal

pub returns-then-budget-gt-LAST_INSTANT-clause-checks : goal.returns-then-budget-gt-LAST_INSTANT-clause-checks
returns-then-budget-gt-LAST_INSTANT-clause-checks c = rw (lt-ltb 1000000 c.args.budget (omega (arith, c.if-budget-gt-LAST_INSTANT.true))) c.refuse.ensures

pub returns-then-words-lt-START_WORDS-clause-checks : goal.returns-then-words-lt-START_WORDS-clause-checks
returns-then-words-lt-START_WORDS-clause-checks c =
    let args = c.args in
    rw (le-ltb 1000000 args.budget c.if-budget-gt-LAST_INSTANT.false, lt-ltb (length args.words.now) 544 c.if-words-lt-START_WORDS.true)
    c.refuse-then-words-lt-START_WORDS.ensures
