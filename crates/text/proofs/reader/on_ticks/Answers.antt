-- `reader::on_ticks` meets its contract. Assumes nothing.
use Rattle.text.proofs.Arms.{ticks-delay, ticks-broken}
use Rattle.text.proofs.reader.on_ticks.Goals as goal

pub returns-then-t-eq1 : goal.returns-then-t-eq1
returns-then-t-eq1 c =
    let args = c.args in
    let if1 = c.if-t-eq1 in
    record { grows = c.with_delay.ensures.grows; follows = (λ stack r h. rw (ticks-delay args.t r h.start if1.true) (c.with_delay.ensures.follows stack r h)) }

pub returns : goal.returns
returns c =
    let args = c.args in
    let if1 = c.if-t-eq1 in
    record { grows = c.broken.ensures.grows; follows = (λ stack r h. rw (ticks-broken args.t r if1.false) (c.broken.ensures.follows _ r h)) }
