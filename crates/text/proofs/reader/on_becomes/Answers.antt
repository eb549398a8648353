-- `reader::on_becomes` meets its contract. Assumes nothing.
use Rattle.text.proofs.Arms.{becomes-operand, becomes-broken}
use Rattle.text.proofs.reader.on_becomes.Goals as goal

pub returns-then-t-eq18 : goal.returns-then-t-eq18
returns-then-t-eq18 c =
    let args = c.args in
    let if1 = c.if-t-eq18 in
    record { grows = c.in_mode.ensures.grows; follows = (λ l r h. rw (becomes-operand args.t r if1.true) (c.in_mode.ensures.follows l r h)) }

pub returns : goal.returns
returns c =
    let args = c.args in
    let if1 = c.if-t-eq18 in
    record { grows = c.broken.ensures.grows; follows = (λ l r h. rw (becomes-broken args.t r if1.false) (c.broken.ensures.follows l r h)) }
