-- `frames::top` meets its contract. Assumes nothing.
use Rattle.text.proofs.Stack.{code-none, code-some, start_none, start-some}
use Rattle.text.proofs.frames.top.Goals as goal

pub returns-then-height-eq0-clause-code : goal.returns-then-height-eq0-clause-code
returns-then-height-eq0-clause-code c = code-none c.args.stack.now c.args.height c.if-height-eq0.true

pub returns-then-height-eq0-clause-start : goal.returns-then-height-eq0-clause-start
returns-then-height-eq0-clause-start c = start_none c.args.stack.now c.args.height c.if-height-eq0.true

pub returns-clause-code : goal.returns-clause-code
returns-clause-code c = code-some c.args.stack.now c.args.height c.if-height-eq0.false

pub returns-clause-start : goal.returns-clause-start
returns-clause-start c = start-some c.args.stack.now c.args.height c.if-height-eq0.false
