-- `rows::set_kinds` meets its contract: a node more is set. Assumes nothing.
use mathlib.Core.Path.{sym, ◌∙◌}
use Rattle.cases.proofs.Laws.{kinds-more, kinds-done}
use Rattle.cases.proofs.rows.set_kinds.Goals as goal

pub loop-i-preserved : goal.loop-i-preserved
loop-i-preserved c =
    let loop = c.loop-i in
    loop.invariant ∙ kinds-more loop.program loop.i c.args.to c.args.kind c.loop-i-test.true

pub returns : goal.returns
returns c =
    let loop = c.loop-i in
    sym (loop.invariant ∙ kinds-done loop.program loop.i c.args.to c.args.kind c.loop-i-test.false)
