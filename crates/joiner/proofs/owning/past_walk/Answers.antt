-- `owning::past_walk` meets its contract. The invariant: without the last cells, of kind 7, there is the same left. Assumes nothing.
use mathlib.Core.Path.{sym, ◌∙◌}
use native.Mathlib.Omega.{arith}
use Rattle.joiner.proofs.Runs.{cut-more, cut-end, cut-none}
use Rattle.joiner.proofs.owning.past_walk.Goals as goal

pub returns-then-c-ne7 : goal.returns-then-c-ne7
returns-then-c-ne7 c =
    let loop = c.loop-i in
    omega (arith, loop.invariant, cut-end c.args.file.now loop.i c.loop-i-test.true c.cell_at-c.ensures c.if-c-ne7.true)

pub loop-i-preserved : goal.loop-i-preserved
loop-i-preserved c =
    let loop = c.loop-i in
    loop.invariant ∙ cut-more c.args.file.now loop.i c.loop-i-test.true c.cell_at-c.ensures c.if-c-ne7.false

pub returns : goal.returns
returns c =
    sym (c.loop-i.invariant ∙ cut-none c.args.file.now c.loop-i.i (omega arith))
