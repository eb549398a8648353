-- `keep_values` meets its contract: the values of the cells below k are kept so far. Assumes nothing.
use mathlib.Core.Path.{◌∙◌}
use native.Mathlib.Omega.{arith}
use Rattle.simulator.proofs.TakingBack.{values-more}
use Rattle.simulator.proofs.keeping.keep_values.Goals as goal

pub loop-k-preserved : goal.loop-k-preserved
loop-k-preserved c =
    let args = c.args in
    let pre = c.requires in
    let loop = c.loop-k in
    let test = c.loop-k-test in
    let put16 = c.put16 in
    let before_at = c.before_at-v in (
      omega arith,
      put16.auto.s ∙ loop.invariant.1,
      values-more args.format args.state.now loop.kept _ loop.k _ (omega (arith, pre.0, pre.1, loop.invariant.1, test.true)) put16.ensures before_at.ensures loop.invariant.2,
    )
