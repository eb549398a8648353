-- `next_due` meets its contract: the instants up to w are free; each turn goes to the end of w's word. Assumes nothing.
use Rattle.std.proofs.Common.{◌+◌, rules, arith}
use lib.Count.{trailing_le}
use Rattle.engine_laws.specs.Sets.{free-here, free-less, onward, found, cleared}
use Rattle.engine.proofs.wheel.next_due.Goals as goal

pub loop-init : goal.loop-init
loop-init c = (free-here _ _, omega arith, omega arith, omega arith)

pub returns-then-x-ne0 : goal.returns-then-x-ne0
returns-then-x-ne0 c =
    let s = c.args.occupied.now in
    let w = c.loop.w in
    (omega arith, omega (arith, trailing_le 64 (onward s w)), found s c.args.t w c.loop.invariant.0 (search rules) (omega (arith, c.if-x-ne0.true)))

pub loop-preserved : goal.loop-preserved
loop-preserved c = (
  cleared c.args.occupied.now c.args.t c.loop.w c.loop.invariant.0 (omega (arith, c.if-x-ne0.false)),
  omega arith,
  omega arith,
  omega arith,
)

pub returns : goal.returns
returns c = free-less c.args.occupied.now c.args.t (c.args.t + 257) c.loop.w (omega arith) c.loop.invariant.0
