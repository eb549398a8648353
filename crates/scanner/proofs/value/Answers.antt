-- `words::value` meets its contract. The invariant: going on from v at byte c comes out as from 0 at the start. No value on the way
-- is above the last one, which has five digits. Assumes nothing.
use Rattle.std.proofs.Common.{◌+◌, ◌-◌, ◌*◌, get_or, drop, sym, ◌∙◌, arith}
use Rattle.scanner.proofs.Numbers.{digit-range, digit_at, value-more, value-end, value_grows, value-small}
use Rattle.scanner.proofs.value.Goals as goal

pub overflow_mul-v : goal.overflow_mul-v
overflow_mul-v c =
    let w = c.args.w.now in
    let loop = c.loop-c in
    omega (arith, loop.invariant, value_grows loop.v (drop loop.c-index w), value-small w c.requires.0 c.requires.1)

pub overflow_sub-c : goal.overflow_sub-c
overflow_sub-c c = omega (arith, digit-range _ (digit_at c.args.w.now c.loop-c.c-index c.requires.1 c.loop-c-test.true))

pub overflow_add-v : goal.overflow_add-v
overflow_add-v c =
    let w = c.args.w.now in
    let loop = c.loop-c in
    let next = 10 * loop.v + (get_or w loop.c-index 0 - 48) in
    omega (arith, c.from.ensures, loop.invariant ∙ value-more w loop.v c.loop-c-test.true, value_grows next (drop (loop.c-index + 1) w), value-small w c.requires.0 c.requires.1)

pub loop-c-preserved : goal.loop-c-preserved
loop-c-preserved c =
    let loop = c.loop-c in
    rw c.from.ensures (loop.invariant ∙ value-more c.args.w.now loop.v c.loop-c-test.true)

pub returns : goal.returns
returns c =
    let loop = c.loop-c in
    sym (loop.invariant ∙ value-end c.args.w.now loop.v c.loop-c-test.false)
