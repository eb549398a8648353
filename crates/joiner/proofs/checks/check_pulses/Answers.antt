-- `checks::check_pulses` meets its contract. The invariant: the search from part 0 goes on at part i. Assumes nothing.
use Rattle.std.proofs.Common.{◌∙◌, ap, inl, arith}
use Rattle.model.specs.Refusals.{refuse}
use Rattle.laws.specs.Refusals.Search.{searched-none, fault-here, fault-next, faults-end}
use Rattle.joiner.specs.Lent.{parts_left}
use Rattle.joiner.proofs.Lent.{few-parts}
use Rattle.joiner.proofs.Refusing.{standing-first, standing-next, more, passed, pulses-differ, pulses-agree}
use Rattle.joiner.proofs.checks.check_pulses.Goals as goal

pub loop-i-init-derived : goal.loop-i-init-derived
loop-i-init-derived c =
    let ps = c.args.parts in
    let items = c.enumerate-i-items.ensures in
    let few = few-parts ps.lengths.now ps.pulses.now ps.bytes.now c.ranges.parts.0 in
    rw (c.into_iter-i-iterator.ensures.into_iter_gives, items.count, items.source) ((tt, tt, inl (omega (arith, few))), tt)

pub loop-i-init : goal.loop-i-init
loop-i-init c =
    let ps = parts_left c.args.parts in
    let items = c.enumerate-i-items.ensures in
    rw (c.into_iter-i-iterator.ensures.into_iter_gives, items.count, items.source) (standing-first ps, searched-none _ _)

pub returns-then-part-pulse : goal.returns-then-part-pulse
returns-then-part-pulse c =
    let ps = c.args.parts in
    let known = c.loop-i.invariant in
    let steps = c.in-Some.ensures.steps in
    c.refuse.ensures ∙ ap (refuse 30) steps.1
    ∙ fault-here known.1 30 (more known.0 steps.0) (omega arith)
    (pulses-differ ps.lengths.now ps.pulses.now ps.bytes.now known.0 steps.0 c.pulse-pulse.ensures c.if-part-pulse.true)

pub loop-i-preserved : goal.loop-i-preserved
loop-i-preserved c =
    let ps = c.args.parts in
    let known = c.loop-i.invariant in
    let steps = c.in-Some.ensures.steps in
    rw steps.2 (
      standing-next known.0 steps.0,
      fault-next known.1 (more known.0 steps.0)
          (pulses-agree ps.lengths.now ps.pulses.now ps.bytes.now known.0 steps.0 c.pulse-pulse.ensures c.if-part-pulse.false),
    )

pub returns : goal.returns
returns c = let known = c.loop-i.invariant in faults-end known.1 (passed known.0 c.in-None.ensures.steps.0.0)
