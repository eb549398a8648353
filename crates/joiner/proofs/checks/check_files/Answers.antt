-- `checks::check_files` meets its contract. The invariant: the search from part 0 goes on at part i, and the parts that are left pass their own checks. Assumes nothing.
use Rattle.std.proofs.Common.{◌∙◌, ap, inl, arith, Bool, not}
use Rattle.model.specs.Refusals.{refuse, fault_if}
use Rattle.laws.specs.Refusals.Search.{searched-none, fault-here, fault-next, faults-end}
use Rattle.joiner.specs.Lent.{parts_left}
use Rattle.joiner.proofs.Lent.{few-parts}
use Rattle.joiner.proofs.Refusing.{standing-first, standing-next, more, passed, rest-own, here-accepted, files-here}
use Rattle.joiner.proofs.checks.check_files.Goals as goal

pub loop-i-init-derived : goal.loop-i-init-derived
loop-i-init-derived c =
    let ps = c.args.parts in
    let items = c.enumerate-i-items.ensures in
    let few = few-parts ps.lengths.now ps.pulses.now ps.bytes.now c.ranges.parts.0 in
    rw (c.into_iter-i-iterator.ensures.into_iter_gives, items.count, items.source) ((tt, tt, inl (omega (arith, few))), tt)

pub loop-i-init : goal.loop-i-init
loop-i-init c =
    let ps = parts_left c.args.parts in
    let items = c.enumerate-i-items.ensures in
    rw (c.into_iter-i-iterator.ensures.into_iter_gives, items.count, items.source) (standing-first ps, searched-none _ _, c.requires)

pub is_own-requires : goal.is_own-requires
is_own-requires c = rw c.beside.ensures (here-accepted c.args.options c.in-Some.ensures.steps.0 c.loop-i.invariant.2)

pub returns-then-not-is_own : goal.returns-then-not-is_own
returns-then-not-is_own c =
    let known = c.loop-i.invariant in
    let steps = c.in-Some.ensures.steps in
    let told = rw c.beside.ensures at c.is_own.ensures in
    c.refuse.ensures ∙ ap (refuse 31) steps.1
    ∙ fault-here known.1 31 (more known.0 steps.0) (omega arith)
    (files-here known.0 steps.0 c.args.options told ∙ ap (λ (b : Bool). fault_if (not b) 31) c.if-not-is_own.true)

pub loop-i-preserved : goal.loop-i-preserved
loop-i-preserved c =
    let known = c.loop-i.invariant in
    let steps = c.in-Some.ensures.steps in
    let told = rw c.beside.ensures at c.is_own.ensures in
    rw steps.2 (
      standing-next known.0 steps.0,
      fault-next known.1 (more known.0 steps.0)
          (files-here known.0 steps.0 c.args.options told ∙ ap (λ (b : Bool). fault_if (not b) 31) c.if-not-is_own.false),
      rest-own c.args.options steps.0 known.2,
    )

pub returns : goal.returns
returns c = let known = c.loop-i.invariant in faults-end known.1 (passed known.0 c.in-None.ensures.steps.0.0)
