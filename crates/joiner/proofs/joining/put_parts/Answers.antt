-- `joining::put_parts` meets its contract. The invariant: what is left of the sequence, whatever pulse lengths are lent, comes out as the whole. Assumes nothing.
use Rattle.std.proofs.Common.{refl, ◌∙◌}
use Rattle.joiner.proofs.Chaining.{going-lent, part-placeable, going_next, going_end}
use Rattle.joiner.proofs.joining.put_parts.Goals as goal

pub loop-part-init : goal.loop-part-init
loop-part-init c = rw c.into_iter-part-iterator.ensures.into_iter_gives (refl, λ options pulses R. going-lent _ pulses _ c.args.parts.pulses.now c.args.cells.now R c.args.marks.now)

pub place_part-at-requires : goal.place_part-at-requires
place_part-at-requires c =
    let pre = c.requires in
    let R = pre.parts-ready in
    part-placeable c.args.cells.now R (c.loop-part.invariant.1 pre.options pre.pulses R) c.in-Some.ensures.steps

pub loop-part-preserved : goal.loop-part-preserved
loop-part-preserved c =
    let put = c.place_part-at in
    (put.auto.cells ∙ c.loop-part.invariant.0, λ options pulses R. going_next c.args.cells.now R (c.loop-part.invariant.1 options pulses R) c.in-Some.ensures.steps put.auto.cells put.ensures)

pub returns : goal.returns
returns c = λ options pulses R. going_end c.args.cells.now R (c.loop-part.invariant.1 options pulses R) c.in-None.ensures.steps.0
