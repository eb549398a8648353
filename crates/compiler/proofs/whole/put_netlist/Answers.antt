-- `whole::put_netlist` meets its contract. Assumes nothing.
use mathlib.Core.Path.{refl, ◌∙◌}
use native.Mathlib.Omega.{arith}
use Rattle.compiler.proofs.Assembly.{calls-told, all-closing}
use Rattle.compiler.proofs.whole.put_netlist.Goals as goal

pub put_clocks-clocks-requires : goal.put_clocks-clocks-requires
put_clocks-clocks-requires c = (c.requires, refl)

pub put_walk-walked-requires : goal.put_walk-walked-requires
put_walk-walked-requires c =
    let clocks = c.put_clocks-clocks in
    rw clocks.auto.cells (c.requires, clocks.ensures.memory, calls-told clocks.ensures.told (omega arith))

pub close-requires : goal.close-requires
close-requires c =
    let clocks = c.put_clocks-clocks in
    let walk = c.put_walk-walked in
    record { program = _; closing = all-closing c.requires clocks.ensures walk.ensures (walk.auto.cells ∙ clocks.auto.cells) }

pub shape_of-cells : goal.shape_of-cells
shape_of-cells c = c.close.auto.cells ∙ c.put_walk-walked.auto.cells ∙ c.put_clocks-clocks.auto.cells

pub returns : goal.returns
returns c =
    let clocks = c.put_clocks-clocks in
    let walk = c.put_walk-walked in
    c.close.ensures _ (all-closing c.requires clocks.ensures walk.ensures (walk.auto.cells ∙ clocks.auto.cells))
