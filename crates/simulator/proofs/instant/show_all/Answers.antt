-- `show_all` meets its contract: the state so far is the pass up to cell k, which begins at the cursor. Assumes nothing.
use Rattle.state.proofs.Standing.{stands-in}
use mathlib.Core.Path.{refl, ◌∙◌}
use native.Mathlib.Omega.{arith}
use Rattle.netlist.proofs.Following.{follows}
use Rattle.simulator.proofs.Cells.{fits-few, fits-room, cursor-there, cursor-low, cursor-cell, shown-value, holds}
use Rattle.simulator.proofs.Passes.{passed_none, passed-more}
use Rattle.simulator.proofs.instant.show_all.Goals as goal

pub loop-k-init : goal.loop-k-init
loop-k-init c = (passed_none, refl)

pub cell_from-c-requires : goal.cell_from-c-requires
cell_from-c-requires c =
    let pre = c.requires in
    let loop = c.loop-k in
    cursor-there pre loop.k c.loop-k-test.true loop.invariant.1

pub next_value-v-requires : goal.next_value-v-requires
next_value-v-requires c =
    let pre = c.requires in
    let loop = c.loop-k in
    let test = c.loop-k-test in
    let cell-from = c.cell_from-c in
    holds pre loop.k test.true loop.state loop.invariant.0.long _ (cursor-cell pre loop.k test.true loop.invariant.1 cell-from.ensures)

pub store-requires : goal.store-requires
store-requires c =
    let pre = c.requires in
    let test = c.loop-k-test in
    let loop = c.loop-k in
    let cell-from = c.cell_from-c in
    let next-offset = c.next_offset-at in (
      holds pre loop.k test.true loop.state loop.invariant.0.long _ (cursor-cell pre loop.k test.true loop.invariant.1 cell-from.ensures),
      follows loop.k loop.invariant.1 next-offset.ensures,
    )

pub loop-k-preserved : goal.loop-k-preserved
loop-k-preserved c =
    let test = c.loop-k-test in
    let put16 = c.put16 in
    let store = c.store in
    let cell-from = c.cell_from-c in
    let next-offset = c.next_offset-at in
    let pre = c.requires in
    let base = c.base-to in
    let next-value = c.next_value-v in
    let loop = c.loop-k in
    let args = c.args in
    let here = cursor-cell pre loop.k test.true loop.invariant.1 cell-from.ensures in (
      passed-more loop.invariant.0 test.true (put16.auto.s ∙ store.auto.state)
          (put16.ensures ∙ shown-value pre loop.k test.true args.starts loop.state _ _ _ _ here store.ensures base.ensures next-value.ensures),
      follows loop.k loop.invariant.1 next-offset.ensures,
    )

pub next_offset-at-requires : goal.next_offset-at-requires
next_offset-at-requires c =
    let pre = c.requires in
    let loop = c.loop-k in
    cursor-low pre loop.k c.loop-k-test.true loop.invariant.1

pub base-to-requires : goal.base-to-requires
base-to-requires c =
    let pre = c.requires in
    let test = c.loop-k-test in
    omega (arith, fits-few pre, test.true)

pub put16-requires : goal.put16-requires
put16-requires c =
    let args = c.args in
    let loop = c.loop-k in
    let test = c.loop-k-test in
    let pre = c.requires in
    let store = c.store in
    let st = stands-in args.source.now.format loop.state loop.k args.source.now.h.count test.true (fits-few pre) (omega (arith, fits-room pre, loop.invariant.0.long)) in
    omega (arith, c.base-to.ensures, st.front, store.auto.state)
