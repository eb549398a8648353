-- `store` meets its contract: a 42 whose clock has fallen takes a word in, and nothing else changes. Assumes nothing.
use mathlib.Core.Path.{sym, ◌∙◌}
use Prim.Native.Nat.{◌+◌}
use native.Mathlib.Omega.{arith}
use Rattle.model.specs.NetlistFile.{net_of}
use Rattle.simulator.proofs.Cells.{fits-few, fits-room, net-cell, net-length, cursor-there, cursor-cell, holds-cell, array-address}
use Rattle.simulator.proofs.Arrays.{stored_other, stored-kept, stored-put}
use Rattle.simulator.proofs.instant.store.Goals as goal
use Rattle.simulator.proofs.instant.store.Goals.{else-c-eq42-via-then-c-eq42+else-has_fallen, else-c-eq42-via-else-c-eq42}

pub cell_from-address-requires : goal.cell_from-address-requires
cell_from-address-requires c =
    let if1 = c.if-c-eq42 in
    let pre = c.requires in
    cursor-there pre.0.fits (c.args.k + 1) (array-address pre.0 if1.true).1 pre.1

pub before_at-w-requires : goal.before_at-w-requires
before_at-w-requires c =
    let args = c.args in
    let pre = c.requires in
    let if1 = c.if-c-eq42 in
    let cell-from = c.cell_from-address in
    let array = array-address pre.0 if1.true in
    rw (cursor-cell pre.0.fits (args.k + 1) array.1 pre.1 cell-from.ensures) array.2

pub element_place-place-requires : goal.element_place-place-requires
element_place-place-requires c =
    let if1 = c.if-c-eq42 in
    let pre = c.requires in
    (fits-few pre.0.fits, (array-address pre.0 if1.true).0)

pub put16-requires : goal.put16-requires
put16-requires c =
    let if1 = c.if-c-eq42 in
    let pre = c.requires in
    omega (arith, fits-room pre.0.fits, (array-address pre.0 if1.true).0, c.element_place-place.ensures)

pub returns-then-has_fallen : goal.returns-then-has_fallen
returns-then-has_fallen c =
    let if1 = c.if-c-eq42 in
    let cell-from = c.cell_from-address in
    let has-fallen = c.has_fallen in
    let if2 = c.if-has_fallen in
    let element_place = c.element_place-place in
    let before_at = c.before_at-w in
    let before-at2 = c.before_at-v in
    let args = c.args in
    let pre = c.requires in
    let array = if1.true in
    let fits = pre.0.fits in
    let there = (array-address pre.0 array).1 in
    let next = net-cell fits (args.k + 1) there ∙ sym (cursor-cell fits (args.k + 1) there pre.1 cell-from.ensures) in
    let fallen = sym has-fallen.ensures ∙ if2.true in
    c.put16.ensures
    ∙ stored-put args.source.now.format (net_of args.source.now.file.now) args.state.now args.k args.c (holds-cell pre.0) array fallen _ _ _ _ _ (net-length fits) next element_place.ensures before_at.ensures before-at2.ensures

pub returns-else-c-eq42 : goal.returns-else-c-eq42
returns-else-c-eq42 c =
    let cell = holds-cell c.requires.0 in
    elim c.else-c-eq42.branch [
      | else-c-eq42-via-then-c-eq42+else-has_fallen w ↦ sym (stored-kept _ (net_of _) _ _ _ cell w.if-c-eq42.true (sym w.has_fallen.ensures ∙ w.if-has_fallen.false))
      | else-c-eq42-via-else-c-eq42 w ↦ sym (stored_other _ (net_of _) _ _ _ cell w.if-c-eq42.false)
    ]
