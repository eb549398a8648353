-- `element_now` meets its contract. Assumes nothing.
use mathlib.Core.Path.{sym, ◌∙◌, ap, ap₂}
use Prim.Native.Nat.{ℕ, ◌+◌, ◌*◌}
use native.Mathlib.Omega.{arith}
use Rattle.model.specs.declared.Cell.{Cell}
use Rattle.model.specs.Word.{get16, element_of}
use Rattle.model.specs.State.{base}
use Rattle.simulator.proofs.Cells.{fits-few, fits-room, net-cell, net-length, cell-there}
use Rattle.simulator.proofs.instant.element_now.Goals as goal

pub cell_at-array-requires : goal.cell_at-array-requires
cell_at-array-requires c =
    let pre = c.requires in
    (omega (arith, fits-few pre.0, pre.1), cell-there pre.0 c.args.a pre.1)

pub element_place-requires : goal.element_place-requires
element_place-requires c =
    let pre = c.requires in
    let args = c.args in
    let array = ap (λ (d : Cell). d.delay) (net-cell pre.0 args.a pre.1 ∙ sym c.cell_at-array.ensures) in
    (fits-few pre.0, rw array at pre.2)

pub get16-requires : goal.get16-requires
get16-requires c =
    let args = c.args in
    let pre = c.requires in
    let array = ap (λ (d : Cell). d.delay) (net-cell pre.0 args.a pre.1 ∙ sym c.cell_at-array.ensures) in
    omega (arith, fits-room pre.0, pre.2, array, c.element_place.ensures)

pub returns : goal.returns
returns c =
    let pre = c.requires in
    let args = c.args in
    let array = ap (λ (d : Cell). d.delay) (net-cell pre.0 args.a pre.1 ∙ sym c.cell_at-array.ensures) in
    c.get16.ensures
    ∙ ap (get16 args.state.now) c.element_place.ensures
    ∙ ap₂ (λ (m d : ℕ). get16 args.state.now (base args.source.now.format m + 2 * element_of d args.w)) (sym (net-length pre.0)) (sym array)
