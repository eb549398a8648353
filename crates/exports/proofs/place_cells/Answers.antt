-- `place_cells` meets its contract: a cell more is placed, and all are moved. Assumes nothing.
use Rattle.std.proofs.Common.{◌≡◌, ◌+◌, ◌-◌, take, drop, sym, ◌∙◌, arith}
use lib.ListN.{length-map}
use Rattle.model.specs.NetlistFile.{cells_at, in_file}
use Rattle.model.specs.CellSlices.{behind, moved}
use Rattle.netlist.proofs.Bytes.{cells-length}
use Rattle.exports.proofs.Planning.{moved-wraps}
use Rattle.exports.proofs.Moving.{place-all, place-more, place-done, places-length, placed-between}
use Rattle.exports.proofs.place_cells.Goals as goal

pub loop-j-init : goal.loop-j-init
loop-j-init c =
    let args = c.args in
    place-all args.file.now args.n (take (args.at + args.n - args.at) (drop args.at args.cells.now)) (places-length args.at args.n args.cells.now c.requires.0)

pub loop-j-preserved : goal.loop-j-preserved
loop-j-preserved c =
    let args = c.args in
    let loop = c.loop-j in
    let l = places-length args.at args.n args.cells.now c.requires.0 in
    loop.invariant ∙ place-more args.file.now args.n loop.places loop.j (omega (arith, c.loop-j-test.true, l)) c.cell_at.ensures

pub returns : goal.returns
returns c =
    let args = c.args in
    let loop = c.loop-j in
    let xs = args.cells.now in
    let cs = cells_at in_file args.file.now 0 args.n in
    let l = places-length args.at args.n xs c.requires.0 in
    let placed : loop.places ≡ cs = sym (loop.invariant ∙ place-done args.file.now args.n loop.places loop.j (omega (arith, c.loop-j-test.false, l))) in
    let put : c.renumber.new.cells ≡ behind args.at cs = rw (placed, moved-wraps args.at cs) at c.renumber.ensures in
    rw put (placed-between args.at args.n xs c.requires.0 (behind args.at cs) (length-map cs (moved args.at) ∙ cells-length in_file args.file.now 0 args.n))
