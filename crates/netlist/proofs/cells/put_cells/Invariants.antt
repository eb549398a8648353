-- `cells::put_cells` meets its contract. The invariant: putting in what is left comes out as at the start. Assumes nothing.
use Rattle.std.proofs.Common.{◌≡◌, ◌+◌, ◌*◌}
use lib.Seq.{sets}
use Rattle.model.specs.NetlistFile.{cell_bytes, cells_at}
use Rattle.netlist.specs.Offsets.{offset}
use Rattle.netlist.specs.Left.{cells_left}
use Rattle.netlist.proofs.Bytes.{Standing}
use Rattle.netlist.proofs.cells.put_cells.Given as goal

abbrev pub invariant-loop-j : goal.invariant-loop-j
invariant-loop-j l =
    let net = cells_at (offset l.fn.layout) l.s l.k l.n in
    let at = l.j-iterator in
    Standing net at.count (cells_left at.iter)
    × (sets l.initial.d l.i (cell_bytes net) ≡ sets l.d (l.i + 6 * at.count) (cell_bytes (cells_left at.iter)))
