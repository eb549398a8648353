-- The cells that an iterator has left. Assumes nothing: definitions.
use Rattle.std.specs.Prelude.{◌-◌, List}
use Rattle.model.specs.declared.Cell.{Cell}
use Rattle.model.specs.NetlistFile.{cells_at}
use Rattle.netlist.specs.declared.cells.Cells.{Cells}
use Rattle.netlist.specs.Offsets.{offset}

abbrev pub cells_left : Cells → List Cell
cells_left it = cells_at (offset it.layout) it.bytes.now it.next (it.end - it.next)
