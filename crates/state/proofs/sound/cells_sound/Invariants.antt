-- `cells_sound` meets its contract: the cells that are left are sound if and only if all are. Assumes nothing.
use Rattle.std.proofs.Common.{◌≡◌, drop}
use Rattle.model.specs.NetlistFile.{pulse_of, cells_of}
use Rattle.model.specs.State.{cells_sound}
use Rattle.netlist.specs.Left.{cells_left}
use Rattle.netlist.proofs.Bytes.{Standing}
use Rattle.state.proofs.sound.cells_sound.Given as goal

abbrev pub invariant-loop-k : goal.invariant-loop-k
invariant-loop-k l =
    let at = l.k-iterator in
    Standing (cells_of l.file) at.count (cells_left at.iter)
    × (cells_sound l.format (pulse_of l.file) (drop at.count (cells_of l.file)) l.s at.count ≡ cells_sound l.format (pulse_of l.file) (cells_of l.file) l.s 0)
