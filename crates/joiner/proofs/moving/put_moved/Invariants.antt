-- `put_moved` meets its contract. The invariant: putting the rest in comes out as at the start. Assumes nothing.
use mathlib.Core.Path.{◌≡◌}
use mathlib.Core.List.{map}
use Prim.Native.Nat.{◌+◌, ◌*◌}
use lib.Seq.{sets}
use Rattle.model.specs.NetlistFile.{cell_bytes, cells_at, in_file}
use Rattle.model.specs.CellSlices.{rewired}
use Rattle.netlist.specs.Left.{cells_left}
use Rattle.netlist.proofs.Bytes.{Standing}
use Rattle.joiner.specs.Stands.{moves}
use Rattle.joiner.proofs.moving.put_moved.Given as goal

abbrev pub invariant-loop-j : goal.invariant-loop-j
invariant-loop-j l =
    let own = cells_at in_file l.file l.k l.n in
    let at = l.j-iterator in
    Standing own at.count (cells_left at.iter)
    × (sets l.initial.cells l.i (cell_bytes (map (rewired (moves l.fn.at)) own))
    ≡ sets l.cells (l.i + 6 * at.count) (cell_bytes (map (rewired (moves l.fn.at)) (cells_left at.iter))))
