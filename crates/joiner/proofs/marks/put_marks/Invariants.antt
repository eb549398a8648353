-- `marks::put_marks` meets its contract. The invariant: putting in what is left comes out as putting in all. Assumes nothing.
use mathlib.Core.Path.{◌≡◌}
use Prim.Native.Nat.{◌+◌, ◌-◌}
use lib.ListN.{length}
use lib.Seq.{sets}
use Rattle.model.specs.NetlistFile.{cells_at, in_list}
use Rattle.netlist.specs.Left.{cells_left}
use Rattle.netlist.proofs.Bytes.{Standing}
use Rattle.joiner.specs.Gates.{gate_marks}
use Rattle.joiner.proofs.marks.put_marks.Given as goal

abbrev pub invariant-loop-j : goal.invariant-loop-j
invariant-loop-j l =
    let walk = cells_at in_list l.cells l.from (l.end - l.from) in
    let at = l.j-iterator in
    Standing walk at.count (cells_left at.iter)
    × (l.next + length (gate_marks (l.from + at.count) (cells_left at.iter) l.left) ≡ l.mark + length (gate_marks l.from walk l.gates))
    × (sets l.initial.marks l.mark (gate_marks l.from walk l.gates) ≡ sets l.marks l.next (gate_marks (l.from + at.count) (cells_left at.iter) l.left))
