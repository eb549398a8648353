-- `rules::check_cells` meets its contract. The invariant: what is found of the first k cells, and the others are left. Assumes nothing.
use Rattle.model.specs.NetlistFile.{cells_at}
use Rattle.netlist.specs.Offsets.{offset}
use Rattle.netlist.specs.Left.{cells_left}
use Rattle.netlist.specs.Scans.{Scanned}
use Rattle.netlist.proofs.Bytes.{Standing}
use Rattle.netlist.proofs.rules.check_cells.Given as goal

abbrev pub invariant-loop-k : goal.invariant-loop-k
invariant-loop-k l =
    let net = cells_at (offset l.layout) l.s 0 l.n in
    let at = l.k-iterator in
    Standing net at.count (cells_left at.iter) × Scanned net l.finish at.count l.scan
