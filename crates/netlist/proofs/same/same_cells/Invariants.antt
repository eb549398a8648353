-- `same::same_cells` meets its contract. The invariant: the answer from cell 0 is the answer from cell k, and the list's cells from there on are left.
-- Assumes nothing.
use Rattle.std.proofs.Common.{◌≡◌, ◌*◌, take}
use Rattle.model.specs.NetlistFile.{cells_at, in_list, in_file}
use Rattle.word.proofs.Chunks.{Cut}
use Rattle.netlist.specs.Compared.{same_cells}
use Rattle.netlist.proofs.Comparing.{left}
use Rattle.netlist.proofs.same.same_cells.Given as goal

abbrev pub invariant-loop-k : goal.invariant-loop-k
invariant-loop-k l =
    let at = l.k-iterator in
    Cut 6 (take (6 * l.n) l.cells) at.count at.iter × (same_cells (cells_at in_file l.file 0 l.n) (cells_at in_list l.cells 0 l.n) ≡ left l.file l.cells l.n at.count)
