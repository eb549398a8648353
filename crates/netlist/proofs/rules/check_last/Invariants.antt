-- `rules::check_last` meets its contract. The invariant: the answer from cell 0 is the answer from the k-th of the last cells, which is one of the last
-- sixteen, and the cells from there on are left. Assumes nothing.
use Rattle.std.proofs.Common.{◌+◌, ◌-◌, ◌≤◌}
use Rattle.model.specs.NetlistFile.{cells_at, last_fault}
use Rattle.laws.specs.Refusals.Search.{Searched}
use Rattle.netlist.specs.Offsets.{offset}
use Rattle.netlist.specs.Left.{cells_left}
use Rattle.netlist.proofs.Bytes.{Standing}
use Rattle.netlist.proofs.rules.check_last.Given as goal

abbrev pub invariant-loop-k : goal.invariant-loop-k
invariant-loop-k l =
    let at = l.k-iterator in
    (l.n ≤ l.first + at.count + 16)
    × Searched (last_fault (cells_at (offset l.fn.layout) l.s 0 l.n)) l.n (l.first + at.count)
    × Standing (cells_at (offset l.fn.layout) l.s l.first (l.n - l.first)) at.count (cells_left at.iter)
