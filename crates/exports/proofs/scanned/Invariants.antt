-- `scanned` meets its contract. The invariant: the cells before the next one are looked at, if the netlist may have so many. Assumes nothing.
use Rattle.std.proofs.Common.{◌≡◌, ◌≤◌, length}
use Rattle.model.specs.NetlistFile.{cell_limit}
use Rattle.netlist.specs.Scans.{Scanned}
use Rattle.exports.proofs.scanned.Given as goal

abbrev pub invariant-loop-k : goal.invariant-loop-k
invariant-loop-k l = record {
  count : l.scan.n ≡ length l.cells;
  end : l.scan.finish ≡ l.finish;
  found : length l.cells ≤ cell_limit → Scanned l.cells l.finish l.k l.scan;
}
