-- What a look at the cells of a netlist finds where it may have too many of them: then none is looked at, and their number is all that is told.
-- Assumes nothing: definitions.
use Rattle.std.specs.Prelude.{◌≡◌, ℕ, ◌<◌, ◌≤◌, List, length}
use Rattle.model.specs.declared.Cell.{Cell}
use Rattle.model.specs.NetlistFile.{cell_limit}
use Rattle.netlist.specs.declared.rules.Scan.{Scan}
use Rattle.netlist.specs.Scans.{Scanned}

-- what s says of the first k cells, where they are no more than a netlist may have
pub record Looked (net : List Cell) (finish k : ℕ) (s : Scan) : Type 0 where
  pub count : s.n ≡ length net
  pub end : s.finish ≡ finish
  pub few : k < length net → length net ≤ cell_limit
  pub found : length net ≤ cell_limit → Scanned net finish k s
