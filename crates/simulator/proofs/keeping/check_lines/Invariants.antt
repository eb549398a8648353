-- `check_lines` meets its contract: no line below cell k, which begins at the cursor, is crowded. Assumes nothing.
use mathlib.Core.Path.{◌≡◌}
use Prim.Native.Nat.{◌≤◌}
use Rattle.model.specs.NetlistFile.{in_file, net_of}
use Rattle.laws.specs.Refusals.Search.{Searched}
use Rattle.simulator.proofs.Crowding.{crowd_fault}
use Rattle.simulator.proofs.keeping.check_lines.Given as goal

abbrev pub invariant-loop-k : goal.invariant-loop-k
invariant-loop-k l = Searched (crowd_fault l.source.format (net_of l.source.file.now) l.state) l.source.h.count l.k × (l.k ≤ l.source.h.count) × (l.at ≡ in_file l.k)
