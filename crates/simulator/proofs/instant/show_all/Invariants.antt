-- `show_all` meets its contract: the state so far is the pass up to cell k, which begins at the cursor. Assumes nothing.
use mathlib.Core.Path.{◌≡◌}
use Rattle.model.specs.State.{value, shown}
use Rattle.model.specs.NetlistFile.{in_file, net_of}
use Rattle.simulator.proofs.Passes.{Passed}
use Rattle.simulator.proofs.instant.show_all.Given as goal

abbrev pub invariant-loop-k : goal.invariant-loop-k
invariant-loop-k l = Passed (shown l.source.format (net_of l.source.file.now) (value l.source.format (net_of l.source.file.now) l.starts)) l.source.h.count l.initial.state l.state l.k × (l.at ≡ in_file l.k)
