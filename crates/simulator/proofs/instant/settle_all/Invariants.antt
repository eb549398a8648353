-- `settle_all` meets its contract: the state so far is the pass up to cell k, the number is what it has in flight, and no line so far was crowded.
-- Assumes nothing.
use mathlib.Core.Path.{◌≡◌}
use Rattle.model.specs.NetlistFile.{in_file, net_of}
use Rattle.simulator.proofs.InFlight.{Settling}
use Rattle.simulator.proofs.instant.settle_all.Given as goal

abbrev pub invariant-loop-k : goal.invariant-loop-k
invariant-loop-k l = Settling l.source.format (net_of l.source.file.now) l.source.h.count l.initial.state l.state l.k l.number × (l.at ≡ in_file l.k)
