-- `show_first` meets its contract: the state so far is the pass up to cell k, which begins at the cursor, and j memories stand below it. Assumes nothing.
use mathlib.Core.Path.{◌≡◌}
use lib.ListN.{take}
use Rattle.model.specs.Calls.{word_at}
use Rattle.model.specs.Circuit.{memories}
use Rattle.model.specs.State.{first_value, shown}
use Rattle.model.specs.NetlistFile.{in_file, cells_of, net_of}
use Rattle.simulator.proofs.Passes.{Passed}
use Rattle.simulator.proofs.beginning.show_first.Given as goal

abbrev pub invariant-loop-k : goal.invariant-loop-k
invariant-loop-k l =
    Passed (shown l.source.format (net_of l.source.file.now) (first_value l.source.format (net_of l.source.file.now) (word_at l.words))) l.source.h.count l.initial.state l.state l.k × (l.j ≡ memories (take l.k (cells_of l.source.file.now))) × (l.at ≡ in_file l.k)
