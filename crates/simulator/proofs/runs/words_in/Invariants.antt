-- `words_in` meets its contract: j words are in place, and those of the memories from cell k on, which begins at the cursor, are to come. Assumes nothing.
use mathlib.Core.Path.{◌≡◌}
use Prim.Native.Nat.{◌≤◌}
use Rattle.model.specs.NetlistFile.{in_file, cells_of}
use Rattle.simulator.proofs.Memories.{Collects}
use Rattle.simulator.proofs.runs.words_in.Given as goal

abbrev pub invariant-loop-k : goal.invariant-loop-k
invariant-loop-k l = (l.k ≤ l.source.h.count) × Collects l.source.format (cells_of l.source.file.now) l.state l.words l.j l.k × (l.at ≡ in_file l.k)
