-- `continue_state` meets its contract: what is left to evaluate from the state so far is what there was to evaluate at first.
-- Assumes nothing.
use mathlib.Core.Path.{◌≡◌}
use Rattle.model.specs.NetlistFile.{net_of, finish_of}
use lib.ListN.{length}
use Rattle.simulator.specs.Fits.{Spares}
use Rattle.simulator.proofs.Stepping.{Underway}
use Rattle.simulator.proofs.runs.continue_state.Given as goal

abbrev pub invariant-loop-count : goal.invariant-loop-count
invariant-loop-count l =
    Underway l.source.format (net_of l.source.file.now) l.starts (finish_of l.source.file.now) l.budget l.initial.state l.state l.count × Spares l.source.format l.source.h.count l.initial.state l.state × (length l.kept ≡ length l.initial.kept)
