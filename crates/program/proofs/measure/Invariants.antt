-- The arrays are right from node i on.
use Rattle.std.proofs.Common.{◌≡◌, ℕ, ◌≤◌, ◌<◌, length}
use Rattle.model.specs.Program.{node_count, time_in}
use Rattle.program.specs.Shape.{Shaped}
use Rattle.program.proofs.measure.Given as goal

abbrev pub invariant-loop-i : goal.invariant-loop-i
invariant-loop-i l =
    (length l.told.times ≡ 200) × (length l.told.ends ≡ 200) × ((j : ℕ) → l.i ≤ j → j < node_count l.program → Shaped (time_in l.options.times) l.program l.told.times l.told.ends j)
