-- `owning::past_walk` meets its contract. The invariant: without the last cells, of kind 7, there is the same left. Assumes nothing.
use mathlib.Core.Path.{◌≡◌}
use Rattle.model.specs.NetlistFile.{cells_at, in_file}
use Rattle.joiner.specs.Kinds.{trimmed}
use Rattle.joiner.proofs.owning.past_walk.Given as goal

abbrev pub invariant-loop-i : goal.invariant-loop-i
invariant-loop-i l = trimmed (cells_at in_file l.file 0 l.count) ≡ trimmed (cells_at in_file l.file 0 l.i)
