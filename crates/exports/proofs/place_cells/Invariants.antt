-- `place_cells` meets its contract. The invariant: placing the rest comes out as all of the cells. Assumes nothing.
use Rattle.std.proofs.Common.{◌≡◌}
use Rattle.model.specs.NetlistFile.{cells_at, in_file}
use Rattle.exports.proofs.Moving.{placed_from}
use Rattle.exports.proofs.place_cells.Given as goal

abbrev pub invariant-loop-j : goal.invariant-loop-j
invariant-loop-j l = cells_at in_file l.file 0 l.n ≡ placed_from l.file l.n l.places l.j
