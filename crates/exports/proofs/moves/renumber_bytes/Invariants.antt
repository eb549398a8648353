-- `moves::renumber_bytes` meets its contract. The invariant: moving the rest comes out as at the start. Assumes nothing.
use Rattle.std.proofs.Common.{◌≡◌}
use Rattle.model.specs.CellSlices.{moved_bytes}
use Rattle.exports.proofs.moves.renumber_bytes.Given as goal

abbrev pub invariant-loop-i : goal.invariant-loop-i
invariant-loop-i l = moved_bytes l.k l.end l.initial.cells l.from ≡ moved_bytes l.k l.end l.cells l.i
