-- `renumber` meets its contract. The invariant: moving the rest comes out as at the start. Assumes nothing.
use Rattle.std.proofs.Common.{◌≡◌, length}
use Rattle.model.specs.CellSlices.{behind, moved_from}
use Rattle.exports.proofs.renumber.Given as goal

abbrev pub invariant-loop-c : goal.invariant-loop-c
invariant-loop-c l = behind l.k l.initial.cells ≡ moved_from l.k (length l.cells) l.cells l.c-index
