-- Cells put into a list of cells, six bytes each. Assumes nothing: definitions.
use Rattle.std.specs.Prelude.{List, ℕ, ◌*◌}
use Rattle.std.proofs.lemmas.List.Edits.{sets}
use Rattle.model.specs.declared.Cell.{Cell}
use Rattle.model.specs.NetlistFile.{cell_bytes}

-- the list s with the cells cs in it, from cell k on
unfoldable pub write : ℕ → List Cell → List ℕ → List ℕ
write k cs s = sets s (6 * k) (cell_bytes cs)

-- a run of delay cells from cell d on, and a run of walk cells from cell c on
unfoldable pub both : ℕ → List Cell → ℕ → List Cell → List ℕ → List ℕ
both d ds c ws s = write c ws (write d ds s)
