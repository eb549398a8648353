-- What is promised of netlists that are held as cells, as a type: checking, writing, renumbering and reading them is what it is on their six bytes each.
-- "First cells as six bytes each; then a thin lent-slice-of-cell-structs form for renumbering and the cell check."
-- Assumes nothing: definitions.
use Rattle.std.specs.Prelude.{◌≡◌, List, ℕ, ◌≤◌, length}
use Rattle.model.specs.declared.Cell.{Cell}
use Rattle.model.specs.NetlistFile.{cell_bytes, net_check}
use Rattle.model.specs.Calls.{cells_in, write_call, read_call}
use Rattle.model.specs.CellSlices.{moved_from, moved_bytes, write_cells_call, read_cells_call}
use Rattle.model.specs.Word.{Bytes}

pub record SameCells : Type 0 where
  pub checked : (cs : List Cell) (f : ℕ) → net_check (cells_in (cell_bytes cs)) f ≡ net_check cs f
  pub written : (w : ℕ) (cs : List Cell) (f : ℕ) (lent : List ℕ) → write_cells_call w cs f lent ≡ write_call w (cell_bytes cs) f lent
  pub renumbered : (k end : ℕ) (cs : List Cell) (i : ℕ) → i ≤ end → end ≤ length cs
      → moved_bytes k end (cell_bytes cs) i ≡ cell_bytes (moved_from k end cs i)
  -- read in front of a list, where the cells keep their numbers
  pub read : (file : List ℕ) (lent : List Cell) → Bytes file
      → ((read_call file (cell_bytes lent)).answer ≡ (read_cells_call file 0 lent).answer)
      × ((read_call file (cell_bytes lent)).lent ≡ cell_bytes (read_cells_call file 0 lent).lent)
