-- Netlists that a caller holds as cells, and not as bytes: renumbering, the check, and the calls that write and read them.
-- "First cells as six bytes each; then a thin lent-slice-of-cell-structs form for renumbering and the cell check."
-- Assumes nothing: definitions.
use Rattle.std.specs.Prelude.{Bool, ◌&&◌, List, [], ◌∷◌, ◌++◌, map, ℕ, ◌+◌, ◌*◌, ◌-◌, ◌%◌, leb, length, take, drop, Result, Ok, Err}
use Rattle.std.proofs.lemmas.List.Edits.{sets}
use Rattle.model.specs.declared.Refusal.{Refusal}
use Rattle.model.specs.declared.Cell.{Cell}
use Rattle.model.specs.declared.Written.{Written}
use Rattle.model.specs.Word.{pick}
use Rattle.model.specs.Refusals.{refuse_if, first, Checked, Done}
use Rattle.model.specs.Circuit.{cell, cell_row, names}
use Rattle.model.specs.NetlistFile.{cell_bytes, cells_at, in_list, file_of, file_check, cells_of, count_of, finish_of, net_check, count_wrong, pulse_wrong, blocks_for, cell_limit}
use Rattle.model.specs.Calls.{Returned, short, writing}

-- Renumbering --------------------------------------------------------------------------------------------------------------------------

-- the number of a cell that stands k places later; a number has two bytes
abbrev pub renumbered : ℕ → ℕ → ℕ
renumbered k j = (j + k) % 65536

-- a cell whose inputs, where they name a cell, have new numbers
unfoldable pub rewired : (ℕ → ℕ) → Cell → Cell
rewired f c =
    let row = cell_row c.kind in
    cell c.kind c.delay (pick (names row.a) (f c.a) c.a) (pick (names row.b) (f c.b) c.b)

-- a cell whose inputs stand k places later
abbrev pub moved : ℕ → Cell → Cell
moved k = rewired (renumbered k)

-- the cells of a netlist as they stand behind k others
abbrev pub behind : ℕ → List Cell → List Cell
behind k cs = map (moved k) cs

-- those from number i up to end moved k places on, in a list of cells, and in one of six bytes each
abbrev pub moved_from : ℕ → ℕ → List Cell → ℕ → List Cell
moved_from k end cs i = sets cs i (behind k (take (end - i) (drop i cs)))

abbrev pub moved_bytes : ℕ → ℕ → List ℕ → ℕ → List ℕ
moved_bytes k end s i = sets s (6 * i) (cell_bytes (behind k (cells_at in_list s i (end - i))))

-- renumbering such a list, where it has that many cells; else it stays
abbrev pub has_cells : ℕ → List ℕ → Bool
has_cells n s = leb n cell_limit && leb (6 * n) (length s)

abbrev pub renumber_call : ℕ → ℕ → ℕ → List ℕ → List ℕ
renumber_call k i end s = pick (has_cells end s) (moved_bytes k end s i) s

-- Calls --------------------------------------------------------------------------------------------------------------------------------

-- a number of cells or a finish that no header could tell rightly is 11
abbrev pub miscounted : List Cell → ℕ → Checked
miscounted cs f = refuse_if (count_wrong (blocks_for (length cs)) (length cs) f) 11 0

-- checking a netlist: 11, 12
abbrev pub check_cells_checks : List Cell → ℕ → List Checked
check_cells_checks cs f = miscounted cs f ∷ net_check cs f ∷ []

unfoldable pub check_cells_call : List Cell → ℕ → Checked
check_cells_call cs f = first (check_cells_checks cs f)

-- writing a netlist from its cells: 27, 11, 12, 14
abbrev pub write_cells_checks : ℕ → List Cell → ℕ → List ℕ → List Checked
write_cells_checks w cs f lent =
    refuse_if (pulse_wrong w) 27 0 ∷ miscounted cs f ∷ net_check cs f ∷ short (length lent) (length (file_of w cs f)) ∷ []

unfoldable pub write_cells_call : ℕ → List Cell → ℕ → List ℕ → Returned (Result Written Refusal)
write_cells_call w cs f lent = writing (first (write_cells_checks w cs f lent)) (file_of w cs f) (length (file_of w cs f)) f lent

-- an answer, and a lent list of cells at exit
pub record ReturnedCells : Type 0 where
  pub answer : Result Written Refusal
  pub lent : List Cell

-- cells that are put into a lent list from place k on, unless a check refuses it
unfoldable pub placing : Checked → ℕ → List Cell → ℕ → ℕ → List Cell → ReturnedCells
placing (Ok _) k cs n f lent = record { answer = Done n f; lent = take k lent ++ (cs ++ drop (k + length cs) lent) }
placing (Err r) k cs n f lent = record { answer = Err r; lent = lent }

-- reading a netlist behind k cells that stand already: 9 to 12, 14. The finish is the file's own.
abbrev pub read_cells_checks : List ℕ → ℕ → List Cell → List Checked
read_cells_checks file k lent = file_check file ∷ short (length lent) (k + count_of file) ∷ []

unfoldable pub read_cells_call : List ℕ → ℕ → List Cell → ReturnedCells
read_cells_call file k lent = placing (first (read_cells_checks file k lent)) k (behind k (cells_of file)) (count_of file) (finish_of file) lent
