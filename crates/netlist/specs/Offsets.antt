-- Where cells begin, in a list and in a file, and the room that they take. Assumes nothing: definitions.
use Rattle.std.specs.Prelude.{ℕ, ◌+◌, ◌*◌, ◌%◌, ◌≤◌, List, length, ◌==◌}
use Rattle.model.specs.Word.{pick}
use Rattle.model.specs.NetlistFile.{cell_limit, in_list, in_file, blocks_for}
use Rattle.netlist.specs.declared.cells.Layout.{Layout}
use Rattle.netlist.specs.declared.cells.Layout.TheVariants.{InList, InFile}

-- the byte at which cell k begins
abbrev pub offset : Layout → ℕ → ℕ
offset InList k = in_list k
offset InFile k = in_file k

-- the byte of a file at which the cell behind the one at i begins: six bytes on, and past a header where a block ends
unfoldable pub after : ℕ → ℕ
after i = pick ((i + 6) % 512 == 0) (i + 14) (i + 6)

-- how many bytes n cells take
abbrev pub size : Layout → ℕ → ℕ
size InList n = 6 * n
size InFile n = 512 * blocks_for n

-- a list that has room for n cells, and n is a number of cells that a netlist may have
pub record Room (layout : Layout) (s : List ℕ) (n : ℕ) : Type 0 where
  pub few : n ≤ cell_limit
  pub fits : size layout n ≤ length s
