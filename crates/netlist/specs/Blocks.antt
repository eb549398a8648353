-- A file written into a lent list, a block's header as a struct, and a file with the first cells put in. Assumes nothing: definitions.
use Rattle.std.specs.Prelude.{◌≡◌, ℕ, ◌+◌, ◌*◌, ◌/◌, ◌%◌, ◌<◌, ◌≤◌, List, length, take, drop, Result}
use Rattle.std.proofs.lemmas.List.Edits.{sets}
use Rattle.model.specs.declared.Refusal.{Refusal}
use Rattle.model.specs.declared.Cell.{Cell}
use Rattle.model.specs.declared.Written.{Written}
use Rattle.model.specs.NetlistFile.{cell_bytes, head_bytes, running_sum, blocks, blocks_for, file_of}
use Rattle.model.specs.Calls.{Returned, short, writing}
use Rattle.netlist.specs.declared.blocks.BlockHeader.{BlockHeader}

-- the file of cells, written into a lent list: 14
abbrev pub written_file : ℕ → List Cell → ℕ → List ℕ → Returned (Result Written Refusal)
written_file w cs finish lent =
    let file = file_of w cs finish in
    writing (short (length lent) (length file)) file (length file) finish lent

abbrev pub header_bytes : BlockHeader → List ℕ
header_bytes h = head_bytes h.number h.count h.finish

-- the first j cells of block b
abbrev pub first_of : List Cell → ℕ → ℕ → List Cell
first_of net b j = take j (drop (84 * b) net)

-- a list with so many whole blocks put in, whose numbers are from first on, and j cells of the next one
abbrev pub filled_to : ℕ → List Cell → ℕ → List ℕ → ℕ → ℕ → List ℕ
filled_to first net finish was b j = sets (sets was 0 (blocks b first (length net) finish net)) (512 * b + 8) (cell_bytes (first_of net b j))

-- the running sum of block b after its first j cells
abbrev pub sum_to : ℕ → List Cell → ℕ → ℕ → ℕ → ℕ
sum_to first net finish b j = running_sum (first + b) (length net) finish (first_of net b j)

-- d is the list `was` with the first k cells of a netlist put in as its file, and sum the running sum of the block that is not yet whole
pub record Filled (first : ℕ) (net : List Cell) (finish : ℕ) (was : List ℕ) (k sum : ℕ) (d : List ℕ) : Type 0 where
  pub part : k < length net → d ≡ filled_to first net finish was (k / 84) (k % 84)
  pub added : k < length net → 0 < k % 84 → sum ≡ sum_to first net finish (k / 84) (k % 84)
  pub whole : length net ≤ k → d ≡ sets was 0 (blocks (blocks_for (length net)) first (length net) finish net)
