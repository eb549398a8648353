-- What is promised of a netlist file's blocks and of a block's running sum, as types: a clause for each part of the papers' sentences.
-- "Keep each block's sum running as cells are put in, however it is done now".
-- Assumes nothing: definitions.
use Rattle.std.specs.Prelude.{◌≡◌, List, [], ◌∷◌, ◌++◌, ℕ, ◌-◌, ◌*◌, ◌%◌, ◌≤◌, ◌<◌}
use Rattle.model.specs.declared.Cell.{Cell}
use Rattle.model.specs.Word.{get16}
use Rattle.model.specs.NetlistFile.{cell_bytes, word_sum, head_bytes, rest_bytes, sum_with, running_sum, check_for, block_with, block, blocks_for}

-- "then 84 cells. No block is more than needed": n cells have room in so many blocks, and had none in one less
pub record FewestBlocks (n : ℕ) : Type 0 where
  pub room : n ≤ 84 * blocks_for n
  pub needed : 1 ≤ n → 84 * (blocks_for n - 1) < n

pub record RunningSum (number count finish : ℕ) : Type 0 where
  -- "after each cell": from the sum before it
  pub after : (cs : List Cell) (c : Cell) → running_sum number count finish (cs ++ (c ∷ [])) ≡ sum_with (running_sum number count finish cs) c
  -- "the sum, modulo 65,536, of the header's first three words and the cells put in so far"
  pub sum : (cs : List Cell) → running_sum number count finish cs ≡ word_sum (head_bytes number count finish ++ cell_bytes cs) % 65536
  -- "and the check comes from it alone"
  pub check : (cs : List Cell) → get16 (block number count finish cs) 6 ≡ check_for (running_sum number count finish cs)
  -- "the bytes written are the same": as with a check that is made at the end, from all the block's other words
  pub same : (cs : List Cell) → block number count finish cs ≡ block_with number count finish (rest_bytes cs)
