-- Cells, netlists and netlist files with what their check says, worked out by hand from the paper: refusals 9 to 12 with their places, what is
-- just allowed, one file byte for byte, and renumbering. Theorems cite the same conditions and layout, and so leave them free.
-- Assumes nothing.
use Rattle.std.specs.Prelude.{◌≡◌, refl, true, false, List, [], ◌∷◌, ◌++◌, map, ℕ, take, drop, set, replicate, Result, Err}
use Rattle.model.specs.declared.Refusal.{Refusal}
use Rattle.model.specs.declared.Cell.{Cell}
use Rattle.model.specs.declared.Written.{Written}
use Rattle.model.specs.Word.{bit, get16, bytes16}
use Rattle.model.specs.Refusals.{refuse, first_fault, Checked, Accepted, Done}
use Rattle.model.specs.Circuit.{cell, shape, control, names, memories, past_memories}
use Rattle.model.specs.NetlistFile.{running_sum, sum_after, sum_with, cell_bytes, cell_from, cells_at, word_sum, rest_bytes, block_with, block, blocks, file_of, cells_of, file_length_wrong, sum_fault, count_wrong, pulse_wrong, all_zero, header_right, header_fault, control_in, word_in, of_array, array_in, kept, keeps, stands, placed, array_placed, cell_fault, net_check, file_check}
use Rattle.model.specs.TimeTables.{defaults}
use Rattle.model.specs.Calls.{Returned, writing, compile_call, read_call, write_call}
use Rattle.model.specs.CellSlices.{rewired, behind, renumber_call, check_cells_call, placing, read_cells_call}
use Rattle.model.specs.Netlists.{numbering, front, idle, array, idle_arrays, arrays}
use Rattle.model.specs.Cases.{raw, repeated, check_of_program}

-- whoever unfolds this unfolds all that a netlist file is written and checked by
unfoldable pub check_of_file : List ℕ → Checked
unfolding bit get16 bytes16 first_fault shape control memories past_memories cell_bytes cell_from cells_at word_sum block running_sum sum_after sum_with blocks file_of cells_of file_length_wrong sum_fault count_wrong pulse_wrong all_zero header_right header_fault control_in word_in of_array array_in kept keeps stands placed array_placed cell_fault net_check file_check
check_of_file s = file_check s

-- Cells --------------------------------------------------------------------------------------------------------------------------------

-- the 27 cells that every netlist has, and others from number 27 on. Of the 27, cells 0 and 1 are controls, 2 and the memories 3 to 18 words, and
-- the arrays are 19 and 20, 21 and 22, 23 and 24, 25 and 26.
abbrev plus : List Cell → List Cell
plus cs = front (idle 16 (arrays cs))

-- cells that may stand as number 27, alone behind the 27
good : List Cell
good =
    cell 1 0 65535 0
    ∷ cell 3 0 18 0
    ∷ cell 4 0 2 18 ∷ cell 5 0 2 18 ∷ cell 6 0 2 18 ∷ cell 7 0 2 18 ∷ cell 8 0 2 18 ∷ cell 9 0 2 18
    -- a delay may name itself
    ∷ cell 34 1 0 0 ∷ cell 34 255 27 0
    ∷ cell 35 0 0 1
    ∷ cell 36 0 0 18 ∷ cell 37 0 1 2
    ∷ cell 38 0 1 0
    ∷ cell 41 0 0 3
    -- a read of an array, whatever the index
    ∷ cell 44 0 19 18 ∷ cell 44 0 25 2
    -- a latch may take its own word
    ∷ cell 45 0 0 18 ∷ cell 45 0 1 27
    ∷ []

good_right : map (λ c. net_check (plus (c ∷ [])) 0) good ≡ map (λ c. Accepted) good
unfolding good check_of_file
good_right = refl

-- cells that may not: 12, place 27
wrong : List Cell
wrong =
    -- unknown kinds, those of a program's variables and statements among them
    cell 0 0 0 0 ∷ cell 2 0 0 0 ∷ cell 10 0 0 0 ∷ cell 16 0 0 0 ∷ cell 31 0 0 0 ∷ cell 46 0 0 0
    -- start and ground stand nowhere but at 0 and 1, an array's cells nowhere but behind the memories
    ∷ cell 32 0 0 0 ∷ cell 33 0 0 0 ∷ cell 42 0 1 2 ∷ cell 42 4 1 2 ∷ cell 43 0 2 0
    -- a delay where there is none
    ∷ cell 1 1 5 0 ∷ cell 3 1 2 0 ∷ cell 4 1 2 2 ∷ cell 9 1 2 2 ∷ cell 35 1 0 0 ∷ cell 36 1 0 2 ∷ cell 37 1 0 2 ∷ cell 38 1 0 0 ∷ cell 39 1 0 0 ∷ cell 41 1 0 2 ∷ cell 44 1 19 2
    ∷ cell 45 1 0 2
    -- a delay cell's delay is 1 to 255
    ∷ cell 34 0 0 0 ∷ cell 34 256 0 0
    -- a second input where there is none
    ∷ cell 1 0 5 1 ∷ cell 3 0 2 1 ∷ cell 34 1 0 1
    -- an input that isn't lower, though of the right sort
    ∷ cell 3 0 27 0 ∷ cell 4 0 27 2 ∷ cell 4 0 2 27 ∷ cell 9 0 27 2 ∷ cell 9 0 2 27
    ∷ cell 35 0 27 0 ∷ cell 35 0 0 27 ∷ cell 36 0 27 2 ∷ cell 37 0 27 2 ∷ cell 38 0 27 0 ∷ cell 38 0 0 27 ∷ cell 39 0 27 0
    ∷ cell 39 0 0 27 ∷ cell 41 0 0 27
    ∷ cell 44 0 27 2 ∷ cell 44 0 19 27
    -- no cell 28 for a delay or a latch to name
    ∷ cell 34 1 28 0 ∷ cell 45 0 28 2 ∷ cell 45 0 0 28
    -- a control where a word belongs
    ∷ cell 3 0 1 0 ∷ cell 4 0 1 2 ∷ cell 4 0 2 1 ∷ cell 9 0 1 2 ∷ cell 9 0 2 1 ∷ cell 36 0 0 1 ∷ cell 37 0 0 1 ∷ cell 41 0 0 1 ∷ cell 44 0 19 1 ∷ cell 45 0 0 1
    -- an array's cell where a word belongs
    ∷ cell 3 0 19 0 ∷ cell 4 0 20 2 ∷ cell 4 0 2 19 ∷ cell 36 0 0 25 ∷ cell 37 0 0 26 ∷ cell 41 0 0 19 ∷ cell 44 0 19 19 ∷ cell 44 0 19 20
    ∷ cell 45 0 0 19
    -- a read of something else than a 42
    ∷ cell 44 0 20 2 ∷ cell 44 0 2 2 ∷ cell 44 0 0 2
    -- a word where a control belongs
    ∷ cell 34 1 2 0 ∷ cell 35 0 2 0 ∷ cell 35 0 0 2 ∷ cell 36 0 2 2 ∷ cell 37 0 2 2 ∷ cell 38 0 2 0 ∷ cell 38 0 0 2
    ∷ cell 39 0 2 0 ∷ cell 39 0 0 2 ∷ cell 41 0 2 2 ∷ cell 45 0 2 2 ∷ cell 45 0 27 2
    ∷ []

wrong-right : map (λ c. net_check (plus (c ∷ [])) 0) wrong ≡ map (λ c. refuse 12 27) wrong
unfolding wrong check_of_file
wrong-right = refl

-- Netlists -----------------------------------------------------------------------------------------------------------------------------

-- cells, the finish, and what is said of them
netlists : List (List Cell × ℕ × Checked)
netlists =
    -- a finish is a control wire; else 12 at that cell
    (plus [], 0, Accepted)
    ∷ (plus [], 1, Accepted)
    ∷ (plus [], 2, refuse 12 2)
    ∷ (plus [], 18, refuse 12 18)
    ∷ (plus [], 19, refuse 12 19)
    ∷ (plus (cell 38 0 0 1 ∷ []), 27, Accepted)
    ∷ (plus (cell 41 0 0 2 ∷ []), 27, refuse 12 27)
    -- cell 0 is kind 32, cell 1 kind 33, cell 2 constant 0, and the fields that they don't use are zero
    ∷ (cell 33 0 0 0 ∷ cell 33 0 0 0 ∷ cell 1 0 0 0 ∷ idle 16 (arrays []), 0, refuse 12 0)
    ∷ (cell 32 0 0 0 ∷ cell 35 0 0 0 ∷ cell 1 0 0 0 ∷ idle 16 (arrays []), 0, refuse 12 1)
    ∷ (cell 32 0 0 0 ∷ cell 33 0 0 0 ∷ idle 16 (arrays (cell 1 0 0 0 ∷ [])), 0, refuse 12 2)
    ∷ (cell 32 0 0 0 ∷ cell 33 0 0 0 ∷ cell 1 0 7 0 ∷ idle 16 (arrays []), 0, refuse 12 2)
    ∷ (cell 32 1 0 0 ∷ cell 33 0 0 0 ∷ cell 1 0 0 0 ∷ idle 16 (arrays []), 0, refuse 12 0)
    ∷ (cell 32 0 1 0 ∷ cell 33 0 0 0 ∷ cell 1 0 0 0 ∷ idle 16 (arrays []), 0, refuse 12 0)
    ∷ (cell 32 0 0 1 ∷ cell 33 0 0 0 ∷ cell 1 0 0 0 ∷ idle 16 (arrays []), 0, refuse 12 0)
    ∷ (cell 32 0 0 0 ∷ cell 33 1 0 0 ∷ cell 1 0 0 0 ∷ idle 16 (arrays []), 0, refuse 12 1)
    ∷ (cell 32 0 0 0 ∷ cell 33 0 1 0 ∷ cell 1 0 0 0 ∷ idle 16 (arrays []), 0, refuse 12 1)
    ∷ (cell 32 0 0 0 ∷ cell 33 0 0 1 ∷ cell 1 0 0 0 ∷ idle 16 (arrays []), 0, refuse 12 1)
    -- a delay and a memory's b may name a later cell, a memory's clock may not; their sorts count
    ∷ (plus (cell 34 1 28 0 ∷ cell 35 0 0 27 ∷ []), 28, Accepted)
    ∷ (plus (cell 34 1 28 0 ∷ cell 1 0 5 0 ∷ []), 0, refuse 12 27)
    ∷ (front (cell 40 0 1 27 ∷ idle 15 (arrays (cell 1 0 5 0 ∷ []))), 0, Accepted)
    ∷ (front (cell 40 0 1 3 ∷ idle 15 (arrays [])), 0, Accepted)
    ∷ (front (cell 40 0 1 27 ∷ idle 15 (arrays [])), 0, refuse 12 3)
    ∷ (front (cell 40 0 1 0 ∷ idle 15 (arrays [])), 0, refuse 12 3)
    ∷ (front (cell 40 0 1 19 ∷ idle 15 (arrays [])), 0, refuse 12 3)
    ∷ (front (cell 40 0 1 20 ∷ idle 15 (arrays [])), 0, refuse 12 3)
    ∷ (front (cell 40 0 27 2 ∷ idle 15 (arrays (cell 35 0 0 1 ∷ []))), 0, refuse 12 3)
    ∷ (front (cell 40 0 2 2 ∷ idle 15 (arrays [])), 0, refuse 12 3)
    ∷ (front (cell 40 1 1 2 ∷ idle 15 (arrays [])), 0, refuse 12 3)
    -- a switch's word and a gate's control are lower too
    ∷ (plus (cell 36 0 0 28 ∷ cell 1 0 5 0 ∷ []), 0, refuse 12 27)
    ∷ (plus (cell 37 0 0 28 ∷ cell 1 0 5 0 ∷ []), 0, refuse 12 27)
    ∷ (plus (cell 41 0 28 2 ∷ cell 35 0 0 1 ∷ []), 0, refuse 12 27)
    -- an unknown kind is a word wire, so the memory that names one is good, and the place is the later cell
    ∷ (front (cell 40 0 1 27 ∷ idle 15 (arrays (cell 10 0 0 0 ∷ []))), 0, refuse 12 27)
    -- exactly sixteen memories, wherever they stand; else 12 at the cell count
    ∷ (front (cell 1 0 5 0 ∷ idle 16 (arrays [])), 0, Accepted)
    ∷ (front (idle 15 []), 0, refuse 12 18)
    ∷ (front (idle 15 (cell 1 0 5 0 ∷ [])), 0, refuse 12 19)
    ∷ (plus (cell 40 0 1 2 ∷ []), 0, refuse 12 28)
    -- an array's data and address may name a later cell, its clock may not; their sorts count
    ∷ (front (idle 16 (array 0 1 27 28 (idle_arrays 1 3 (cell 1 0 5 0 ∷ cell 1 0 6 0 ∷ [])))), 0, Accepted)
    ∷ (front (idle 16 (array 0 27 2 2 (idle_arrays 1 3 (cell 35 0 0 1 ∷ [])))), 0, refuse 12 19)
    ∷ (front (idle 16 (array 0 2 2 2 (idle_arrays 1 3 []))), 0, refuse 12 19)
    ∷ (front (idle 16 (array 0 1 0 2 (idle_arrays 1 3 []))), 0, refuse 12 19)
    ∷ (front (idle 16 (array 0 1 19 2 (idle_arrays 1 3 []))), 0, refuse 12 19)
    ∷ (front (idle 16 (array 0 1 27 2 (idle_arrays 1 3 []))), 0, refuse 12 19)
    ∷ (front (idle 16 (array 0 1 2 0 (idle_arrays 1 3 []))), 0, refuse 12 20)
    ∷ (front (idle 16 (array 0 1 2 20 (idle_arrays 1 3 []))), 0, refuse 12 20)
    ∷ (front (idle 16 (array 0 1 2 27 (idle_arrays 1 3 []))), 0, refuse 12 20)
    ∷ (front (idle 16 (cell 42 0 1 2 ∷ cell 43 1 2 0 ∷ idle_arrays 1 3 [])), 0, refuse 12 20)
    ∷ (front (idle 16 (cell 42 0 1 2 ∷ cell 43 0 2 1 ∷ idle_arrays 1 3 [])), 0, refuse 12 20)
    -- the four arrays in order, right after the sixteenth memory: the first cell that parts from this, or the cell count
    ∷ (front (idle 16 []), 0, refuse 12 19)
    ∷ (front (idle 16 (cell 42 0 1 2 ∷ [])), 0, refuse 12 20)
    ∷ (front (idle 16 (idle_arrays 0 3 [])), 0, refuse 12 25)
    ∷ (front (idle 16 (cell 43 0 2 0 ∷ cell 42 0 1 2 ∷ idle_arrays 1 3 [])), 0, refuse 12 19)
    ∷ (front (idle 16 (idle_arrays 1 3 (array 0 1 2 2 []))), 0, refuse 12 19)
    ∷ (front (idle 16 (idle_arrays 0 1 (idle_arrays 0 3 []))), 0, refuse 12 21)
    ∷ (front (idle 16 (cell 1 0 5 0 ∷ arrays [])), 0, refuse 12 19)
    ∷ (front (idle 17 (arrays [])), 0, refuse 12 19)
    ∷ (front (idle 15 (arrays (idle 1 []))), 0, refuse 12 18)
    ∷ (plus (arrays []), 0, refuse 12 27)
    -- the first cell wins, then the number of memories, then the arrays' end, then the finish
    ∷ (plus (cell 1 0 5 0 ∷ cell 32 0 0 0 ∷ cell 0 0 0 0 ∷ []), 2, refuse 12 28)
    ∷ (front (idle 15 (cell 32 0 0 0 ∷ [])), 2, refuse 12 18)
    ∷ (plus (cell 40 0 1 2 ∷ []), 2, refuse 12 28)
    ∷ (front (idle 16 []), 2, refuse 12 19)
    ∷ []

netlists-right : map (λ r. net_check r.0 r.1) netlists ≡ map (λ r. r.2) netlists
unfolding netlists check_of_file
netlists-right = refl

-- Files --------------------------------------------------------------------------------------------------------------------------------

-- The file of case 2, x0 := 5. Its words, but for the check, sum to 31 + 4 + 32 + 33 + 1 + 290 + 293 + 73 + 15 * 43, with the arrays'
-- 4 * 45 + 256 * (1 + 2 + 3) and 4 * 45, and 6 + 73, which is 3377; and 65536 − 3377 = 62159 = 207 + 256 * 242.
small : List ℕ
small =
    0 ∷ 0 ∷ 31 ∷ 0 ∷ 4 ∷ 0 ∷ 207 ∷ 242  -- block 0, 31 cells, finish 4, the check
    ∷ 32 ∷ 0 ∷ 0 ∷ 0 ∷ 0 ∷ 0  -- 0 start
    ∷ 33 ∷ 0 ∷ 0 ∷ 0 ∷ 0 ∷ 0  -- 1 ground
    ∷ 1 ∷ 0 ∷ 0 ∷ 0 ∷ 0 ∷ 0  -- 2 constant 0
    ∷ 34 ∷ 1 ∷ 0 ∷ 0 ∷ 0 ∷ 0  -- 3 delay 1 of 0
    ∷ 34 ∷ 1 ∷ 3 ∷ 0 ∷ 0 ∷ 0  -- 4 delay 1 of 3
    ∷ 40 ∷ 0 ∷ 3 ∷ 0 ∷ 30 ∷ 0  -- 5 memory of clock 3 and data 30
    ∷ repeated 15 (40 ∷ 0 ∷ 1 ∷ 0 ∷ 2 ∷ 0 ∷ [])  -- 6 to 20, clock 1 and data 2
    ++ (42 ∷ 0 ∷ 1 ∷ 0 ∷ 2 ∷ 0 ∷ 43 ∷ 0 ∷ 2 ∷ 0 ∷ 0 ∷ 0  -- 21 array 0 of clock 1 and data 2, 22 its address 2
    ∷ 42 ∷ 1 ∷ 1 ∷ 0 ∷ 2 ∷ 0 ∷ 43 ∷ 0 ∷ 2 ∷ 0 ∷ 0 ∷ 0  -- 23 and 24
    ∷ 42 ∷ 2 ∷ 1 ∷ 0 ∷ 2 ∷ 0 ∷ 43 ∷ 0 ∷ 2 ∷ 0 ∷ 0 ∷ 0  -- 25 and 26
    ∷ 42 ∷ 3 ∷ 1 ∷ 0 ∷ 2 ∷ 0 ∷ 43 ∷ 0 ∷ 2 ∷ 0 ∷ 0 ∷ 0  -- 27 and 28
    ∷ 1 ∷ 0 ∷ 5 ∷ 0 ∷ 0 ∷ 0  -- 29 constant 5
    ∷ 41 ∷ 0 ∷ 3 ∷ 0 ∷ 29 ∷ 0  -- 30 the 41 of 3 and 29
    ∷ replicate 318 0)

-- what stands behind its header: cell k begins at 6 k
abbrev rest : List ℕ
rest = drop 8 small

-- compiling, reading and writing, and what they leave of a longer list
file_calls : List (Returned (Result Written Refusal) × Returned (Result Written Refusal))
file_calls =
    (compile_call defaults (raw 18 1 0 ++ raw 1 0 5) (replicate 514 7), record { answer = Done 512 4; lent = small ++ (7 ∷ 7 ∷ []) })
    ∷ (read_call small (replicate 188 7), record { answer = Done 31 4; lent = take 186 rest ++ (7 ∷ 7 ∷ []) })
    ∷ (write_call 1 (take 186 rest) 4 (replicate 513 7), record { answer = Done 512 4; lent = small ++ (7 ∷ []) })
    ∷ []

file-calls-right : map (λ r. r.0) file_calls ≡ map (λ r. r.1) file_calls
unfolding file_calls small check_of_file check_of_program numbering writing compile_call read_call write_call
file-calls-right = refl

-- 85 cells in two blocks: 84, and one more
abbrev five : Cell
five = cell 1 0 5 0

abbrev full : List Cell
full = plus (replicate 57 five)

abbrev large : List ℕ
large = block 0 85 0 full ++ block 1 85 0 (five ∷ [])

-- "The cell limit becomes 16,384 and the file's 196 blocks (100,352 bytes)"
limits-right : (file_length_wrong (replicate 100352 0) ≡ false) × (file_length_wrong (replicate 100864 0) ≡ true)
    × (count_wrong 196 16384 0 ≡ false) × (count_wrong 196 16385 0 ≡ true) × (count_wrong 195 16380 0 ≡ false)
unfolding file_length_wrong count_wrong
limits-right = (refl, refl, refl, refl, refl)

-- 84 cells make one block, 85 make two
blocks-right : (file_of 1 full 0 ≡ block 0 84 0 full) × (file_of 1 (plus (replicate 58 five)) 0 ≡ large)
unfolding check_of_file repeated
blocks-right = (refl, refl)

-- a file, and what is said of it
files : List (List ℕ × Checked)
files =
    (small, Accepted)
    ∷ (large, Accepted)
    -- 9: the length
    ∷ ([], refuse 9 0)
    ∷ (replicate 511 0, refuse 9 0)
    ∷ (replicate 513 0, refuse 9 0)
    -- 10: the first block whose words don't sum to 0, its check among them
    ∷ (set small 511 1, refuse 10 0)
    ∷ (set small 6 80, refuse 10 0)
    ∷ (set large 1023 1, refuse 10 1)
    ∷ (set (set large 1023 1) 511 1, refuse 10 0)
    -- 11: block 0 gives a number of cells from 27 on
    ∷ (replicate 512 0, refuse 11 0)
    ∷ (block 0 26 0 (take 26 (plus [])), refuse 11 0)
    -- so many blocks as it needs, and a finish below it
    ∷ (block_with 0 85 4 rest, refuse 11 0)
    ∷ (small ++ small, refuse 11 0)
    -- 84 cells need one, and no block is more than needed
    ∷ (block 0 84 0 full, Accepted)
    ∷ (block 0 84 0 full ++ block 1 84 0 [], refuse 11 0)
    ∷ (block_with 0 31 31 rest, refuse 11 0)
    -- the block's number is its own, cells and finish are those of block 0
    ∷ (block_with 1 31 4 rest, refuse 11 0)
    ∷ (block 0 85 0 full ++ block 0 85 0 (five ∷ []), refuse 11 1)
    ∷ (block 0 85 0 full ++ block 1 86 0 (five ∷ []), refuse 11 1)
    ∷ (block 0 86 0 full ++ block 1 85 0 (five ∷ []), refuse 11 1)
    ∷ (block 0 85 0 full ++ block 1 85 1 (five ∷ []), refuse 11 1)
    -- a byte behind the last cell: 31 cells end at 186 behind the header, one cell at 6
    ∷ (block_with 0 31 4 (set rest 186 1), refuse 11 0)
    ∷ (block_with 0 31 4 (set rest 503 1), refuse 11 0)
    ∷ (block 0 85 0 full ++ block_with 1 85 0 (set (rest_bytes (five ∷ [])) 6 1), refuse 11 1)
    -- 12: at its cell
    ∷ (block_with 0 31 4 (set rest 185 1), refuse 12 30)
    ∷ (block_with 0 31 4 (set rest 114 10), refuse 12 19)
    ∷ (block 0 85 0 full ++ block 1 85 0 (cell 10 0 0 0 ∷ []), refuse 12 84)
    ∷ (block_with 0 31 30 rest, refuse 12 30)
    -- 10 of every block before 11 before 12
    ∷ (block 1 85 0 full ++ set (block 1 85 0 (five ∷ [])) 511 1, refuse 10 1)
    ∷ (block_with 0 31 4 (set (set rest 0 33) 186 1), refuse 11 0)
    ∷ []

files-right : map (λ r. file_check r.0) files ≡ map (λ r. r.1) files
unfolding files small check_of_file repeated
files-right = refl

-- Cells as structs ---------------------------------------------------------------------------------------------------------------------

-- 11 before 12, whatever the cells are: 16,385 are too many, and 16,384 of the start break the rules from the second on
most-right : (check_cells_call (replicate 16385 (cell 32 0 0 0)) 0 ≡ refuse 11 0) × (check_cells_call (replicate 16384 (cell 32 0 0 0)) 0 ≡ refuse 12 1)
unfolding check_of_file check_cells_call
most-right = (refl, refl)

-- the 27 cells of ok, read behind three: what names a cell names one three places on, and the finish is the file's own; 29 places are too few
behind-three :
    (read_cells_call (file_of 1 (front (idle 16 (arrays []))) 0) 3 (replicate 31 (cell 9 9 9 9))
    ≡ record {
      answer = Done 27 0;
      lent =
          replicate 3 (cell 9 9 9 9)
          ++ (cell 32 0 0 0 ∷ cell 33 0 0 0 ∷ cell 1 0 0 0
          ∷ replicate 16 (cell 40 0 4 5)
          ++ (cell 42 0 4 5 ∷ cell 43 0 5 0 ∷ cell 42 1 4 5 ∷ cell 43 0 5 0 ∷ cell 42 2 4 5 ∷ cell 43 0 5 0 ∷ cell 42 3 4 5 ∷ cell 43 0 5 0 ∷ cell 9 9 9 9 ∷ []));
    })
    × (read_cells_call (file_of 1 (front (idle 16 (arrays []))) 0) 3 (replicate 29 (cell 9 9 9 9))
    ≡ record { answer = Err (record { number = 14; place = 0 }); lent = replicate 29 (cell 9 9 9 9) })
unfolding check_of_file rewired names placing read_cells_call
behind-three = (refl, refl)

-- Renumbering --------------------------------------------------------------------------------------------------------------------------

-- a cell, and the same cell 100 places on: what it names moves, and a constant's value does not; a number has sixteen bits
moves : List (Cell × Cell)
moves =
    (cell 1 0 5 0, cell 1 0 5 0)
    ∷ (cell 3 0 18 0, cell 3 0 118 0)
    ∷ (cell 4 0 2 18, cell 4 0 102 118)
    ∷ (cell 9 0 2 18, cell 9 0 102 118)
    ∷ (cell 32 0 0 0, cell 32 0 0 0)
    ∷ (cell 33 0 0 0, cell 33 0 0 0)
    ∷ (cell 34 9 0 0, cell 34 9 100 0)
    ∷ (cell 35 0 0 1, cell 35 0 100 101)
    ∷ (cell 36 0 0 18, cell 36 0 100 118)
    ∷ (cell 37 0 0 18, cell 37 0 100 118)
    ∷ (cell 38 0 0 1, cell 38 0 100 101)
    ∷ (cell 40 0 1 2, cell 40 0 101 102)
    ∷ (cell 41 0 0 65535, cell 41 0 100 99)
    ∷ (cell 42 3 1 2, cell 42 3 101 102)
    ∷ (cell 43 0 2 0, cell 43 0 102 0)
    ∷ (cell 44 0 19 2, cell 44 0 119 102)
    ∷ (cell 10 0 1 2, cell 10 0 1 2)
    ∷ []

moves-right : behind 100 (map (λ r. r.0) moves) ≡ map (λ r. r.1) moves
unfolding moves rewired names shape
moves-right = refl

-- of four delays of six bytes each, those from 1 up to 3 moved; a list that is too short stays
renumber-right :
    (renumber_call 100 1 3 (cell_bytes (cell 34 1 0 0 ∷ cell 34 1 1 0 ∷ cell 34 1 2 0 ∷ cell 34 1 3 0 ∷ []))
    ≡ cell_bytes (cell 34 1 0 0 ∷ cell 34 1 101 0 ∷ cell 34 1 102 0 ∷ cell 34 1 3 0 ∷ []))
    × (renumber_call 100 0 2 (cell_bytes (cell 34 1 0 0 ∷ [])) ≡ cell_bytes (cell 34 1 0 0 ∷ []))
unfolding check_of_file rewired names
renumber-right = (refl, refl)
