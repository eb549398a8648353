-- The netlist file: the bytes that a netlist is written as, the netlist that bytes are read as, and refusals 9 to 12.
-- 1 to 196 blocks of 512 bytes, each with a header of eight bytes and 84 cells of six. The file tells the netlist's pulse length too.
-- Assumes nothing: definitions.
use Rattle.std.specs.Prelude.{◌≡◌, refl, Bool, true, false, ◌&&◌, ◌||◌, not, List, [], ◌∷◌, ◌++◌, ℕ, zero, suc, ◌+◌, ◌-◌, ◌*◌, ◌/◌, ◌%◌, eqb, leb, ltb, length, get_or, take, drop, replicate}
use Rattle.model.specs.declared.Cell.{Cell}
use Rattle.model.specs.declared.kinds.Use.{Use}
use Rattle.model.specs.declared.kinds.Use.TheVariants.{Unknown, Unused, Value, Positive, ControlBelow, ControlAny, WordBelow, WordAny, ArrayBelow}
use Rattle.model.specs.Word.{pick, get16, bytes16}
use Rattle.model.specs.Refusals.{refuse_if, first, first_fault, fault_if, Checked}
use Rattle.model.specs.Circuit.{cell, cell_at, Netlist, cell_row, control, memories, past_memories}

-- Cells in bytes -----------------------------------------------------------------------------------------------------------------------

-- "Cells have 6 bytes: kind, delay, two-byte a, two-byte b"
unfoldable pub cell_bytes : List Cell → List ℕ
cell_bytes [] = []
cell_bytes (c ∷ cs) = c.kind ∷ c.delay ∷ (bytes16 c.a ++ (bytes16 c.b ++ cell_bytes cs))

-- the cell whose six bytes begin at i
unfoldable pub cell_from : List ℕ → ℕ → Cell
cell_from s i = cell (get_or s i 0) (get_or s (i + 1) 0) (get16 s (i + 2)) (get16 s (i + 4))

-- so many cells from cell k on, where cell k begins at byte `at k`
unfoldable pub cells_at : (ℕ → ℕ) → List ℕ → ℕ → ℕ → List Cell
cells_at at s k zero = []
cells_at at s k (suc n) = cell_from s (at k) ∷ cells_at at s (k + 1) n

-- where cell k begins in a list of cells, and in a file: "then 84 cells"
abbrev pub in_list : ℕ → ℕ
in_list k = 6 * k

abbrev pub in_file : ℕ → ℕ
in_file k = 512 * (k / 84) + (8 + 6 * (k % 84))

-- Writing ------------------------------------------------------------------------------------------------------------------------------

-- the sum of the two-byte words of a list
unfoldable pub word_sum : List ℕ → ℕ
word_sum [] = 0
word_sum (x ∷ []) = x
word_sum (x ∷ (y ∷ s)) = x + 256 * y + word_sum s

-- "Bytes 0–1 block number from 0; 2–3 the netlist's number of cells ...; 4–5 its finish cell, both the same in every block"
abbrev pub head_bytes : ℕ → ℕ → ℕ → List ℕ
head_bytes number count finish = bytes16 number ++ (bytes16 count ++ bytes16 finish)

-- "then 84 cells"; "unused bytes are zero"
abbrev pub rest_bytes : List Cell → List ℕ
rest_bytes cs = cell_bytes cs ++ replicate (504 - 6 * length cs) 0

-- "Keep each block's sum running as cells are put in": the sum with one more cell, whose three words are kind and delay, a, and b
unfoldable pub sum_with : ℕ → Cell → ℕ
sum_with sum c = (sum + (c.kind + 256 * c.delay) + c.a + c.b) % 65536

-- the sum after cells that are put in one after another
unfoldable pub sum_after : ℕ → List Cell → ℕ
sum_after sum [] = sum
sum_after sum (c ∷ cs) = sum_after (sum_with sum c) cs

-- "after each cell it is the sum, modulo 65,536, of the header's first three words and the cells put in so far"
unfoldable pub running_sum : ℕ → ℕ → ℕ → List Cell → ℕ
running_sum number count finish cs = sum_after ((number + count + finish) % 65536) cs

-- "6–7 a check that makes the block's 256 two-byte words sum to 0 modulo 65,536": from the sum of the other words
abbrev pub check_for : ℕ → ℕ
check_for sum = (65536 - sum % 65536) % 65536

-- a block by that sum: its header, its check, and what comes after them
abbrev pub block_by_sum : ℕ → ℕ → ℕ → ℕ → List ℕ → List ℕ
block_by_sum number count finish sum rest = head_bytes number count finish ++ (bytes16 (check_for sum) ++ rest)

-- "and the check comes from it alone"
unfoldable pub block : ℕ → ℕ → ℕ → List Cell → List ℕ
block number count finish cs = block_by_sum number count finish (running_sum number count finish cs) (rest_bytes cs)

-- a block of any contents, whose words are added up where they all stand
abbrev pub block_with : ℕ → ℕ → ℕ → List ℕ → List ℕ
block_with number count finish rest = block_by_sum number count finish (word_sum (head_bytes number count finish ++ rest)) rest

-- Worked out by hand, for a header of block 0, 23 cells and finish 5: 0 + 23 + 5 = 28. A delay of 5 with a 7 adds 34 + 256 · 5 + 7 + 0 = 1,321,
-- so 1,349. The constant 65,000 adds 1 + 65,000, so 66,350, which is 814 modulo 65,536. Its check is 65,536 − 814 = 64,722.
sums-right : (running_sum 0 23 5 [] ≡ 28)
    × (running_sum 0 23 5 (cell 34 5 7 0 ∷ []) ≡ 1349)
    × (running_sum 0 23 5 (cell 34 5 7 0 ∷ cell 1 0 65000 0 ∷ []) ≡ 814)
    × (check_for 814 ≡ 64722)
unfolding running_sum sum_after sum_with
sums-right = (refl, refl, refl, refl)

-- so many blocks from block number b on
unfoldable pub blocks : ℕ → ℕ → ℕ → ℕ → List Cell → List ℕ
blocks zero b count finish cs = []
blocks (suc m) b count finish cs = block b count finish (take 84 cs) ++ blocks m (b + 1) count finish (drop 84 cs)

-- "No block is more than needed"
abbrev pub blocks_for : ℕ → ℕ
blocks_for count = (count + 83) / 84

-- "A length w, 1 to 8, ... stands, less one, in the high byte of every block number": the number of block 0
abbrev pub first_number : ℕ → ℕ
first_number w = 256 * (w - 1)

unfoldable pub file_of : ℕ → List Cell → ℕ → List ℕ
file_of w net finish = blocks (blocks_for (length net)) (first_number w) (length net) finish net

-- Reading ------------------------------------------------------------------------------------------------------------------------------

abbrev pub count_of : List ℕ → ℕ
count_of s = get16 s 2

abbrev pub finish_of : List ℕ → ℕ
finish_of s = get16 s 4

-- by the high byte of block 0's number
abbrev pub pulse_of : List ℕ → ℕ
pulse_of s = get_or s 1 0 + 1

unfoldable pub cells_of : List ℕ → List Cell
cells_of s = cells_at in_file s 0 (count_of s)

abbrev pub net_of : List ℕ → Netlist
net_of s = record { cells = cells_of s; pulse = pulse_of s }

abbrev pub block_at : List ℕ → ℕ → List ℕ
block_at s b = take 512 (drop (512 * b) s)

-- Refusals 9 to 11 ---------------------------------------------------------------------------------------------------------------------

-- "The cell limit becomes 16,384 and the file's 196 blocks (100,352 bytes)"
abbrev pub cell_limit : ℕ
cell_limit = 16384

abbrev pub file_limit : ℕ
file_limit = 100352

limits-right : (blocks_for cell_limit ≡ 196) × (512 * 196 ≡ file_limit)
limits-right = (refl, refl)

-- "9. Netlist length 0, above" the limit "or not a multiple of 512 (place 0)."
unfoldable pub file_length_wrong : List ℕ → Bool
file_length_wrong s = eqb (length s) 0 || (ltb file_limit (length s) || ltb 0 (length s % 512))

-- "10. Block check wrong (first block)."
unfoldable pub sum_fault : List ℕ → ℕ → ℕ
sum_fault s b = fault_if (not (eqb (word_sum (block_at s b) % 65536) 0)) 10

-- "a wrong number of blocks for block 0's cell count, or a finish not below it: block 0"; the count is 27, "in every netlist", to
-- the limit
unfoldable pub count_wrong : ℕ → ℕ → ℕ → Bool
count_wrong m count finish = not (leb 27 count && (leb count cell_limit && (eqb m (blocks_for count) && ltb finish count)))

-- "A length w, 1 to 8"; "a file's above 8 is 11"
unfoldable pub pulse_wrong : ℕ → Bool
pulse_wrong w = eqb w 0 || ltb 8 w

unfoldable pub all_zero : List ℕ → Bool
all_zero [] = true
all_zero (x ∷ s) = eqb x 0 && all_zero s

-- the header of block b, whose bytes are B, in a file of pulse length w, and its unused bytes, which are those after the last cell
unfoldable pub header_right : ℕ → ℕ → ℕ → ℕ → List ℕ → Bool
header_right w count finish b B =
    eqb (get16 B 0) (first_number w + b) && (eqb (get16 B 2) count && (eqb (get16 B 4) finish && all_zero (drop (8 + 6 * (count - 84 * b)) B)))

-- "11. Then header or unused byte wrong (first block"
unfoldable pub header_fault : List ℕ → ℕ → ℕ
header_fault s b = fault_if (not (header_right (pulse_of s) (count_of s) (finish_of s) b (block_at s b))) 11

-- Refusal 12 ---------------------------------------------------------------------------------------------------------------------------

-- an input j names a cell below lim, of the right sort
unfoldable pub control_in : List Cell → ℕ → ℕ → Bool
control_in net lim j = ltb j lim && control (cell_at net j).kind

-- "nothing else names a 42 or 43": a cell that is one of an array's two
unfoldable pub of_array : ℕ → Bool
of_array k = eqb k 42 || eqb k 43

unfoldable pub word_in : List Cell → ℕ → ℕ → Bool
word_in net lim j = ltb j lim && not (control (cell_at net j).kind || of_array (cell_at net j).kind)

unfoldable pub array_in : List Cell → ℕ → ℕ → Bool
array_in net lim j = ltb j lim && eqb (cell_at net j).kind 42

-- whether v is what its use asks for, in cell k
unfoldable pub kept : Use → List Cell → ℕ → ℕ → Bool
kept Unknown net k v = false
kept Unused net k v = eqb v 0
kept Value net k v = true
kept Positive net k v = leb 1 v && leb v 255
kept ControlBelow net k v = control_in net k v
kept ControlAny net k v = control_in net (length net) v
kept WordBelow net k v = word_in net k v
kept WordAny net k v = word_in net (length net) v
kept ArrayBelow net k v = array_in net k v

-- whether cell k may have that kind: kinds 32 and 33 "stand nowhere else"
unfoldable pub stands : ℕ → ℕ → Bool
stands kind k = pick (eqb kind 32) (eqb k 0) (pick (eqb kind 33) (eqb k 1) true)

-- cell k, which is c, keeps the rules of its kind
unfoldable pub keeps : List Cell → ℕ → Cell → Bool
keeps net k c =
    let row = cell_row c.kind in
    stands c.kind k && (kept row.delay net k c.delay && (kept row.a net k c.a && kept row.b net k c.b))

-- "Cell 0 is kind 32 and cell 1 kind 33, ... cell 2 is constant 0"
unfoldable pub placed : ℕ → Cell → Bool
placed k c =
    pick (eqb k 0) (eqb c.kind 32)
    (pick (eqb k 1) (eqb c.kind 33)
    (pick (eqb k 2) (eqb c.kind 1 && eqb c.a 0) true))

-- "Right after the sixteenth memory stand, in every netlist ... and nowhere else, array by array, kind 42 (delay the array ...) and next to it
-- kind 43": cell k, where these cells begin at m
unfoldable pub array_placed : ℕ → ℕ → Cell → Bool
array_placed m k c =
    pick (leb m k && ltb k (m + 8))
    (pick (eqb ((k - m) % 2) 0) (eqb c.kind 42 && eqb c.delay ((k - m) / 2)) (eqb c.kind 43))
    (not (of_array c.kind))

-- "12. Then a cell breaks a rule above (first cell"
unfoldable pub cell_fault : List Cell → ℕ → ℕ
cell_fault net k =
    let c = cell_at net k in
    fault_if (not (placed k c && (array_placed (past_memories net 16) k c && keeps net k c))) 12

-- "a wrong number of memories: the cell count; a finish on a word wire: that cell, last)"; arrays that the end cuts off: "or the cell count"
abbrev pub net_checks : List Cell → ℕ → List Checked
net_checks net finish =
    first_fault (cell_fault net) 0 (length net)
    ∷ refuse_if (not (eqb (memories net) 16)) 12 (length net)
    ∷ refuse_if (ltb (length net) (past_memories net 16 + 8)) 12 (length net)
    ∷ refuse_if (not (control (cell_at net finish).kind)) 12 finish
    ∷ []

unfoldable pub net_check : List Cell → ℕ → Checked
net_check net finish = first (net_checks net finish)

-- refusals 9 to 12 in their order
abbrev pub file_checks : List ℕ → List Checked
file_checks s =
    let m = length s / 512 in
    refuse_if (file_length_wrong s) 9 0
    ∷ first_fault (sum_fault s) 0 m
    ∷ refuse_if (count_wrong m (count_of s) (finish_of s) || pulse_wrong (pulse_of s)) 11 0
    ∷ first_fault (header_fault s) 0 m
    ∷ net_check (cells_of s) (finish_of s)
    ∷ []

unfoldable pub file_check : List ℕ → Checked
file_check s = first (file_checks s)

-- For a functional run -----------------------------------------------------------------------------------------------------------------

-- "the last sixteen cells, each kind 7 with cell 2 as b, carry the last words in order"
unfoldable pub carries : Cell → Bool
carries c = eqb c.kind 7 && eqb c.b 2

-- "other cells there: refusal 12, the first such, after its other rules"
unfoldable pub last_fault : List Cell → ℕ → ℕ
last_fault net k = fault_if (leb (length net) (k + 16) && not (carries (cell_at net k))) 12

unfoldable pub last_check : List Cell → Checked
last_check net = first_fault (last_fault net) 0 (length net)

-- the words that they show, where cell j shows v j
unfoldable pub last_words : List Cell → (ℕ → ℕ) → ℕ → ℕ → List ℕ
last_words net v x zero = []
last_words net v x (suc n) = v (length net - 16 + x) ∷ last_words net v (x + 1) n
