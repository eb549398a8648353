-- The circuit with pulses of more than one instant, worked out by hand from paper 02, S-10: the start, what merges do instant by instant, netlists and their
-- files, and states. With w 2, 3 and 8, and beside them w 1, which is the base's.
-- Assumes nothing.
use Rattle.std.specs.Prelude.{◌≡◌, refl, Bool, true, false, List, [], ◌∷◌, ◌++◌, map, ℕ, suc, ◌+◌, ◌-◌, ◌*◌, eqb, get_or, set, take, drop, replicate}
use Prim.Native.String.{String}
use Rattle.model.specs.declared.Cell.{Cell}
use Rattle.model.specs.declared.Format.TheVariants.{Full, Compact}
use Rattle.model.specs.Ascii.{ascii}
use Rattle.model.specs.Word.{bit}
use Rattle.model.specs.Refusals.{refuse, first, Checked, Accepted}
use Rattle.model.specs.Program.{const, Code, tick, assign, assign_elem, seq, loop, exit}
use Rattle.model.specs.Circuit.{cell, Netlist, Sig, high, Step, remaining_step, remaining_before, pulses, short_merge, long_merge, short_return, long_return, merge_step, return_step, merged_before, merged, step_of}
use Rattle.model.specs.Numbering.{netlist}
use Rattle.model.specs.NetlistFile.{block, file_of, file_check, pulse_of}
use Rattle.model.specs.State.{begin_state, step_state, sound}
use Rattle.model.specs.Calls.{word_at, is_too_long, begin_checks, continue_checks, busy, start_checks}
use Rattle.model.specs.Netlists.{numbering, front, idle, array, idle_arrays, arrays}
use Rattle.rows.specs.NetlistRows.{check_of_file}
use Rattle.rows.specs.StateRows.{course_of}

-- A trace: a digit for each instant from 0 on. As a wire, and the instants that it has.
abbrev pub trace : String → List ℕ
trace s = map (λ c. c - 48) (ascii s)

abbrev wire : String → Sig
wire s t = high (get_or (trace s) t 0)

abbrev pub count_from : ℕ → List ℕ → List ℕ
count_from t [] = []
count_from t (x ∷ xs) = t ∷ count_from (suc t) xs

-- f at each of the instants of a trace
abbrev pub sampled : (ℕ → ℕ) → String → List ℕ
sampled f s = map f (count_from 0 (trace s))

-- The start ------------------------------------------------------------------------------------------------------------------------------

-- "Start is high for w instants": the pulse length, how many remained before an instant, whether the start is high in it, and how many remain after it
remains : List (ℕ × ℕ × Bool × ℕ)
remains =
    (1, 0, true, 0)
    ∷ (2, 0, true, 1)
    ∷ (2, 1, true, 0)
    ∷ (3, 0, true, 2)
    ∷ (3, 2, true, 1)
    ∷ (3, 1, true, 0)
    ∷ (8, 0, true, 7)
    ∷ (8, 7, true, 6)
    ∷ (8, 0, false, 0)
    ∷ []

remains-right : map (λ r. remaining_step r.0 r.1 r.2) remains ≡ map (λ r. r.3) remains
unfolding remains remaining_step
remains-right = refl

-- the pulse length, where start pulses are given, the level, and how many high instants remain after each
levels : List (ℕ × String × String × String)
levels =
    (1, "10010", "10010", "00000")
    ∷ (2, "1000100", "1100110", "1000100")
    ∷ (2, "00000", "00000", "00000")
    ∷ (3, "10000100000", "11100111000", "21000210000")
    -- an instant after the fall, and as the last high instant ends
    ∷ (3, "10001000", "11101110", "21002100")
    ∷ (3, "10010000", "11111100", "21021000")
    ∷ (8, "100000000010", "111111110011", "765432100076")
    ∷ []

levels-right :
    (map (λ r. sampled (λ t. bit (pulses r.0 (wire r.1) t)) r.1) levels ≡ map (λ r. trace r.2) levels)
    × (map (λ r. sampled (λ t. remaining_before r.0 (wire r.1) (suc t)) r.1) levels ≡ map (λ r. trace r.3) levels)
unfolding levels bit remaining_step remaining_before pulses
levels-right = (refl, refl)

-- Merges ---------------------------------------------------------------------------------------------------------------------------------

-- the kind, the pulse length, and instant by instant a, b, the output, held a and held b
merges : List (ℕ × ℕ × String × String × String × String × String)
merges =
    -- w 1, as the base has it: held until both have come, then 0; longer inputs make it put out at every instant at which it has both
    (38, 1, "1000100", "0010100", "0010100", "1100000", "0000000")
    ∷ (38, 1, "11100", "01110", "01100", "10000", "00011")
    ∷ (39, 1, "01000100", "10010100", "00010100", "01100000", "00000000")
    -- "keeps its held bits until its output falls, when they become 0": a and b together, overlapping, one right behind the other, apart, b first
    ∷ (38, 2, "11000", "11000", "11000", "11000", "11000")
    ∷ (38, 2, "11000", "01100", "01100", "11100", "01100")
    ∷ (38, 2, "110000", "001100", "001100", "111100", "001100")
    ∷ (38, 2, "11000000", "00000110", "00000110", "11111110", "00000110")
    ∷ (38, 2, "00001100", "11000000", "00001100", "00001100", "11111100")
    ∷ (38, 3, "1110000", "0011100", "0011100", "1111100", "0011100")
    ∷ (38, 3, "1110000000", "0000011100", "0000011100", "1111111100", "0000011100")
    ∷ (38, 3, "0001110", "1110000", "0001110", "0001110", "1111110")
    ∷ (38, 8, "1111111100000", "0001111111100", "0001111111100", "1111111111100", "0001111111100")
    ∷ (38, 8, "1111111100000000000", "0000000001111111100", "0000000001111111100", "1111111111111111100", "0000000001111111100")
    -- in a loop of delay w + 1: low for one instant, and at once again
    ∷ (38, 2, "110011001100", "011001100110", "011001100110", "111011101110", "011001100110")
    -- a alone
    ∷ (38, 2, "1100000", "0000000", "0000000", "1111111", "0000000")
    -- a call's merge: a and b together, overlapping, apart
    ∷ (39, 2, "1100", "1100", "1100", "1100", "0000")
    ∷ (39, 2, "11000", "01100", "01100", "11100", "00000")
    ∷ (39, 2, "11000000", "00000110", "00000110", "11111110", "00000000")
    ∷ (39, 3, "1110000000", "0000011100", "0000011100", "1111111100", "0000000000")
    ∷ (39, 8, "1111111100000", "0001111111100", "0001111111100", "1111111111100", "0000000000000")
    -- a lone b is forgotten, before a and without one; a second b, after the fall, finds nothing held
    ∷ (39, 2, "0001100", "1100000", "0000000", "0001111", "0000000")
    ∷ (39, 8, "00000000000", "11111111000", "00000000000", "00000000000", "00000000000")
    ∷ (39, 2, "110000000", "001100110", "001100000", "111100000", "000000000")
    -- another caller's return right behind keeps it up
    ∷ (39, 2, "11000000", "00111100", "00111100", "11111100", "00000000")
    -- an a in the instant of the fall is lost: the last of its high instants, and the first, whose second is held
    ∷ (39, 2, "01100000", "11001100", "01000000", "01000000", "00000000")
    ∷ (39, 3, "0011101110000", "0011111100111", "0011111100000", "0011111100000", "0000000000000")
    ∷ (39, 2, "110001100", "000110000", "000110000", "111110111", "000000000")
    ∷ []

-- f of a level that is worked out once
abbrev by : {A : Type 0} → Bool → (Bool → A) → A
by true f = f true
by false f = f false

-- the output, held a and held b after each instant, from those before it
abbrev course : Step → Bool → Bool → Bool → List ℕ → List ℕ → List (ℕ × ℕ × ℕ)
course step was heldA heldB [] ys = []
course step was heldA heldB (x ∷ xs) [] = []
course step was heldA heldB (x ∷ xs) (y ∷ ys) =
    let m = step was (record { a = heldA; b = heldB }) (high x) (high y) in
    by m.out (λ o. by m.held.a (λ p. by m.held.b (λ q. (bit o, bit p, bit q) ∷ course step o p q xs ys)))

abbrev courses : List (List (ℕ × ℕ × ℕ))
courses = map (λ r. course (step_of r.1 r.0) false false false (trace r.2) (trace r.3)) merges

merges-right :
    (map (λ c. map (λ m. m.0) c) courses ≡ map (λ r. trace r.4) merges)
    × (map (λ c. map (λ m. m.1) c) courses ≡ map (λ r. trace r.5) merges)
    × (map (λ c. map (λ m. m.2) c) courses ≡ map (λ r. trace r.6) merges)
unfolding merges bit short_merge long_merge short_return long_return merge_step return_step step_of
merges-right = (refl, refl, refl)

-- and so it is as a wire, of those that are short enough
merged-right :
    map (λ r. sampled (λ t. bit (merged (step_of r.1 r.0) (wire r.2) (wire r.3) t)) r.2) (take 6 merges)
    ≡ map (λ r. trace r.4) (take 6 merges)
unfolding merges bit short_merge long_merge short_return long_return merge_step return_step step_of merged_before merged
merged-right = refl

-- an instant of a merge in any state: the kind, the pulse length; its output an instant ago, held a, held b, a and b; its output, held a and held b
steps : List (ℕ × ℕ × String × String)
steps =
    -- "kind 38 also needs a or b to be 1 for its output": with both bits held and neither input they stay held, unless it falls
    (38, 1, "01100", "100")
    ∷ (38, 2, "01100", "011")
    ∷ (38, 3, "01100", "011")
    ∷ (38, 8, "01100", "011")
    ∷ (38, 1, "11100", "100")
    ∷ (38, 2, "11100", "000")
    ∷ (38, 3, "11100", "000")
    ∷ (38, 8, "11100", "000")
    ∷ (38, 3, "11110", "111")
    ∷ (38, 3, "11101", "111")
    ∷ (38, 3, "00010", "010")
    ∷ (38, 3, "00001", "001")
    ∷ (38, 3, "01001", "111")
    ∷ (38, 3, "00011", "111")
    ∷ (38, 1, "00011", "100")
    ∷ (38, 3, "10010", "000")
    ∷ (38, 1, "10010", "010")
    ∷ (39, 3, "00001", "000")
    ∷ (39, 3, "01000", "010")
    ∷ (39, 3, "01001", "110")
    ∷ (39, 1, "01001", "100")
    ∷ (39, 3, "00011", "110")
    ∷ (39, 3, "11001", "110")
    ∷ (39, 3, "11000", "000")
    ∷ (39, 3, "11010", "000")
    ∷ (39, 1, "11010", "010")
    ∷ []

abbrev stepped : ℕ → ℕ → String → List ℕ
stepped k w s =
    let m = step_of w k (wire s 0) (record { a = wire s 1; b = wire s 2 }) (wire s 3) (wire s 4) in
    bit m.out ∷ bit m.held.a ∷ bit m.held.b ∷ []

steps-right : map (λ r. stepped r.0 r.1 r.2) steps ≡ map (λ r. trace r.3) steps
unfolding steps bit short_merge long_merge short_return long_return merge_step return_step step_of
steps-right = refl

-- Files ----------------------------------------------------------------------------------------------------------------------------------

-- the pulse length, a program, and its netlist: "an assignment's second delay is w", of an element too, and no other delay
netlists : List (ℕ × Code × List Cell)
netlists =
    (3, assign 1 0 (const 5), front (cell 34 1 0 0 ∷ cell 34 3 3 0 ∷ cell 40 0 3 30 ∷ idle 15 (arrays (cell 1 0 5 0 ∷ cell 41 0 3 29 ∷ []))))
    ∷ (
      2,
      assign_elem 1 3 (const 0) (const 5),
      front
          (cell 34 1 0 0 ∷ cell 34 2 3 0
          ∷ idle 16 (idle_arrays 0 3 (array 3 3 31 32 (cell 1 0 0 0 ∷ cell 1 0 5 0 ∷ cell 41 0 3 30 ∷ cell 41 0 3 29 ∷ [])))),
    )
    ∷ (8, seq (tick 3) (loop 9 exit), front (cell 34 3 0 0 ∷ cell 34 9 1 0 ∷ idle 16 (arrays (cell 35 0 3 4 ∷ []))))
    ∷ []

netlists-right : map (λ r. netlist (record { bodies = []; main = r.1; pulse = r.0 })) netlists ≡ map (λ r. r.2) netlists
unfolding netlists numbering
netlists-right = refl

-- the 27 cells that every netlist has, and more
abbrev plus : List Cell → List Cell
plus cs = front (idle 16 (arrays cs))

abbrev five : Cell
five = cell 1 0 5 0

abbrev full : List Cell
full = plus (replicate 57 five)

-- the pulse length, and the header of the file of ok, whose words, but for the check, sum to 256 (w − 1) + 27 and the cells' 2650; 65536 − 2677 =
-- 139 + 256 * 245
headers : List (ℕ × List ℕ)
headers =
    (1, 0 ∷ 0 ∷ 27 ∷ 0 ∷ 0 ∷ 0 ∷ 139 ∷ 245 ∷ [])
    ∷ (2, 0 ∷ 1 ∷ 27 ∷ 0 ∷ 0 ∷ 0 ∷ 139 ∷ 244 ∷ [])
    ∷ (3, 0 ∷ 2 ∷ 27 ∷ 0 ∷ 0 ∷ 0 ∷ 139 ∷ 243 ∷ [])
    ∷ (8, 0 ∷ 7 ∷ 27 ∷ 0 ∷ 0 ∷ 0 ∷ 139 ∷ 238 ∷ [])
    ∷ []

headers-right :
    (map (λ r. take 8 (file_of r.0 (plus []) 0)) headers ≡ map (λ r. r.1) headers)
    × (map (λ r. pulse_of r.1) headers ≡ map (λ r. r.0) headers)
unfolding headers check_of_file
headers-right = (refl, refl)

-- "in the high byte of every block number": of 85 cells in two blocks
abbrev numbers : ℕ → List ℕ
numbers w =
    let file = file_of w (plus (replicate 58 five)) 0 in
    take 2 file ++ take 2 (drop 512 file)

numbers-right : map numbers (1 ∷ 3 ∷ 8 ∷ []) ≡ (0 ∷ 0 ∷ 1 ∷ 0 ∷ []) ∷ (0 ∷ 2 ∷ 1 ∷ 2 ∷ []) ∷ (0 ∷ 7 ∷ 1 ∷ 7 ∷ []) ∷ []
unfolding check_of_file
numbers-right = refl

-- a file, and what is said of it
files : List (List ℕ × Checked)
files =
    (block 1792 27 0 (plus []), Accepted)
    -- 11: above 8, which is 7 in the high byte
    ∷ (block 2048 27 0 (plus []), refuse 11 0)
    ∷ (block 65280 27 0 (plus []), refuse 11 0)
    -- after 10 and before 12
    ∷ (set (block 2048 27 0 (plus [])) 511 1, refuse 10 0)
    ∷ (block 2048 27 2 (plus []), refuse 11 0)
    ∷ (block 1792 27 2 (plus []), refuse 12 2)
    -- the low byte is block 0's number still
    ∷ (block 1793 27 0 (plus []), refuse 11 0)
    -- block 1 with the same pulse length, another, and another number
    ∷ (block 512 85 0 full ++ block 513 85 0 (five ∷ []), Accepted)
    ∷ (block 512 85 0 full ++ block 257 85 0 (five ∷ []), refuse 11 1)
    ∷ (block 512 85 0 full ++ block 1 85 0 (five ∷ []), refuse 11 1)
    ∷ (block 0 85 0 full ++ block 513 85 0 (five ∷ []), refuse 11 1)
    ∷ (block 512 85 0 full ++ block 512 85 0 (five ∷ []), refuse 11 1)
    ∷ []

files-right : map (λ r. file_check r.0) files ≡ map (λ r. r.1) files
unfolding files check_of_file
files-right = refl

-- States ---------------------------------------------------------------------------------------------------------------------------------

abbrev lasting : ℕ → List Cell → Netlist
lasting w cells = record { cells = cells; pulse = w }

-- the bytes of a state at these places, which rise, from place i on
abbrev bytes_at : ℕ → List ℕ → List ℕ → List ℕ
bytes_at i [] s = []
bytes_at i (k ∷ ks) [] = []
bytes_at i (k ∷ ks) (x ∷ s) = elim (eqb i k) [ true ↦ x ∷ bytes_at (suc i) ks s | false ↦ bytes_at (suc i) (k ∷ ks) s ]

-- and of the states of a run: begun, then an instant further for each digit, with a start pulse where it is 1
abbrev further : List ℕ → Netlist → List ℕ → List ℕ → List (List ℕ)
further places net s [] = bytes_at 0 places s ∷ []
further places net s (x ∷ xs) =
    let t = step_state Full net (high x) s in
    bytes_at 0 places s ∷ further places net t xs

abbrev shown : List ℕ → Netlist → String → List (List ℕ)
shown places net starts = further places net (begin_state Full net (word_at []) []) (trace starts)

-- what these traces have at each instant
abbrev across : List String → List (List ℕ)
across [] = []
across (c ∷ cs) = map (λ t. map (λ x. get_or (trace x) t 0) (c ∷ cs)) (count_from 0 (trace c))

-- start, a delay of it by 2, and a merge of both, of kind k: their bytes are 8 to 47, 48 to 87 and 88 to 127
abbrev joined : ℕ → List Cell
joined k = cell 32 0 0 0 ∷ cell 34 2 0 0 ∷ cell k 0 0 1 ∷ []

-- The merge's kind, the pulse length, where a start pulse is given after instant 0, and at each instant from 0 on: the number, the start, how many high
-- instants of it remain, the delay, the merge, its held a and held b. The number is what remains of the start, what the delay's two newest
-- inputs are, and what is held.
states : List (ℕ × ℕ × String × List String)
states =
    (38, 1, "001", "2202" ∷ "1001" ∷ "0000" ∷ "0010" ∷ "0010" ∷ "1101" ∷ "0000" ∷ [])
    ∷ (38, 2, "0000", "33320" ∷ "11000" ∷ "10000" ∷ "00110" ∷ "00110" ∷ "11110" ∷ "00110" ∷ [])
    ∷ (38, 3, "000001", "4443204" ∷ "1110001" ∷ "2100002" ∷ "0011100" ∷ "0011100" ∷ "1111101" ∷ "0011100" ∷ [])
    ∷ (39, 3, "000001", "4432104" ∷ "1110001" ∷ "2100002" ∷ "0011100" ∷ "0011100" ∷ "1111101" ∷ "0000000" ∷ [])
    ∷ (
      39,
      8,
      "0000000000",
      "99876543210" ∷ "11111111000" ∷ "76543210000" ∷ "00111111110" ∷ "00111111110" ∷ "11111111110" ∷ "00000000000" ∷ [],
    )
    ∷ []

states-right :
    map (λ r. shown (4 ∷ 8 ∷ 16 ∷ 48 ∷ 88 ∷ 92 ∷ 93 ∷ []) (lasting r.1 (joined r.0)) r.2) states ≡ map (λ r. across r.3) states
unfolding states course_of
states-right = refl

-- A condition is read at each of the w instants: start, a word that is 5 where a delay of the start by 1 is high and else 0, and at each instant the
-- 36 and the 37 of both
abbrev tested : List Cell
tested = cell 32 0 0 0 ∷ cell 1 0 5 0 ∷ cell 34 1 0 0 ∷ cell 41 0 2 1 ∷ cell 36 0 0 3 ∷ cell 37 0 0 3 ∷ []

conditions : List (ℕ × String × List String)
conditions = (1, "0", "00" ∷ "10" ∷ []) ∷ (2, "00", "010" ∷ "100" ∷ []) ∷ (3, "000", "0110" ∷ "1000" ∷ []) ∷ []

conditions-right : map (λ r. shown (168 ∷ 208 ∷ []) (lasting r.0 tested) r.1) conditions ≡ map (λ r. across r.2) conditions
unfolding conditions course_of
conditions-right = refl

-- 15: byte j of cell k
abbrev at : ℕ → ℕ → ℕ
at k j = 8 + 40 * k + j

-- of the start, the delay and a 38: the pulse length, a byte, a value for it, the number that the state tells, and whether the state is good if all its
-- other bytes are 0
bytes : List (ℕ × ℕ × ℕ × ℕ × Bool)
bytes =
    -- what remains of the start is below w, and in flight
    (1, at 0 8, 1, 1, false)
    ∷ (1, at 0 8, 1, 0, false)
    ∷ (2, at 0 8, 1, 1, true)
    ∷ (2, at 0 8, 2, 2, false)
    ∷ (3, at 0 8, 1, 1, true)
    ∷ (3, at 0 8, 2, 2, true)
    ∷ (3, at 0 8, 3, 3, false)
    ∷ (8, at 0 8, 7, 7, true)
    ∷ (8, at 0 8, 8, 8, false)
    ∷ (3, at 0 8, 2, 0, false)
    ∷ (3, at 0 8, 2, 1, false)
    ∷ (3, at 0 8, 0, 2, false)
    -- the other bytes of its line, its zero bytes and held bits, and another cell's line
    ∷ (3, at 0 9, 1, 0, false)
    ∷ (3, at 0 9, 1, 1, false)
    ∷ (8, at 0 39, 1, 0, false)
    ∷ (3, at 0 6, 1, 0, false)
    ∷ (3, at 0 6, 1, 1, false)
    ∷ (3, at 0 4, 1, 1, false)
    ∷ (8, at 2 8, 1, 0, false)
    ∷ (8, at 2 8, 1, 1, false)
    ∷ []

bytes-right : map (λ r. sound Full (lasting r.0 (joined 38)) (set (set (replicate 640 0) 4 r.3) r.1 r.2)) bytes ≡ map (λ r. r.4) bytes
unfolding bytes course_of
bytes-right = refl

-- ok, whose finish is the start
abbrev ok_file : ℕ → List ℕ
ok_file w = file_of w (plus []) 0

-- 23: the pulse length, the number, the finish now and an instant ago, and whether a start is refused
waits : List (ℕ × ℕ × ℕ × ℕ × Bool)
waits =
    (1, 0, 0, 0, false)
    ∷ (1, 0, 1, 0, false)
    ∷ (1, 1, 0, 0, true)
    -- "for w above 1 a second start waits for a low finish too"
    ∷ (2, 0, 1, 0, true)
    ∷ (3, 0, 1, 1, true)
    ∷ (8, 0, 1, 1, true)
    ∷ (2, 0, 0, 0, false)
    ∷ (3, 0, 0, 1, false)
    ∷ (8, 1, 0, 0, true)
    ∷ []

waits-right :
    map (λ r. busy Full (take 8 (ok_file r.0)) (0 ∷ 0 ∷ 0 ∷ 0 ∷ r.1 ∷ 0 ∷ 0 ∷ 0 ∷ r.2 ∷ 0 ∷ r.3 ∷ 0 ∷ [])) waits ≡ map (λ r. r.4) waits
unfolding waits course_of
waits-right = refl

-- the first that a call's checks find, and what the paper says
calls : List (Checked × Checked)
calls =
    -- 23 in a state of 1600 bytes, all 0 but for the finish
    (first (start_checks Full (ok_file 2) (replicate 8 0 ++ (1 ∷ replicate 1591 0))), refuse 23 0)
    -- 27 with a compact state, after 12 and before 14
    ∷ (first (begin_checks Compact (ok_file 1) [] []), refuse 14 0)
    ∷ (first (begin_checks Compact (ok_file 2) [] []), refuse 27 0)
    ∷ (first (begin_checks Full (ok_file 8) [] []), refuse 14 0)
    ∷ (first (begin_checks Compact (file_of 2 (plus []) 2) [] []), refuse 12 2)
    ∷ (first (continue_checks Compact (ok_file 8) 1000001 []), refuse 27 0)
    ∷ (first (start_checks Compact (ok_file 3) []), refuse 27 0)
    ∷ []

calls-right : map (λ r. r.0) calls ≡ map (λ r. r.1) calls
unfolding calls course_of is_too_long
calls-right = refl
