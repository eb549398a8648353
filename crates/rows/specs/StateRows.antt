-- Full states and runs with what is said of them, worked out by hand from the papers: a run with a second start byte for byte, and refusal 15 clause by clause.
-- Theorems cite the same layout and condition, and so leave them free.
-- Assumes nothing.
use Rattle.std.specs.Prelude.{◌≡◌, refl, Bool, true, false, List, [], ◌∷◌, ◌++◌, map, ℕ, ◌+◌, ◌*◌, set, replicate}
use Rattle.model.specs.declared.Cell.{Cell}
use Rattle.model.specs.declared.Format.{Format}
use Rattle.model.specs.declared.Format.TheVariants.{Full}
use Rattle.model.specs.Refusals.{first_fault, Accepted}
use Rattle.model.specs.Word.{operate, put16, get32, put32}
use Rattle.model.specs.Circuit.{memory_words, cell, Netlist, merges, remaining_step, short_merge, long_merge, merge_step, short_return, long_return, return_step}
use Rattle.model.specs.State.{up_to, shifted_in, ones, in_flight, flight_in, word_bytes, Course, course, held_at, line_bit, taken_in, remaining_byte, next_value, aged, stored, shown, holding, settle, counted, evaluate, begin_state, step_state, crowded, crowding, continued, words_in, line_sound, cell_sound, cells_sound, sound}
use Rattle.model.specs.Calls.{word_at}
use Rattle.rows.specs.NetlistRows.{check_of_file}

-- A run --------------------------------------------------------------------------------------------------------------------------------

-- Twelve cells are enough to show every byte: start, ground, constant 5, a delay of the start by 9, two memories whose data is the constant and
-- whose clocks are start and ground, and a merge of the start and the delay, which is the finish. Then array 1, whose clock is the start, data the
-- constant and address the first memory; a read of it by the constant 5, and, behind a constant 65, one by that.
abbrev pub net : List Cell
net =
    cell 32 0 0 0 ∷ cell 33 0 0 0 ∷ cell 1 0 5 0 ∷ cell 34 9 0 0 ∷ cell 40 0 0 2 ∷ cell 40 0 1 2 ∷ cell 38 0 0 3
    ∷ cell 42 1 0 2 ∷ cell 43 0 4 0 ∷ cell 44 0 7 2 ∷ cell 1 0 65 0 ∷ cell 44 0 7 10 ∷ []

-- the start words of x0 and x1, 1 + 256 * 2 and 3 + 256 * 4, and of element 64 * 1 + 5, 6 + 256 * 7; the others are 0
abbrev pub start_bytes : List ℕ
start_bytes = (1 ∷ 2 ∷ 3 ∷ 4 ∷ replicate 28 0) ++ replicate 138 0 ++ (6 ∷ 7 ∷ [])

-- Instant 0: the start is 1, and stands newest in the delay's line; the memories have their start words; the merge holds a; the first read shows
-- element 5. The elements have their start words. Two are in flight, in the line and in the merge.
state0 : List ℕ
state0 =
    (0 ∷ 0 ∷ 0 ∷ 0 ∷ 2 ∷ 0 ∷ 0 ∷ 0 ∷ [])
    ++ (1 ∷ replicate 39 0)  -- start
    ++ replicate 40 0  -- ground
    ++ (5 ∷ replicate 39 0)  -- constant
    ++ replicate 8 0 ++ (1 ∷ replicate 31 0)  -- delay
    ++ (1 ∷ 2 ∷ replicate 38 0)  -- memory of x0
    ++ (3 ∷ 4 ∷ replicate 38 0)  -- memory of x1
    ++ replicate 4 0 ++ (1 ∷ replicate 35 0)  -- merge
    ++ replicate 80 0  -- array 1
    ++ (6 ∷ 7 ∷ replicate 38 0)  -- read of element 5
    ++ (65 ∷ replicate 39 0)  -- constant
    ++ replicate 40 0  -- read of element 1
    ++ replicate 138 0 ++ (6 ∷ 7 ∷ replicate 372 0)  -- elements

-- Instant 1: what was now is an instant ago; the line has moved by a bit; the clock of the first memory and of array 1 has fallen. The address an
-- instant ago was 513, whose low six bits are 1, so element 64 * 1 + 1 takes the 5 in, which the second read shows at once.
state1 : List ℕ
state1 =
    (1 ∷ 0 ∷ 0 ∷ 0 ∷ 2 ∷ 0 ∷ 0 ∷ 0 ∷ [])
    ++ (0 ∷ 0 ∷ 1 ∷ replicate 37 0)
    ++ replicate 40 0
    ++ (5 ∷ 0 ∷ 5 ∷ replicate 37 0)
    ++ replicate 8 0 ++ (2 ∷ replicate 31 0)
    ++ (5 ∷ 0 ∷ 1 ∷ 2 ∷ replicate 36 0)
    ++ (3 ∷ 4 ∷ 3 ∷ 4 ∷ replicate 36 0)
    ++ replicate 4 0 ++ (1 ∷ replicate 35 0)
    ++ replicate 80 0
    ++ (6 ∷ 7 ∷ 6 ∷ 7 ∷ replicate 36 0)
    ++ (65 ∷ 0 ∷ 65 ∷ replicate 37 0)
    ++ (5 ∷ replicate 39 0)
    ++ replicate 130 0 ++ (5 ∷ replicate 7 0) ++ (6 ∷ 7 ∷ replicate 372 0)

-- Instants 7 and 8: the bit has come to the line's highest place in its first byte, and to the lowest in its second; the others stay as they are.
abbrev waiting : ℕ → List ℕ → List ℕ → List ℕ → List ℕ
waiting t line read word =
    (t ∷ 0 ∷ 0 ∷ 0 ∷ 2 ∷ 0 ∷ 0 ∷ 0 ∷ [])
    ++ replicate 80 0
    ++ (5 ∷ 0 ∷ 5 ∷ replicate 37 0)
    ++ replicate 8 0 ++ (line ++ replicate 29 0)
    ++ (5 ∷ 0 ∷ 5 ∷ replicate 37 0)
    ++ (3 ∷ 4 ∷ 3 ∷ 4 ∷ replicate 36 0)
    ++ replicate 4 0 ++ (1 ∷ replicate 35 0)
    ++ replicate 80 0
    ++ (read ++ replicate 36 0)
    ++ (65 ∷ 0 ∷ 65 ∷ replicate 37 0)
    ++ (5 ∷ 0 ∷ 5 ∷ replicate 37 0)
    ++ replicate 130 0 ++ (5 ∷ replicate 7 0) ++ (word ++ replicate 372 0)

state7 : List ℕ
state7 = waiting 7 (128 ∷ 0 ∷ 0 ∷ []) (6 ∷ 7 ∷ 6 ∷ 7 ∷ []) (6 ∷ 7 ∷ [])

state8 : List ℕ
state8 = waiting 8 (0 ∷ 1 ∷ 0 ∷ []) (6 ∷ 7 ∷ 6 ∷ 7 ∷ []) (6 ∷ 7 ∷ [])

-- Instant 9: the delay puts out what came in nine instants ago, which is bit 9 of its line now, bit 1 of the second byte; the merge has both
-- its inputs, is 1 and holds nothing. Nothing is in flight, bit 9 having been put out.
state9 : List ℕ
state9 =
    (9 ∷ replicate 7 0)
    ++ replicate 40 0
    ++ replicate 40 0
    ++ (5 ∷ 0 ∷ 5 ∷ replicate 37 0)
    ++ (1 ∷ replicate 7 0) ++ (0 ∷ 2 ∷ replicate 30 0)
    ++ (5 ∷ 0 ∷ 5 ∷ replicate 37 0)
    ++ (3 ∷ 4 ∷ 3 ∷ 4 ∷ replicate 36 0)
    ++ (1 ∷ replicate 39 0)
    ++ replicate 80 0
    ++ (6 ∷ 7 ∷ 6 ∷ 7 ∷ replicate 36 0)
    ++ (65 ∷ 0 ∷ 65 ∷ replicate 37 0)
    ++ (5 ∷ 0 ∷ 5 ∷ replicate 37 0)
    ++ replicate 130 0 ++ (5 ∷ replicate 7 0) ++ (6 ∷ 7 ∷ replicate 372 0)

-- Instant 10, with a second start: it stands newest in the line, where the first one is bit 10, which is not counted; the merge holds a. The clocks
-- were low an instant ago, so nothing is taken in.
state10 : List ℕ
state10 =
    (10 ∷ 0 ∷ 0 ∷ 0 ∷ 2 ∷ 0 ∷ 0 ∷ 0 ∷ [])
    ++ (1 ∷ replicate 39 0)
    ++ replicate 40 0
    ++ (5 ∷ 0 ∷ 5 ∷ replicate 37 0)
    ++ (0 ∷ 0 ∷ 1 ∷ replicate 5 0) ++ (1 ∷ 4 ∷ replicate 30 0)
    ++ (5 ∷ 0 ∷ 5 ∷ replicate 37 0)
    ++ (3 ∷ 4 ∷ 3 ∷ 4 ∷ replicate 36 0)
    ++ (0 ∷ 0 ∷ 1 ∷ 0 ∷ 1 ∷ replicate 35 0)
    ++ replicate 80 0
    ++ (6 ∷ 7 ∷ 6 ∷ 7 ∷ replicate 36 0)
    ++ (65 ∷ 0 ∷ 65 ∷ replicate 37 0)
    ++ (5 ∷ 0 ∷ 5 ∷ replicate 37 0)
    ++ replicate 130 0 ++ (5 ∷ replicate 7 0) ++ (6 ∷ 7 ∷ replicate 372 0)

-- Instant 18, eight instants after it, as instant 8; but the address at instant 10 was 5, and so element 64 * 1 + 5 has taken the 5 in. The two pulses
-- are bits 8 and 18 of the line.
state18 : List ℕ
state18 = waiting 18 (0 ∷ 1 ∷ 4 ∷ []) (5 ∷ 0 ∷ 5 ∷ 0 ∷ []) (5 ∷ 0 ∷ [])

-- Instant 19, as instant 9, but for that element. The two pulses are bits 9 and 19 of the line.
state19 : List ℕ
state19 =
    (19 ∷ replicate 7 0)
    ++ replicate 40 0
    ++ replicate 40 0
    ++ (5 ∷ 0 ∷ 5 ∷ replicate 37 0)
    ++ (1 ∷ replicate 7 0) ++ (0 ∷ 2 ∷ 8 ∷ replicate 29 0)
    ++ (5 ∷ 0 ∷ 5 ∷ replicate 37 0)
    ++ (3 ∷ 4 ∷ 3 ∷ 4 ∷ replicate 36 0)
    ++ (1 ∷ replicate 39 0)
    ++ replicate 80 0
    ++ (5 ∷ 0 ∷ 5 ∷ replicate 37 0)
    ++ (65 ∷ 0 ∷ 65 ∷ replicate 37 0)
    ++ (5 ∷ 0 ∷ 5 ∷ replicate 37 0)
    ++ replicate 130 0 ++ (5 ∷ replicate 7 0) ++ (5 ∷ replicate 373 0)

-- a netlist of pulses of one instant
abbrev pub brief : List Cell → Netlist
brief cells = record { cells = cells; pulse = 1 }

-- whoever unfolds this unfolds all that a state is made by
unfoldable pub course_of : Format → Netlist → ℕ → ℕ → List ℕ → Course
unfolding state0 state1 state7 state8 state9 state10 state18 state19 check_of_file operate put16 get32 put32 merges remaining_step remaining_byte short_merge long_merge merge_step short_return long_return return_step first_fault held_at line_bit taken_in next_value up_to aged stored shown shifted_in holding settle ones in_flight flight_in counted word_bytes evaluate begin_state step_state crowded crowding continued memory_words line_sound cell_sound cells_sound sound
course_of F net finish n s = continued F net finish n s

-- "Lent bytes past a result keep their values."
begin-right : begin_state Full (brief net) (word_at start_bytes) (replicate 1000 9 ++ (7 ∷ 7 ∷ [])) ≡ state0 ++ (7 ∷ 7 ∷ [])
unfolding course_of
begin-right = refl

-- a state, how many instants it is continued by, the state then, and how many were evaluated
further : List (List ℕ × ℕ × List ℕ × ℕ)
further =
    (state0, 0, state0, 0)
    ∷ (state0 ++ (7 ∷ 7 ∷ []), 1, state1 ++ (7 ∷ 7 ∷ []), 1)
    -- as far as is asked for; to the finish, and no further
    ∷ (state7, 1, state8, 1)
    ∷ (state7, 20, state9, 2)
    ∷ (state18, 20, state19, 1)
    ∷ []

further-right : map (λ r. continued Full (brief net) 6 r.1 r.0) further ≡ map (λ r. course Accepted r.2 r.3) further
unfolding further course_of
further-right = refl

-- "a continuing by 1 with start high at that instant"
start_right : step_state Full (brief net) true (state9 ++ (7 ∷ 7 ∷ [])) ≡ state10 ++ (7 ∷ 7 ∷ [])
unfolding course_of
start_right = refl

words_right : words_in Full net 0 state1 ≡ 5 ∷ 1027 ∷ []
unfolding course_of
words_right = refl

-- Refusal 15 ---------------------------------------------------------------------------------------------------------------------------

-- byte j of cell k
abbrev at : ℕ → ℕ → ℕ
at k j = 8 + 40 * k + j

-- of the twelve cells above: a byte of the state, a value for it, the number that the state tells, and whether the state is good if all its other
-- bytes are 0
bytes : List (ℕ × ℕ × ℕ × Bool)
bytes =
    -- a control's value now, and an instant ago: 0 or 1, both bytes; a word's may be any
    (at 0 0, 1, 0, true)
    ∷ (at 0 0, 2, 0, false)
    ∷ (at 0 1, 1, 0, false)
    ∷ (at 0 2, 1, 0, true)
    ∷ (at 0 2, 2, 0, false)
    ∷ (at 0 3, 1, 0, false)
    ∷ (at 1 0, 2, 0, false)
    ∷ (at 3 2, 2, 0, false)
    ∷ (at 6 0, 2, 0, false)
    ∷ (at 2 0, 2, 0, true)
    ∷ (at 4 1, 255, 0, true)
    ∷ (at 4 3, 255, 0, true)
    -- held bits: 0 or 1, at a merge and nowhere else
    ∷ (at 6 4, 1, 1, true)
    ∷ (at 6 4, 2, 0, false)
    ∷ (at 6 5, 1, 1, true)
    ∷ (at 6 5, 2, 0, false)
    ∷ (at 3 4, 1, 0, false)
    ∷ (at 4 5, 1, 0, false)
    -- zero bytes
    ∷ (at 6 6, 1, 0, false)
    ∷ (at 3 7, 1, 0, false)
    -- a line: any, at a delay and nowhere else
    ∷ (at 3 8, 255, 8, true)
    ∷ (at 3 39, 255, 0, true)
    ∷ (at 6 8, 1, 0, false)
    ∷ (at 4 39, 1, 0, false)
    -- an array's cells and a read hold nothing and have no line; what they show is looked at no more than any word, and so are the elements
    ∷ (at 7 0, 5, 0, true)
    ∷ (at 8 3, 5, 0, true)
    ∷ (at 7 4, 1, 0, false)
    ∷ (at 9 5, 1, 0, false)
    ∷ (at 8 6, 1, 0, false)
    ∷ (at 7 8, 1, 0, false)
    ∷ (at 9 39, 1, 0, false)
    ∷ (at 12 0, 255, 0, true)
    ∷ (999, 255, 0, true)
    -- the header's instant
    ∷ (0, 255, 0, true)
    ∷ (3, 255, 0, true)
    -- the number: a wrong one, in any of its four bytes; of the delay's nine newest inputs the last is bit 0 of its line's second byte, and those behind
    -- it are not counted; a control that is high is none in flight
    ∷ (999, 0, 1, false)
    ∷ (5, 1, 0, false)
    ∷ (7, 1, 0, false)
    ∷ (at 3 8, 255, 7, false)
    ∷ (at 3 9, 1, 1, true)
    ∷ (at 3 9, 1, 0, false)
    ∷ (at 3 9, 2, 0, true)
    ∷ (at 3 9, 2, 1, false)
    ∷ (at 3 39, 255, 8, false)
    ∷ (at 6 4, 1, 0, false)
    ∷ (at 6 5, 1, 2, false)
    ∷ (at 3 0, 1, 1, false)
    ∷ []

-- both held bits of a merge are two in flight
both-held : map (λ n. sound Full (brief net) (set (set (set (replicate 1000 0) 4 n) (at 6 4) 1) (at 6 5) 1)) (1 ∷ 2 ∷ 3 ∷ []) ≡ false ∷ true ∷ false ∷ []
unfolding course_of
both-held = refl

bytes-right : map (λ r. sound Full (brief net) (set (set (replicate 1000 0) 4 r.2) r.0 r.1)) bytes ≡ map (λ r. r.3) bytes
unfolding bytes course_of
bytes-right = refl
