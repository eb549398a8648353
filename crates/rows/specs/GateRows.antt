-- Gates that take their time: what cells of small netlists show, instant by instant, worked out by hand from the paper. That a slow run answers as a
-- full run does leaves free what an operator shows before its time, and whether its inputs or its results are late.
-- Assumes nothing.
use Rattle.std.specs.Prelude.{◌≡◌, refl, List, [], ◌∷◌, map, ℕ, ◌*◌, eqb, length, get_or, replicate}
use Rattle.model.specs.declared.Cell.{Cell}
use Rattle.model.specs.Refusals.{refuse, first, Checked, Accepted}
use Rattle.model.specs.Word.{pick, bit, operate, element_word, bytes16}
use Rattle.model.specs.Program.{const, Code, ok, assign, assign_elem, seq, alone, time_in, built_in_times}
use Rattle.model.specs.Circuit.{cell, pulses, remaining_before, remaining_step, delayed, memories, memory, element, equation, shape}
use Rattle.model.specs.Numbering.{walk_place, data_at}
use Rattle.model.specs.Netlists.{numbering, front}
use Rattle.model.specs.TimeTables.{built_in, given, beside, verdict_of, times_of, load}
use Rattle.model.specs.Gates.{past, gate, slow_cell, row_from, history, end_at, value_bytes, slow_size, slow_run_checks}
use Rattle.model.specs.Cases.{raw, check_of_program}

-- the built-in times, but for kind 7, which takes 2
abbrev times : ℕ → ℕ
times k = pick (eqb k 7) 2 (time_in built_in_times k)

-- from words that are 0, but for element 1 of array 0, which is 9
abbrev words : ℕ → ℕ
words x = pick (eqb x 17) 9 0

-- cells behind start, ground and constant 0, from where on they are ors behind the walk, a cell, and what it shows from instant 0 on
cells : List (List Cell × ℕ × ℕ × List ℕ)
cells =
    -- the complement of an input 0, then of 5: its inputs are late, and not its results
    (cell 1 0 5 0 ∷ cell 3 0 3 0 ∷ [], 5, 4, 65535 ∷ 65530 ∷ 65530 ∷ [])
    -- and of that complement: of an input 0, then of the two
    ∷ (cell 1 0 5 0 ∷ cell 3 0 3 0 ∷ cell 3 0 4 0 ∷ [], 6, 5, 65535 ∷ 0 ∷ 5 ∷ 5 ∷ [])
    -- 0 equals 0, and 1 does not equal 2; constants are there at once
    ∷ (cell 1 0 1 0 ∷ cell 1 0 2 0 ∷ cell 8 0 3 4 ∷ [], 6, 5, 1 ∷ 1 ∷ 1 ∷ 1 ∷ 1 ∷ 1 ∷ 0 ∷ 0 ∷ [])
    ∷ (cell 1 0 1 0 ∷ cell 1 0 2 0 ∷ cell 8 0 3 4 ∷ [], 6, 3, 1 ∷ 1 ∷ [])
    -- memory 4 is 7 from instant 2 on, its complement an instant later; a delay, a memory and a 41 are instant
    ∷ (cell 34 1 0 0 ∷ cell 40 0 3 5 ∷ cell 1 0 7 0 ∷ cell 3 0 4 0 ∷ cell 41 0 3 6 ∷ [], 8, 3, 0 ∷ 1 ∷ 0 ∷ [])
    ∷ (cell 34 1 0 0 ∷ cell 40 0 3 5 ∷ cell 1 0 7 0 ∷ cell 3 0 4 0 ∷ cell 41 0 3 6 ∷ [], 8, 4, 0 ∷ 0 ∷ 7 ∷ 7 ∷ [])
    ∷ (cell 34 1 0 0 ∷ cell 40 0 3 5 ∷ cell 1 0 7 0 ∷ cell 3 0 4 0 ∷ cell 41 0 3 6 ∷ [], 8, 6, 65535 ∷ 65535 ∷ 65535 ∷ 65528 ∷ [])
    ∷ (cell 34 1 0 0 ∷ cell 40 0 3 5 ∷ cell 1 0 7 0 ∷ cell 3 0 4 0 ∷ cell 41 0 3 6 ∷ [], 8, 7, 0 ∷ 65535 ∷ 0 ∷ 0 ∷ [])
    -- an element, and one that is written at instant 2: its array's words are inputs
    ∷ (cell 42 0 1 2 ∷ cell 43 0 2 0 ∷ cell 1 0 1 0 ∷ cell 44 0 3 5 ∷ [], 7, 6, 0 ∷ 0 ∷ 0 ∷ 0 ∷ 9 ∷ 9 ∷ [])
    ∷ (cell 34 1 0 0 ∷ cell 42 0 3 6 ∷ cell 43 0 7 0 ∷ cell 1 0 8 0 ∷ cell 1 0 1 0 ∷ cell 44 0 4 7 ∷ [], 9, 8, 0 ∷ 0 ∷ 0 ∷ 0 ∷ 9 ∷ 9 ∷ 8 ∷ 8 ∷ [])
    -- an or of the walk takes its time, and one behind it none
    ∷ (cell 1 0 1 0 ∷ cell 1 0 2 0 ∷ cell 7 0 3 4 ∷ cell 7 0 3 4 ∷ [], 6, 5, 0 ∷ 0 ∷ 3 ∷ [])
    ∷ (cell 1 0 1 0 ∷ cell 1 0 2 0 ∷ cell 7 0 3 4 ∷ cell 7 0 3 4 ∷ [], 6, 6, 3 ∷ 3 ∷ 3 ∷ [])
    ∷ []

cells_right :
    map (λ r. map (λ row. get_or row r.2 0) (history (slow_cell times (front r.0) r.1 words) (length (front r.0)) (length r.3))) cells
    ≡ map (λ r. r.3) cells
unfolding cells slow_cell history row_from gate past equation shape pulses remaining_before remaining_step delayed memory element memories operate element_word bit built_in_times
cells_right = refl

-- where the walk begins and where the ors behind it do: 27 cells and those of the walk; two delays for each assignment, a clock or where a variable or an
-- array has two
places : List (Code × ℕ × ℕ)
places =
    (ok, 27, 27)
    ∷ (assign 1 0 (const 5), 29, 31)
    ∷ (seq (assign 1 0 (const 5)) (assign 1 0 (const 6)), 32, 36)
    ∷ (seq (assign_elem 1 2 (const 1) (const 5)) (assign_elem 1 2 (const 2) (const 6)), 32, 40)
    ∷ []

places-right : map (λ r. walk_place (alone r.0)) places ≡ map (λ r. r.1) places
unfolding places numbering
places-right = refl

ors-right : map (λ r. data_at (alone r.0)) places ≡ map (λ r. r.2) places
unfolding places numbering
ors-right = refl

-- The call ---------------------------------------------------------------------------------------------------------------------------------

-- ok has 27 cells: 54 bytes for their values, and 512 * (2 * 27 + 1) to work in
size-right : slow_size 27 ≡ 28160
size-right = refl

abbrev ok_program : List ℕ
ok_program = raw 16 0 0

abbrev room : ℕ → List ℕ
room n = replicate n 0

-- the first that the checks of a slow run find: 19 to 21, 1 to 8, 22, 24 and 25, 13, then 14 for the words, the values or the list to work in; a pulse length
-- that other calls refuse (27) is not looked at
orders : List (Checked × Checked)
orders =
    (first (slow_run_checks (load (beside (given []) 0 0)) [] [] 1000001 [] []), refuse 19 0)
    ∷ (first (slow_run_checks (load (beside built_in 0 0)) [] [] 1000001 [] []), refuse 1 0)
    ∷ (first (slow_run_checks (load (beside built_in 9 0)) ok_program [] 1000001 [] []), refuse 1 0)
    ∷ (first (slow_run_checks (load (beside built_in 0 0)) (raw 26 0 0) [] 1000001 [] []), refuse 22 0)
    ∷ (first (slow_run_checks (load (beside built_in 0 9)) ok_program [] 1000001 [] []), refuse 13 0)
    ∷ (first (slow_run_checks (load (beside built_in 0 1)) ok_program (room 543) 1000000 (room 54) []), refuse 14 0)
    ∷ (first (slow_run_checks (load (beside built_in 0 1)) ok_program (room 544) 1000000 (room 53) []), refuse 14 0)
    ∷ (first (slow_run_checks (load (beside built_in 0 1)) ok_program (room 544) 1000000 (room 54) (room 28159)), refuse 14 0)
    ∷ (first (slow_run_checks (load (beside built_in 0 1)) ok_program (room 544) 1000000 (room 54) (room 28160)), Accepted)
    ∷ []

orders-right : map (λ r. r.0) orders ≡ map (λ r. r.1) orders
unfolding orders check_of_program numbering load verdict_of times_of
orders-right = refl

-- where a run of budget 3 ends, by where its finish is high
ends-right : map (λ f. end_at f 0 3) ((λ t. eqb t 0) ∷ (λ t. eqb t 2) ∷ (λ t. eqb t 3) ∷ (λ t. eqb t 4) ∷ []) ≡ 0 ∷ 2 ∷ 3 ∷ 3 ∷ []
unfolding end_at
ends-right = refl

-- "two bytes each in cell order"
bytes-right : value_bytes (λ k. 258 * k) 0 3 ≡ 0 ∷ 0 ∷ 2 ∷ 1 ∷ 4 ∷ 2 ∷ []
unfolding value_bytes bytes16
bytes-right = refl
