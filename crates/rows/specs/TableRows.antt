-- Tables of operator times with what their check says, worked out by hand from paper 02, S-4 and S-5: refusals 19 to 21 with their places, what is just
-- allowed, and what a program's check says under a table. Assumes nothing.
use Rattle.std.specs.Prelude.{◌≡◌, refl, true, false, List, [], ◌∷◌, ◌++◌, map, ℕ, set, replicate}
use Rattle.model.specs.Word.{bytes16}
use Rattle.model.specs.Refusals.{refuse, first_fault, Checked, Accepted}
use Rattle.model.specs.Program.{built_in_times}
use Rattle.model.specs.NetlistFile.{word_sum, block_with}
use Rattle.model.specs.TimeTables.{byte_wrong, table_fault, table_sum_wrong, times_in, given, given_if, verdict_of, times_of, beside, load, defaults}
use Rattle.model.specs.Calls.{check_call}
use Rattle.model.specs.Cases.{raw, check_of_program}

-- The built-in times as a file. Its words, but for the check, sum to 10 + (1 + 256 * 16) + (17 + 256) + (1 + 256 * 6) + (17 + 256 * 4) = 6958,
-- and 65536 − 6958 = 58578 = 210 + 256 * 228.
built_in_file : List ℕ
built_in_file =
    0 ∷ 0 ∷ 10 ∷ 0 ∷ 0 ∷ 0 ∷ 210 ∷ 228  -- block 0, 10, zero, the check
    ∷ 0 ∷ 0 ∷ 1 ∷ 16 ∷ 17 ∷ 1 ∷ 1 ∷ 6 ∷ 17 ∷ 4  -- kinds 1 to 10
    ∷ replicate 494 0

built-in-loads : load (beside (given built_in_file) 0 1) ≡ defaults
unfolding built_in_file load verdict_of times_of table_sum_wrong table_fault byte_wrong word_sum first_fault times_in built_in_times
built-in-loads = refl

-- bytes behind the header with times of kinds 3 and 10: byte i of the file is number i − 8 of these
abbrev times_for : ℕ → ℕ → List ℕ
times_for t u = 0 ∷ 0 ∷ t ∷ 16 ∷ 17 ∷ 1 ∷ 1 ∷ 6 ∷ 17 ∷ u ∷ replicate 494 0

-- a table's file, and what is said of it
tables : List (List ℕ × Checked)
tables =
    (block_with 0 10 0 (times_for 1 200), Accepted)
    ∷ (block_with 0 10 0 (times_for 200 1), Accepted)
    -- 19: the length isn't 512
    ∷ ([], refuse 19 0)
    ∷ (replicate 511 0, refuse 19 0)
    ∷ (built_in_file ++ replicate 512 0, refuse 19 0)
    -- 20: the words don't sum to 0, the check among them
    ∷ (set built_in_file 511 1, refuse 20 0)
    ∷ (set built_in_file 6 212, refuse 20 0)
    -- 21: block number 0, 10 in bytes 2–3, zero in 4–5; a table of nine times is 21 too
    ∷ (replicate 512 0, refuse 21 2)
    ∷ (block_with 1 10 0 (times_for 1 17), refuse 21 0)
    ∷ (block_with 256 10 0 (times_for 1 17), refuse 21 1)
    ∷ (block_with 0 9 0 (times_for 1 17), refuse 21 2)
    ∷ (block_with 0 11 0 (times_for 1 17), refuse 21 2)
    ∷ (block_with 0 266 0 (times_for 1 17), refuse 21 3)
    ∷ (block_with 0 10 1 (times_for 1 17), refuse 21 4)
    ∷ (block_with 0 10 256 (times_for 1 17), refuse 21 5)
    -- constant and variable are 0, the others 1 to 200, the rest zero
    ∷ (block_with 0 10 0 (set (times_for 1 17) 0 1), refuse 21 8)
    ∷ (block_with 0 10 0 (set (times_for 1 17) 1 1), refuse 21 9)
    ∷ (block_with 0 10 0 (times_for 0 17), refuse 21 10)
    ∷ (block_with 0 10 0 (times_for 201 17), refuse 21 10)
    ∷ (block_with 0 10 0 (times_for 1 0), refuse 21 17)
    ∷ (block_with 0 10 0 (times_for 1 201), refuse 21 17)
    ∷ (block_with 0 10 0 (set (times_for 1 17) 10 1), refuse 21 18)
    ∷ (block_with 0 10 0 (set (times_for 1 17) 503 1), refuse 21 511)
    -- the first wrong byte; 20 before 21
    ∷ (block_with 0 10 1 (times_for 0 0), refuse 21 4)
    ∷ (set built_in_file 2 8, refuse 20 0)
    ∷ []

tables-right : map (λ r. (load (beside (given r.0) 0 1)).checked) tables ≡ map (λ r. r.1) tables
unfolding tables built_in_file load verdict_of times_of table_sum_wrong table_fault byte_wrong word_sum first_fault times_in bytes16
tables-right = refl

-- a flag tells whether a table is given: without it no file is looked at, with it an empty one is 19
flags-right : map (λ b. (load (beside (given_if b []) 0 1)).checked) (false ∷ true ∷ []) ≡ Accepted ∷ refuse 19 0 ∷ []
unfolding given_if load verdict_of
flags-right = refl

-- a table, a program, and what the check says of both: x0 := !x0 takes the time of kind 3, x0 := a0[x0] that of kind 10, and a table's refusal comes before the program's
checks : List (List ℕ × List ℕ × Checked)
checks =
    (block_with 0 10 0 (times_for 40 17), raw 18 40 0 ++ raw 3 0 0 ++ raw 2 0 0, Accepted)
    ∷ (block_with 0 10 0 (times_for 40 17), raw 18 39 0 ++ raw 3 0 0 ++ raw 2 0 0, refuse 7 0)
    ∷ (block_with 0 10 0 (times_for 0 17), [], refuse 21 10)
    ∷ (block_with 0 10 0 (times_for 1 50), raw 18 50 0 ++ raw 10 0 0 ++ raw 2 0 0, Accepted)
    ∷ (block_with 0 10 0 (times_for 1 50), raw 18 49 0 ++ raw 10 0 0 ++ raw 2 0 0, refuse 7 0)
    ∷ (built_in_file, [], refuse 1 0)
    ∷ []

checks-right : map (λ r. check_call (load (beside (given r.0) 0 1)) r.1) checks ≡ map (λ r. r.2) checks
unfolding checks built_in_file check_of_program table_sum_wrong table_fault byte_wrong word_sum times_in
checks-right = refl
