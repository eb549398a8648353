-- Calls with the first that their checks find, worked out by hand from the papers: refusals 13, 14, 16 and 23, what is just allowed, and that the
-- checks of programs, netlists and states come in the published order. Places are 0 where the paper names none.
-- Assumes nothing.
use Rattle.std.specs.Prelude.{◌≡◌, refl, List, [], ◌∷◌, ◌++◌, map, ℕ, set, replicate}
use Rattle.model.specs.declared.Format.TheVariants.{Full, Compact}
use Rattle.model.specs.Refusals.{refuse, first, Checked, Accepted}
use Rattle.model.specs.Circuit.{cell}
use Rattle.model.specs.NetlistFile.{cell_bytes, file_of}
use Rattle.model.specs.TimeTables.{defaults}
use Rattle.model.specs.Calls.{is_too_long, compile_checks, write_checks, read_checks, begin_checks, continue_checks, start_checks, run_netlist_checks, run_program_checks, reference_checks}
use Rattle.model.specs.Netlists.{numbering, front, idle, arrays}
use Rattle.model.specs.Cases.{raw, check_of_program}
use Rattle.rows.specs.StateRows.{course_of}

-- ok, and its file of 27 cells, whose state is 8 + 40 * 27 + 512 = 1600 bytes, a compact one 8 + 8 * 27 + 512 = 736; the start words are 544
abbrev ok_program : List ℕ
ok_program = raw 16 0 0

abbrev ok_cells : List ℕ
ok_cells = cell_bytes (front (idle 16 (arrays [])))

abbrev ok_file : List ℕ
ok_file = file_of 1 (front (idle 16 (arrays []))) 0

-- n bytes of 0; and a state of ok at an instant of three bytes
abbrev room : ℕ → List ℕ
room n = replicate n 0

abbrev state_of : ℕ → ℕ → ℕ → List ℕ
state_of a b c = a ∷ b ∷ c ∷ replicate 1597 0

-- tick 3, of 28 cells, whose delay is cell 3; a state of it at an instant of three bytes, with a number and the first byte of the delay's line
abbrev tick_file : List ℕ
tick_file = file_of 1 (front (cell 34 3 0 0 ∷ idle 16 (arrays []))) 3

abbrev ticking : ℕ → ℕ → ℕ → ℕ → ℕ → List ℕ
ticking a b c n line = set (set (a ∷ b ∷ c ∷ replicate 1637 0) 4 n) 136 line

-- a compact one, with a number and the number of the delay's line
abbrev counting : ℕ → ℕ → ℕ → ℕ → ℕ → List ℕ
counting a b c n line = set (set (a ∷ b ∷ c ∷ replicate 741 0) 4 n) 38 line

-- the first that a call's checks find, and what the paper says
calls : List (Checked × Checked)
calls =
    -- compiling: 1 to 8, 22, 24 and 25, then 14 for the file
    (first (compile_checks defaults ok_program (room 512)), Accepted)
    ∷ (first (compile_checks defaults ok_program (room 511)), refuse 14 0)
    ∷ (first (compile_checks defaults [] []), refuse 1 0)
    ∷ (first (compile_checks defaults (raw 26 0 0) []), refuse 22 0)
    -- writing: 11 for a broken cell or a finish that is none, 12, then 14 for the file
    ∷ (first (write_checks 1 ok_cells 0 (room 512)), Accepted)
    ∷ (first (write_checks 1 ok_cells 0 (room 511)), refuse 14 0)
    ∷ (first (write_checks 1 ok_cells 2 []), refuse 12 2)
    ∷ (first (write_checks 1 ok_cells 27 []), refuse 11 0)
    ∷ (first (write_checks 1 (ok_cells ++ (1 ∷ [])) 0 []), refuse 11 0)
    -- reading: 9 to 12, then 14 for 27 cells of 6 bytes
    ∷ (first (read_checks ok_file (room 162)), Accepted)
    ∷ (first (read_checks ok_file (room 161)), refuse 14 0)
    ∷ (first (read_checks [] []), refuse 9 0)
    -- beginning: 9 to 12, then 14 for the words or the state
    ∷ (first (begin_checks Full ok_file (room 544) (room 1600)), Accepted)
    ∷ (first (begin_checks Full ok_file (room 543) (room 1600)), refuse 14 0)
    ∷ (first (begin_checks Full ok_file (room 544) (room 1599)), refuse 14 0)
    ∷ (first (begin_checks Full (set ok_file 0 1) [] []), refuse 10 0)
    -- continuing: 9 to 12, 14, 15, 16. 1,000,000 is 64 + 256 * (66 + 256 * 15)
    ∷ (first (continue_checks Full ok_file 1000000 (state_of 0 0 0)), Accepted)
    ∷ (first (continue_checks Full ok_file 1000001 (state_of 0 0 0)), refuse 16 0)
    ∷ (first (continue_checks Full ok_file 1 (state_of 63 66 15)), Accepted)
    ∷ (first (continue_checks Full ok_file 2 (state_of 63 66 15)), refuse 16 0)
    ∷ (first (continue_checks Full ok_file 0 (state_of 64 66 15)), Accepted)
    ∷ (first (continue_checks Full ok_file 0 (state_of 65 66 15)), refuse 16 0)
    ∷ (first (continue_checks Full ok_file 0 (set (state_of 65 66 15) 4 1)), refuse 15 0)
    -- the start, a control wire, shows 2
    ∷ (first (continue_checks Full ok_file 1 (set (state_of 0 0 0) 8 2)), refuse 15 0)
    ∷ (first (continue_checks Full ok_file 1000001 (set (room 1599) 4 1)), refuse 14 0)
    ∷ (first (continue_checks Full (set ok_file 0 1) 0 []), refuse 10 0)
    -- giving a start: 9 to 12, 14, 15, 16 with its instant, 23
    ∷ (first (start_checks Full ok_file (state_of 0 0 0)), Accepted)
    ∷ (first (start_checks Full ok_file (state_of 63 66 15)), Accepted)
    ∷ (first (start_checks Full ok_file (state_of 64 66 15)), refuse 16 0)
    ∷ (first (start_checks Full tick_file (ticking 0 0 0 1 4)), refuse 23 0)
    ∷ (first (start_checks Full tick_file (ticking 0 0 0 0 8)), Accepted)
    ∷ (first (start_checks Full tick_file (ticking 63 66 15 1 4)), refuse 23 0)
    ∷ (first (start_checks Full tick_file (ticking 64 66 15 1 4)), refuse 16 0)
    ∷ (first (start_checks Full tick_file (ticking 64 66 15 1 8)), refuse 15 0)
    ∷ (first (start_checks Full ok_file (set (room 1599) 4 1)), refuse 14 0)
    ∷ (first (start_checks Full (set ok_file 0 1) []), refuse 10 0)
    -- the same of compact states: 14 for 736 bytes, 15 for a number above the delay
    ∷ (first (begin_checks Compact ok_file (room 544) (room 736)), Accepted)
    ∷ (first (begin_checks Compact ok_file (room 544) (room 735)), refuse 14 0)
    ∷ (first (continue_checks Compact tick_file 1 (counting 63 66 15 1 3)), Accepted)
    ∷ (first (continue_checks Compact tick_file 2 (counting 63 66 15 1 3)), refuse 16 0)
    ∷ (first (continue_checks Compact tick_file 2 (counting 63 66 15 1 4)), refuse 15 0)
    ∷ (first (continue_checks Compact tick_file 2 (set (room 743) 4 1)), refuse 14 0)
    ∷ (first (start_checks Compact tick_file (counting 63 66 15 0 0)), Accepted)
    ∷ (first (start_checks Compact tick_file (counting 63 66 15 1 1)), refuse 23 0)
    ∷ (first (start_checks Compact tick_file (counting 64 66 15 1 1)), refuse 16 0)
    -- a full run of a netlist: 9 to 12, 13, 14
    ∷ (first (run_netlist_checks ok_file (room 544) 1000000 (room 1600)), Accepted)
    ∷ (first (run_netlist_checks ok_file (room 543) 1000001 (room 1599)), refuse 13 0)
    ∷ (first (run_netlist_checks ok_file (room 543) 1000000 (room 1600)), refuse 14 0)
    ∷ (first (run_netlist_checks ok_file (room 544) 1000000 (room 1599)), refuse 14 0)
    ∷ (first (run_netlist_checks [] (room 544) 1000001 (room 1600)), refuse 9 0)
    -- a full run of a program: 1 to 8, 22, 24 and 25, 13, then 14 for the words, the file or the state
    ∷ (first (run_program_checks defaults ok_program (room 544) 1000000 (room 512) (room 1600)), Accepted)
    ∷ (first (run_program_checks defaults ok_program [] 1000001 [] []), refuse 13 0)
    ∷ (first (run_program_checks defaults ok_program (room 543) 1000000 (room 512) (room 1600)), refuse 14 0)
    ∷ (first (run_program_checks defaults ok_program (room 544) 1000000 (room 511) (room 1600)), refuse 14 0)
    ∷ (first (run_program_checks defaults ok_program (room 544) 1000000 (room 512) (room 1599)), refuse 14 0)
    ∷ (first (run_program_checks defaults [] [] 1000001 [] []), refuse 1 0)
    ∷ (first (run_program_checks defaults (raw 26 0 0) [] 1000001 [] []), refuse 22 0)
    -- a reference run: 1 to 8, 22, 24 and 25, 13, then 14 for the words
    ∷ (first (reference_checks defaults ok_program (room 544) 1000000), Accepted)
    ∷ (first (reference_checks defaults ok_program (room 543) 1000001), refuse 13 0)
    ∷ (first (reference_checks defaults ok_program (room 543) 1000000), refuse 14 0)
    ∷ (first (reference_checks defaults [] [] 1000001), refuse 1 0)
    ∷ (first (reference_checks defaults (raw 26 0 0) [] 1000001), refuse 22 0)
    ∷ []

calls-right : map (λ r. r.0) calls ≡ map (λ r. r.1) calls
unfolding calls check_of_program numbering course_of is_too_long
calls-right = refl
