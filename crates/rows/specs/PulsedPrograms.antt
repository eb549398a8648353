-- Programs with pulses of more than one instant, worked out by hand from paper 02, S-10: refusals 27 and 7, the rules, when a finish is due, and the answers
-- that follow. With w 2, 3 and 8, and beside them w 1, which is the base's.
-- Assumes nothing.
use Rattle.std.specs.Prelude.{◌≡◌, refl, List, [], ◌∷◌, map, ℕ, replicate}
use Prim.Native.String.{String}
use Rattle.model.specs.declared.Answer.{Answer}
use Rattle.model.specs.declared.Options.{Options}
use Rattle.model.specs.declared.Outcome.TheVariants.{Ended, Open}
use Rattle.model.specs.Ascii.{ascii}
use Rattle.model.specs.Word.{bit, operate, element_word, get16}
use Rattle.model.specs.Refusals.{refuse, first, Checked, Accepted}
use Rattle.model.specs.Program.{Expr, const, var, op, elem, Code, Stmt, ok, tick, assign, assign_elem, seq, par, ite, while, repeat, loop, exit, call, time, gap, least, built_in_times, time_in, node_bytes, preorders}
use Rattle.model.specs.Rules.{imperative, owner, eval, put, over, kept, after, wait, chain, both, caught, whiles, repeats, loops, run, shows_at, due}
use Rattle.model.specs.NetlistFile.{word_sum}
use Rattle.model.specs.TimeTables.{byte_wrong, table_fault, table_sum_wrong, times_in, TimeTable, built_in, given as table, beside, load}
use Rattle.model.specs.Calls.{check_call, compile_checks, write_checks, word_at, run_program_checks, listed, reference_checks, reference_answer, answering, reference_call}
use Rattle.model.specs.TextCalls.{read_text_checks}
use Rattle.model.specs.CircuitPromises.{stops_at}
use Rattle.model.specs.RunPromises.{Request, continuing, start as pulse, Call, Seen, seen, refused_seen, stand, due_at, after_continuing, pulsed, after_start, after_request, next, expected}
use Rattle.model.specs.Cases.{raw, check_of_program, start, end_answer}
use Rattle.rows.specs.NetlistRows.{check_of_file}
use Rattle.rows.specs.PulseRows.{trace, sampled}

-- k procedures, and pulses of w
abbrev given : ℕ → ℕ → Options
given k w = load (beside built_in k w)

abbrev bytes_of : List Code → List ℕ
bytes_of Ps = node_bytes (preorders Ps)

-- What is given --------------------------------------------------------------------------------------------------------------------------

-- the pulse length, the number of procedures, the table, the program, and what is said of them
givens : List (ℕ × ℕ × TimeTable × List ℕ × Checked)
givens =
    (1, 0, built_in, raw 16 0 0, Accepted)
    ∷ (2, 0, built_in, raw 16 0 0, Accepted)
    ∷ (8, 0, built_in, raw 16 0 0, Accepted)
    -- 27: not 1 to 8
    ∷ (0, 0, built_in, raw 16 0 0, refuse 27 0)
    ∷ (9, 0, built_in, raw 16 0 0, refuse 27 0)
    ∷ (255, 0, built_in, raw 16 0 0, refuse 27 0)
    -- before 19, 20 and 21 of a table
    ∷ (0, 0, table [], raw 16 0 0, refuse 27 0)
    ∷ (8, 0, table [], raw 16 0 0, refuse 19 0)
    ∷ (9, 0, table (1 ∷ replicate 511 0), raw 16 0 0, refuse 27 0)
    ∷ (8, 0, table (1 ∷ replicate 511 0), raw 16 0 0, refuse 20 0)
    ∷ (9, 0, table (replicate 512 0), raw 16 0 0, refuse 27 0)
    ∷ (8, 0, table (replicate 512 0), raw 16 0 0, refuse 21 2)
    -- before 1, of the program and of the number of procedures
    ∷ (9, 0, built_in, [], refuse 27 0)
    ∷ (8, 0, built_in, [], refuse 1 0)
    ∷ (0, 9, built_in, raw 16 0 0, refuse 27 0)
    ∷ (8, 9, built_in, raw 16 0 0, refuse 1 0)
    ∷ []

givens-right : map (λ r. check_call (load (beside r.2 r.1 r.0)) r.3) givens ≡ map (λ r. r.4) givens
unfolding givens check_of_program table_sum_wrong table_fault byte_wrong word_sum times_in
givens-right = refl

-- the first that a call's checks find: 27 before 13, 14, 17 and, where cells are written, before 11
firsts : List (Checked × Checked)
firsts =
    (first (compile_checks (given 0 9) [] []), refuse 27 0)
    ∷ (first (read_text_checks (given 0 0) (ascii "x16") []), refuse 27 0)
    ∷ (first (run_program_checks (given 0 9) [] [] 1000001 [] []), refuse 27 0)
    ∷ (first (reference_checks (given 0 9) [] [] 1000001), refuse 27 0)
    ∷ (first (write_checks 0 [] 0 []), refuse 27 0)
    ∷ (first (write_checks 9 [] 0 []), refuse 27 0)
    ∷ (first (write_checks 8 [] 0 []), refuse 11 0)
    ∷ []

firsts-right : map (λ r. r.0) firsts ≡ map (λ r. r.1) firsts
unfolding firsts check_of_program check_of_file
firsts-right = refl

-- Refusal 7 ------------------------------------------------------------------------------------------------------------------------------

-- x0 = 0, of time 6, and x0 - 1, of time 17
abbrev is_nought : Expr
is_nought = op 8 (var 0) (const 0)

abbrev less1 : Expr
less1 = op 5 (var 0) (const 1)

-- a statement, and its least delay with w 1, 2, 3 and 8: "For w above 1 every loop's and call's delay is at least w + 1", and the others' as ever
least_delays : List (Code × ℕ × ℕ × ℕ × ℕ)
least_delays =
    (ok, 0, 0, 0, 0)
    ∷ (tick 0, 1, 1, 1, 1)
    ∷ (assign 0 0 (const 7), 1, 1, 1, 1)
    ∷ (assign 0 0 less1, 17, 17, 17, 17)
    ∷ (assign_elem 0 2 (var 0) (const 7), 1, 1, 1, 1)
    ∷ (seq (loop 0 ok) ok, 0, 0, 0, 0)
    ∷ (par (loop 0 ok) ok, 0, 0, 0, 0)
    ∷ (ite 0 (var 0) ok ok, 0, 0, 0, 0)
    ∷ (ite 0 is_nought ok ok, 6, 6, 6, 6)
    ∷ (while 0 (var 0) ok, 1, 3, 4, 9)
    ∷ (while 0 is_nought ok, 6, 6, 6, 9)
    ∷ (while 0 less1 ok, 17, 17, 17, 17)
    ∷ (repeat 0 (var 0) ok, 1, 3, 4, 9)
    ∷ (repeat 0 is_nought ok, 6, 6, 6, 9)
    ∷ (repeat 0 less1 ok, 17, 17, 17, 17)
    ∷ (loop 0 ok, 1, 3, 4, 9)
    ∷ (exit, 0, 0, 0, 0)
    ∷ (call 0 0, 1, 3, 4, 9)
    ∷ []

abbrev least_with : ℕ → Code → ℕ
least_with w P = least (time_in built_in_times) w P

least-right :
    map (λ r. least_with 1 r.0 ∷ least_with 2 r.0 ∷ least_with 3 r.0 ∷ least_with 8 r.0 ∷ []) least_delays
    ≡ map (λ r. r.1 ∷ r.2 ∷ r.3 ∷ r.4 ∷ []) least_delays
unfolding least_delays time gap least built_in_times
least-right = refl

-- the three loops and the call, each with delay d, as node 1 behind a procedure that is ok
abbrev behind_ok : ℕ → List (List Code)
behind_ok d = (ok ∷ while d (var 0) ok ∷ []) ∷ (ok ∷ repeat d (var 0) ok ∷ []) ∷ (ok ∷ loop d exit ∷ []) ∷ (ok ∷ call d 0 ∷ []) ∷ []

-- the pulse length, the delay, and what is said of each of the four
delays : List (ℕ × ℕ × Checked)
delays =
    (1, 0, refuse 7 1)
    ∷ (1, 1, Accepted)
    ∷ (2, 2, refuse 7 1)
    ∷ (2, 3, Accepted)
    ∷ (3, 3, refuse 7 1)
    ∷ (3, 4, Accepted)
    ∷ (8, 8, refuse 7 1)
    ∷ (8, 9, Accepted)
    ∷ []

delays-right :
    map (λ r. map (λ Ps. check_call (given 1 r.0) (bytes_of Ps)) (behind_ok r.1)) delays
    ≡ map (λ r. r.2 ∷ r.2 ∷ r.2 ∷ r.2 ∷ []) delays
unfolding delays preorders check_of_program
delays-right = refl

-- the pulse length, the number of procedures, the roots, and what is said of them
programs : List (ℕ × ℕ × List Code × Checked)
programs =
    -- ticks, assignments and ifs with the smallest delays
    (8, 0, seq (tick 1) (seq (ite 0 (var 0) ok ok) (seq (assign 1 0 (const 5)) (assign_elem 1 0 (const 0) (const 1)))) ∷ [], Accepted)
    ∷ (8, 0, assign 0 0 (const 5) ∷ [], refuse 7 0)
    ∷ (8, 0, tick 0 ∷ [], refuse 7 0)
    -- the expression's time, where it is the larger
    ∷ (8, 0, while 17 less1 ok ∷ [], Accepted)
    ∷ (8, 0, while 16 less1 ok ∷ [], refuse 7 0)
    ∷ (8, 0, repeat 8 is_nought ok ∷ [], refuse 7 0)
    ∷ (3, 0, repeat 6 is_nought ok ∷ [], Accepted)
    -- the first such node: where no run comes to it, and in a procedure that is never called
    ∷ (2, 0, loop 3 (seq exit (loop 2 ok)) ∷ [], refuse 7 3)
    ∷ (3, 2, ok ∷ seq (tick 1) (call 3 0) ∷ while 3 (var 0) ok ∷ [], refuse 7 3)
    -- after 24
    ∷ (8, 1, loop 8 ok ∷ call 8 1 ∷ [], refuse 24 2)
    ∷ []

programs-right : map (λ r. check_call (given r.1 r.0) (bytes_of r.2)) programs ≡ map (λ r. r.3) programs
unfolding programs preorders check_of_program
programs-right = refl

-- The rules ------------------------------------------------------------------------------------------------------------------------------

-- x0 := x0 + n, which takes 16 + w, and x0 := x0 − 1, which takes 17 + w; if x0 = n then exit else ok, which takes 6
abbrev adds : ℕ → Code
adds n = assign 16 0 (op 4 (var 0) (const n))

abbrev down : Code
down = assign 17 0 less1

abbrev exit_at : ℕ → Code
exit_at n = ite 6 (op 8 (var 0) (const n)) exit ok

-- every kind of statement, with a call of procedure 0: x0 := 2, 1 + w; a while of three tests of 17 and two rounds of 17 + w and the larger of 9 and
-- 2 + w; a repeat of 9; a loop that is left after 4, since a1[0] is 7
abbrev all_kinds : Code
all_kinds =
    seq (assign 1 0 (const 2))
    (seq (while 17 (var 0) (seq down (par (call 9 0) (assign_elem 2 1 (var 0) (const 7)))))
    (seq (repeat 9 (const 1) ok) (loop 9 (seq (ite 4 (elem 1 (const 0)) exit ok) (tick 1)))))

-- the pulse length, the number of procedures, the roots, x0 at the start, and what is answered with a budget of 150; `endAnswer t v` is an end at t
-- with x0 = v
runs : List (ℕ × ℕ × List Code × ℕ × Answer)
runs =
    -- "it takes d + w"
    (1, 0, assign 1 0 (const 5) ∷ [], 0, end_answer 2 5)
    ∷ (2, 0, assign 1 0 (const 5) ∷ [], 0, end_answer 3 5)
    ∷ (3, 0, assign 1 0 (const 5) ∷ [], 0, end_answer 4 5)
    ∷ (8, 0, assign 1 0 (const 5) ∷ [], 0, end_answer 9 5)
    -- in a sequence twice 16 + w; a1[x0] := 7; x0 := a1[67], from 3: 1 + w and 4 + w
    ∷ (2, 0, seq (adds 3) (adds 4) ∷ [], 0, end_answer 36 7)
    ∷ (3, 0, seq (adds 3) (adds 4) ∷ [], 0, end_answer 38 7)
    ∷ (8, 0, seq (adds 3) (adds 4) ∷ [], 0, end_answer 48 7)
    ∷ (3, 0, seq (assign_elem 1 1 (var 0) (const 7)) (assign 4 0 (elem 1 (const 67))) ∷ [], 3, end_answer 11 7)
    -- beside a tick the larger
    ∷ (2, 0, par (assign 1 0 (const 5)) (tick 4) ∷ [], 0, end_answer 4 5)
    ∷ (8, 0, par (assign 1 0 (const 5)) (tick 4) ∷ [], 0, end_answer 9 5)
    -- nothing else takes longer
    ∷ (8, 0, ok ∷ [], 0, end_answer 0 0)
    ∷ (8, 0, seq (tick 3) (ite 0 (var 0) (tick 1) (tick 9)) ∷ [], 0, end_answer 12 0)
    -- a while, from 3: four tests and three rounds
    ∷ (2, 0, while 3 (var 0) down ∷ [], 3, end_answer 69 0)
    ∷ (3, 0, while 4 (var 0) down ∷ [], 3, end_answer 76 0)
    ∷ (8, 0, while 9 (var 0) down ∷ [], 3, end_answer 111 0)
    -- a repeat, from 3: three rounds
    ∷ (2, 0, repeat 6 is_nought down ∷ [], 3, end_answer 75 0)
    ∷ (8, 0, repeat 9 is_nought down ∷ [], 3, end_answer 102 0)
    -- a loop: two rounds of 16 + w + 6 and the delay, and 16 + w + 6
    ∷ (2, 0, loop 3 (seq (adds 1) (exit_at 3)) ∷ [], 0, end_answer 78 3)
    ∷ (8, 0, loop 9 (seq (adds 1) (exit_at 3)) ∷ [], 0, end_answer 108 3)
    -- two calls: the delay and 16 + w
    ∷ (2, 1, adds 1 ∷ seq (call 3 0) (call 3 0) ∷ [], 0, end_answer 42 2)
    ∷ (3, 1, adds 1 ∷ seq (call 4 0) (call 4 0) ∷ [], 0, end_answer 46 2)
    ∷ (8, 1, adds 1 ∷ seq (call 9 0) (call 9 0) ∷ [], 0, end_answer 66 2)
    ∷ (1, 1, ok ∷ all_kinds ∷ [], 0, end_answer 120 0)
    ∷ (2, 1, ok ∷ all_kinds ∷ [], 0, end_answer 123 0)
    ∷ (3, 1, ok ∷ all_kinds ∷ [], 0, end_answer 126 0)
    ∷ (8, 1, ok ∷ all_kinds ∷ [], 0, end_answer 143 0)
    ∷ []

runs-right : map (λ r. reference_call (given r.1 r.0) (bytes_of r.2) (start r.3) 150) runs ≡ map (λ r. r.4) runs
unfolding runs preorders check_of_program bit operate element_word owner eval put over kept after wait chain both caught whiles repeats loops run listed reference_answer answering reference_call
runs-right = refl

-- the pulse length, a statement, and at which instants a finish is due, from words that are 0: "rises once, at the program's end, and stays up w instants,
-- at each of which a finish is due"
dues : List (ℕ × Stmt × String)
dues =
    (1, assign 1 0 (const 5), "0010000")
    ∷ (2, assign 1 0 (const 5), "0001100")
    ∷ (3, assign 1 0 (const 5), "000011100")
    ∷ (8, assign 1 0 (const 5), "00000000011111111000")
    ∷ (1, ok, "1000")
    ∷ (3, ok, "11100")
    ∷ (8, tick 2, "0011111111000")
    ∷ (2, par (tick 1) (tick 3), "0001100")
    ∷ (3, while 4 (var 0) ok, "000011100")
    ∷ (2, loop 3 (seq (tick 1) exit), "0110000")
    -- no end
    ∷ (3, loop 4 (tick 1), "0000000000")
    ∷ []

dues-right : map (λ r. sampled (λ t. bit (due (imperative r.0) r.0 r.1 (word_at []) t)) r.2) dues ≡ map (λ r. trace r.2) dues
unfolding dues bit get16 eval put over kept after wait chain both caught whiles repeats loops run shows_at due
dues-right = refl

-- The answers ----------------------------------------------------------------------------------------------------------------------------

-- the pulse length, a statement, and, from a beginning at instant 0 and words that are 0, what is asked for and what the answer tells
answers : List (ℕ × Stmt × List (Request × Seen))
answers =
    -- due at 2 alone; a start right after the end, though the finish is high
    (1, assign 1 0 (const 5), (continuing 9, seen Ended 2 2) ∷ (pulse, seen Open 3 1) ∷ (continuing 9, seen Ended 5 2) ∷ [])
    ∷ (1, ok, (pulse, seen Ended 1 1) ∷ (pulse, seen Ended 2 1) ∷ (continuing 9, seen Open 11 9) ∷ [])
    -- due at 0, 1 and 2, and from the start at 8 on; a continuing stops at each of them, and no start is given at any of them
    ∷ (
      3,
      ok,
      (pulse, refused_seen 23)
          ∷ (continuing 5, seen Ended 1 1)
          ∷ (pulse, refused_seen 23)
          ∷ (continuing 5, seen Ended 2 1)
          ∷ (pulse, refused_seen 23)
          ∷ (continuing 5, seen Open 7 5)
          ∷ (pulse, seen Ended 8 1)
          ∷ (continuing 0, seen Ended 8 0)
          ∷ (continuing 1, seen Ended 9 1)
          ∷ (continuing 9, seen Ended 10 1)
          ∷ (continuing 9, seen Open 19 9)
          ∷ [],
    )
    -- due at 4, 5 and 6; then, started at 8, at 12
    ∷ (
      3,
      assign 1 0 (const 5),
      (pulse, refused_seen 23)
          ∷ (continuing 9, seen Ended 4 4)
          ∷ (pulse, refused_seen 23)
          ∷ (continuing 9, seen Ended 5 1)
          ∷ (continuing 9, seen Ended 6 1)
          ∷ (pulse, refused_seen 23)
          ∷ (continuing 1, seen Open 7 1)
          ∷ (pulse, seen Open 8 1)
          ∷ (continuing 9, seen Ended 12 4)
          ∷ [],
    )
    -- due from 9 to 16
    ∷ (
      8,
      assign 1 0 (const 5),
      (continuing 8, seen Open 8 8)
          ∷ (continuing 9, seen Ended 9 1)
          ∷ (continuing 9, seen Ended 10 1)
          ∷ (continuing 9, seen Ended 11 1)
          ∷ (pulse, refused_seen 23)
          ∷ [],
    )
    -- no end, and no start
    ∷ (2, loop 3 ok, (continuing 20, seen Open 20 20) ∷ (pulse, refused_seen 23) ∷ [])
    ∷ []

abbrev asked : List (Request × Seen) → List Call
asked rs = map (λ r. record { request = r.0; lent = 0 }) rs

answers-right :
    map (λ r. expected r.0 (record { within = λ σ k. run (imperative r.0) k r.1 σ; anew = λ σ. σ }) 0 (stand 0 (word_at []) 0) (asked r.2)) answers
    ≡ map (λ r. map (λ c. c.1) r.2) answers
unfolding answers eval put over kept after wait chain both caught whiles repeats loops run shows_at due_at stops_at after_continuing pulsed after_start after_request next expected
answers-right = refl
