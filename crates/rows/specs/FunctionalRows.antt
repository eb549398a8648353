-- Programs with what a reference run for functional circuits answers, with refusal 28, and with their functional netlists, worked out by hand from the paper
-- and from the wiring. Circuit and promises go by the same rules and the same wiring, and so leave them free.
-- Assumes nothing.
use Rattle.std.specs.Prelude.{◌≡◌, refl, List, [], ◌∷◌, ◌++◌, map, ℕ, drop, take, replicate}
use Rattle.model.specs.declared.Answer.{Answer}
use Rattle.model.specs.declared.Cell.{Cell}
use Rattle.model.specs.Word.{bit, operate}
use Rattle.model.specs.Refusals.{refuse, first_fault, Checked, Accepted}
use Rattle.model.specs.Program.{const, var, op, elem, Code, Stmt, ok, tick, assign, assign_elem, seq, par, ite, while, repeat, loop, exit, call, node_bytes, preorder, writes}
use Rattle.model.specs.ProgramChecks.{added, added_fault, check_functional}
use Rattle.model.specs.Rules.{owner, eval, put, over, kept, after, wait, chain, both, caught, whiles, repeats, loops, run}
use Rattle.model.specs.Circuit.{cell}
use Rattle.model.specs.Numbering.{expr_count, expr_wire, expr_cells, if_delay_count, if_delay_cells, if_pulse}
use Rattle.model.specs.NetlistFile.{carries, last_fault, last_check}
use Rattle.model.specs.Functional.{rows, rows_of, among, choices, count, finish_wire, outs, walk, idle_arrays, netlist_of, finish_of}
use Rattle.model.specs.TimeTables.{built_in, beside, load, verdict_of, times_of, defaults}
use Rattle.model.specs.Calls.{listed, reference_answer, answering}
use Rattle.model.specs.FunctionalCalls.{check_functional_call, reference_functional_call}
use Rattle.model.specs.ProgramPromises.{open_answer}
use Rattle.model.specs.Cases.{check_of_program, start, end_answer}

-- Times ------------------------------------------------------------------------------------------------------------------------------------

-- x0 := x0 + 1, which takes 16: "An assignment takes d."
abbrev up : Code
up = assign 16 0 (op 4 (var 0) (const 1))

-- a program, the start word of x0, and what a run of budget 200 answers; `endAnswer t v` is an end at t with x0 = v
functional_runs : List (Code × ℕ × Answer)
functional_runs =
    (ok, 7, end_answer 0 7)
    ∷ (tick 3, 7, end_answer 3 7)
    ∷ (assign 1 0 (const 5), 7, end_answer 1 5)
    ∷ (seq up up, 7, end_answer 32 9)
    -- the larger of 16 and 20
    ∷ (par up (tick 20), 7, end_answer 20 8)
    ∷ (ite 0 (var 0) (assign 1 0 (const 5)) (tick 9), 7, end_answer 1 5)
    -- "in while before each test's delay": a test takes 1 + 1 if it is the last, and with x0 = 2 there are three of 1 + 6 and two rounds of 17
    ∷ (while 1 (const 0) ok, 7, end_answer 2 7)
    ∷ (while 6 (var 0) (assign 17 0 (op 5 (var 0) (const 1))), 2, end_answer 55 0)
    -- "in repeat before each run of P": 1 + 0 + 1, and with x0 = 3 three rounds of 1 + 17 + 6
    ∷ (repeat 1 (const 1) ok, 7, end_answer 2 7)
    ∷ (repeat 6 (op 8 (var 0) (const 0)) (assign 17 0 (op 5 (var 0) (const 1))), 3, end_answer 72 0)
    -- a test of 1 + 1 that never fails
    ∷ (while 1 (const 1) ok, 7, open_answer 200)
    ∷ []

functional-runs-right : map (λ r. reference_functional_call defaults (node_bytes (preorder r.0)) (start r.1) 200) functional_runs ≡ map (λ r. r.2) functional_runs
unfolding functional_runs check_of_program added added_fault check_functional bit operate owner eval put over kept after wait chain both caught whiles repeats loops run listed reference_answer answering reference_functional_call
functional-runs-right = refl

-- Refusal 28 -------------------------------------------------------------------------------------------------------------------------------

-- a program, and what its check for a functional circuit says
functional_checks_of : List (Code × Checked)
functional_checks_of =
    (seq up up, Accepted)
    -- an element, its assignment, a loop, an exit, a call, each at its node
    ∷ (assign 4 0 (elem 0 (const 0)), refuse 28 1)
    ∷ (seq ok (assign_elem 1 0 (const 0) (const 0)), refuse 28 2)
    ∷ (loop 1 ok, refuse 28 0)
    -- before 22, 24, 7 and 8
    ∷ (seq ok exit, refuse 28 2)
    ∷ (seq ok (call 1 0), refuse 28 2)
    ∷ (seq (tick 0) (loop 1 ok), refuse 28 2)
    ∷ (par up (seq up exit), refuse 28 10)
    -- after 3 and 4
    ∷ (seq exit (assign 1 16 (const 0)), refuse 4 2)
    -- the others in their order
    ∷ (seq (tick 0) ok, refuse 7 1)
    ∷ (par up up, refuse 8 0)
    ∷ []

functional-checks-right : map (λ r. check_functional defaults (node_bytes (preorder r.0))) functional_checks_of ≡ map (λ r. r.1) functional_checks_of
unfolding functional_checks_of check_of_program added added_fault check_functional
functional-checks-right = refl

-- "a table alone": a number of procedures or a pulse length beside it that other calls refuse (1, 27) is not looked at
given-alone : check_functional_call (load (beside built_in 9 0)) (node_bytes (preorder (seq up up))) ≡ Accepted
unfolding check_of_program added added_fault check_functional check_functional_call load verdict_of times_of
given-alone = refl

-- Netlists ---------------------------------------------------------------------------------------------------------------------------------

-- the last sixteen cells: those with numbers ws, then the memories from x on
abbrev last : List ℕ → ℕ → List Cell
last ws x = map (λ w. cell 7 0 w 2) (ws ++ drop x (3 ∷ 4 ∷ 5 ∷ 6 ∷ 7 ∷ 8 ∷ 9 ∷ 10 ∷ 11 ∷ 12 ∷ 13 ∷ 14 ∷ 15 ∷ 16 ∷ 17 ∷ 18 ∷ []))

abbrev less : Stmt
less = assign 17 0 (op 5 (var 0) (const 1))

-- a program, its cells from number 27 on, which is behind head, memories and arrays, and its finish
functional_nets : List (Stmt × List Cell × ℕ)
functional_nets =
    (ok, last [] 0, 0)
    ∷ (tick 3, cell 34 3 0 0 ∷ last [] 0, 27)
    ∷ (
      seq (assign 16 0 (op 4 (var 0) (const 1))) (assign 16 1 (op 4 (var 0) (const 1))),
      cell 1 0 1 0 ∷ cell 4 0 3 27 ∷ cell 34 16 0 0
          ∷ cell 1 0 1 0 ∷ cell 4 0 28 30 ∷ cell 34 16 29 0
          ∷ last (28 ∷ 31 ∷ []) 2,
      32,
    )
    ∷ (
      par (assign 16 0 (op 4 (var 0) (const 1))) (assign 1 1 (const 2)),
      cell 1 0 1 0 ∷ cell 4 0 3 27 ∷ cell 34 16 0 0
          ∷ cell 1 0 2 0 ∷ cell 34 1 0 0
          ∷ cell 38 0 29 31
          ∷ last (28 ∷ 30 ∷ []) 2,
      32,
    )
    -- an if: the delay, its two pulses, both branches, the finish, three cells of masks, and the selection of x0
    ∷ (
      ite 6 (var 1) (assign 1 0 (const 5)) (tick 9),
      cell 34 6 0 0 ∷ cell 36 0 27 4 ∷ cell 37 0 27 4
          ∷ cell 1 0 5 0 ∷ cell 34 1 28 0
          ∷ cell 34 9 29 0
          ∷ cell 35 0 31 32
          ∷ cell 8 0 4 2 ∷ cell 5 0 2 34 ∷ cell 3 0 35 0
          ∷ cell 6 0 30 36 ∷ cell 6 0 3 35 ∷ cell 7 0 37 38
          ∷ last (39 ∷ []) 1,
      33,
    )
    -- a while: the latch of x0, the delays, its two pulses, the body, the load pulse, and what is loaded
    ∷ (
      while 6 (var 0) less,
      cell 45 0 35 38 ∷ cell 34 1 35 0 ∷ cell 34 6 28 0 ∷ cell 36 0 29 27 ∷ cell 37 0 29 27
          ∷ cell 1 0 1 0 ∷ cell 5 0 27 32 ∷ cell 34 17 30 0
          ∷ cell 35 0 0 34
          ∷ cell 41 0 0 3 ∷ cell 41 0 34 33 ∷ cell 7 0 36 37
          ∷ last (27 ∷ []) 1,
      31,
    )
    -- a repeat: the latch of x0, the delay, the body, the delay, the expression over what the body hands on, its two pulses, the load pulse, and what is loaded
    ∷ (
      repeat 6 (op 8 (var 0) (const 0)) less,
      cell 45 0 37 40 ∷ cell 34 1 37 0
          ∷ cell 1 0 1 0 ∷ cell 5 0 27 29 ∷ cell 34 17 28 0
          ∷ cell 34 6 31 0 ∷ cell 1 0 0 0 ∷ cell 8 0 30 33 ∷ cell 36 0 32 34 ∷ cell 37 0 32 34
          ∷ cell 35 0 0 36
          ∷ cell 41 0 0 3 ∷ cell 41 0 36 30 ∷ cell 7 0 38 39
          ∷ last (30 ∷ []) 1,
      35,
    )
    ∷ []

functional-nets-right :
    (map (λ r. drop 27 (netlist_of r.0)) functional_nets ≡ map (λ r. r.1) functional_nets)
    × (map (λ r. finish_of r.0) functional_nets ≡ map (λ r. r.2) functional_nets)
unfolding functional_nets expr_count expr_wire expr_cells if_delay_count if_delay_cells if_pulse rows rows_of among choices count finish_wire outs walk idle_arrays netlist_of finish_of writes
functional-nets-right = (refl, refl)

-- "Memories keep the start words", and arrays stand with no clock
front-right :
    take 27 (netlist_of ok)
    ≡ cell 32 0 0 0 ∷ cell 33 0 0 0 ∷ cell 1 0 0 0
    ∷ (replicate 16 (cell 40 0 1 2)
    ++ (cell 42 0 1 2 ∷ cell 43 0 2 0 ∷ cell 42 1 1 2 ∷ cell 43 0 2 0 ∷ cell 42 2 1 2 ∷ cell 43 0 2 0 ∷ cell 42 3 1 2 ∷ cell 43 0 2 0 ∷ []))
unfolding rows count outs walk idle_arrays netlist_of
front-right = refl

-- Refusal 12 in a functional run ---------------------------------------------------------------------------------------------------------

-- cells, of which fewer than sixteen are all last ones, and what the rule of the last sixteen says
lasts : List (List Cell × Checked)
lasts =
    (drop 27 (netlist_of ok), Accepted)
    ∷ (cell 34 1 0 0 ∷ last [] 0, Accepted)
    -- another kind, another b, and the first of two
    ∷ (cell 34 1 0 0 ∷ cell 6 0 3 2 ∷ last [] 1, refuse 12 1)
    ∷ (last [] 1 ++ (cell 7 0 3 4 ∷ []), refuse 12 15)
    ∷ (cell 7 0 3 4 ∷ last [] 2 ++ (cell 6 0 3 2 ∷ []), refuse 12 0)
    ∷ []

lasts-right : map (λ r. last_check r.0) lasts ≡ map (λ r. r.1) lasts
unfolding lasts rows count outs walk idle_arrays netlist_of first_fault carries last_fault last_check
lasts-right = refl
