-- Programs with loops, with what a reference run of budget 100 from words that are 0 answers, worked out by hand from the paper. Circuit and
-- promises go by the same rules, and so leave them free.
-- Assumes nothing.
use Rattle.std.specs.Prelude.{◌≡◌, refl, List, [], ◌∷◌, map, ℕ}
use Rattle.model.specs.declared.Answer.{Answer}
use Rattle.model.specs.Word.{bit, operate}
use Rattle.model.specs.Program.{const, var, op, Code, ok, tick, assign, seq, par, ite, while, repeat, loop, exit, node_bytes, preorder}
use Rattle.model.specs.Rules.{owner, eval, put, over, kept, after, wait, chain, both, caught, whiles, repeats, loops, run}
use Rattle.model.specs.TimeTables.{defaults}
use Rattle.model.specs.Calls.{listed, reference_answer, answering, reference_call}
use Rattle.model.specs.ProgramPromises.{open_answer}
use Rattle.model.specs.Cases.{check_of_program, start, end_answer}

-- x0 := x0 + 1, which takes 17, and if x0 = n then exit else P, which takes 6 and then P
abbrev count : Code
count = assign 16 0 (op 4 (var 0) (const 1))

abbrev exit_at : ℕ → Code → Code
exit_at n P = ite 6 (op 8 (var 0) (const n)) exit P

-- a program, and what is answered; `endAnswer t v` is an end at t with x0 = v
loop_runs : List (Code × Answer)
loop_runs =
    -- an exit takes no time, and the delay for going round is not spent on it
    (loop 1 exit, end_answer 0 0)
    ∷ (loop 5 (seq (tick 2) exit), end_answer 2 0)
    -- two rounds of 17 + 6 + 4, and a third that is left after 17 + 6
    ∷ (loop 4 (seq count (exit_at 3 ok)), end_answer 77 3)
    -- three of 6 + 17 + 1, and 6
    ∷ (loop 1 (exit_at 3 count), end_answer 78 3)
    -- nothing after the exit runs in the loop, and what comes after the loop does
    ∷ (loop 1 (seq exit count), end_answer 0 0)
    ∷ (seq (loop 1 exit) count, end_answer 17 1)
    -- out of a while, with its tests: two rounds of 1 + 6 + 17, and 1 + 6; out of a repeat: two of 6 + 17 + 2, and 6
    ∷ (loop 9 (while 1 (const 1) (exit_at 2 count)), end_answer 55 2)
    ∷ (loop 9 (repeat 2 (const 0) (exit_at 2 count)), end_answer 56 2)
    ∷ (loop 9 (while 3 (const 1) (repeat 2 (const 1) (seq exit (tick 9)))), end_answer 3 0)
    -- a while that ends does not end the loop: a round of 1 + 17 + 6 + 9, and one that is left after 1 + 17 + 6
    ∷ (loop 9 (seq (while 1 (const 0) exit) (seq count (exit_at 2 ok))), end_answer 57 2)
    -- out of the innermost loop only
    ∷ (loop 1 (seq (loop 1 (seq (tick 2) exit)) (seq (tick 3) exit)), end_answer 5 0)
    ∷ (loop 1 (loop 1 exit), open_answer 100)
    -- loops on the sides of a parallel
    ∷ (par (loop 2 (seq (tick 3) exit)) (tick 5), end_answer 5 0)
    ∷ (par (loop 4 (seq count (exit_at 3 ok))) (loop 1 exit), end_answer 77 3)
    ∷ (par (loop 1 (tick 3)) (tick 5), open_answer 100)
    -- a loop without exits has no end, nor one that comes to none
    ∷ (loop 1 ok, open_answer 100)
    ∷ (loop 1 (ite 0 (var 0) exit ok), open_answer 100)
    ∷ (loop 1 (tick 3), open_answer 100)
    ∷ []

loop-runs-right : map (λ r. reference_call defaults (node_bytes (preorder r.0)) (start 0) 100) loop_runs ≡ map (λ r. r.1) loop_runs
unfolding loop_runs check_of_program bit operate owner eval put over kept after wait chain both caught whiles repeats loops run listed reference_answer answering reference_call
loop-runs-right = refl
