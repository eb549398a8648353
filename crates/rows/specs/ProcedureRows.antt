-- Programs with procedures, with what is said of them and what a reference run from words that are 0 answers, worked out by hand from the paper; and
-- what a call's merge does, instant by instant.
-- Assumes nothing.
use Rattle.std.specs.Prelude.{◌≡◌, refl, Bool, true, false, List, [], ◌∷◌, map, ℕ, get_or, replicate, set}
use Rattle.model.specs.declared.Answer.{Answer}
use Rattle.model.specs.declared.Format.TheVariants.{Full}
use Rattle.model.specs.declared.Options.{Options}
use Rattle.model.specs.Word.{bit, operate}
use Rattle.model.specs.Refusals.{refuse, Checked, Accepted}
use Rattle.model.specs.Program.{const, var, op, Code, ok, tick, assign, seq, par, ite, while, loop, exit, call, node_bytes, preorders}
use Rattle.model.specs.Rules.{owner, eval, put, over, kept, after, wait, chain, both, caught, whiles, repeats, loops, run}
use Rattle.model.specs.Circuit.{cell, Sig, short_return, return_step, merged_before, merged}
use Rattle.model.specs.State.{sound}
use Rattle.model.specs.TimeTables.{built_in, beside, load}
use Rattle.model.specs.Calls.{check_call, listed, reference_answer, answering, reference_call}
use Rattle.model.specs.ProgramPromises.{open_answer}
use Rattle.model.specs.Cases.{raw, repeated, check_of_program, start, end_answer}
use Rattle.rows.specs.StateRows.{brief, course_of}

-- k procedures given, and the roots' bytes
abbrev counted : ℕ → Options
counted k = load (beside built_in k 1)

abbrev bytes_of : List Code → List ℕ
bytes_of Ps = node_bytes (preorders Ps)

-- x := n with d 1, and x := y
abbrev gets : ℕ → ℕ → Code
gets x n = assign 1 x (const n)

abbrev copies : ℕ → ℕ → Code
copies x y = assign 1 x (var y)

-- The check ------------------------------------------------------------------------------------------------------------------------------

-- the number of procedures, the roots, and what is said of them
programs : List (ℕ × List Code × Checked)
programs =
    (0, ok ∷ [], Accepted)
    ∷ (1, ok ∷ call 1 0 ∷ [], Accepted)
    ∷ (8, ok ∷ ok ∷ ok ∷ ok ∷ ok ∷ ok ∷ ok ∷ ok ∷ call 1 7 ∷ [], Accepted)
    -- 1: above eight
    ∷ (9, ok ∷ ok ∷ ok ∷ ok ∷ ok ∷ ok ∷ ok ∷ ok ∷ ok ∷ call 1 7 ∷ [], refuse 1 0)
    ∷ (9, ok ∷ [], refuse 1 0)
    -- 6: as many statements as procedures and one more; too few: the node count, too many: the first that is left
    ∷ (1, ok ∷ [], refuse 6 1)
    ∷ (2, seq ok ok ∷ ok ∷ [], refuse 6 4)
    ∷ (1, ok ∷ ok ∷ tick 1 ∷ [], refuse 6 2)
    -- 22: an exit stays within its body
    ∷ (1, exit ∷ loop 1 (call 1 0) ∷ [], refuse 22 0)
    ∷ (2, ok ∷ tick 1 ∷ seq ok exit ∷ [], refuse 22 4)
    ∷ (1, loop 1 exit ∷ loop 1 (seq (call 1 0) exit) ∷ [], Accepted)
    -- 24: itself, a later one, one that is absent; in bodies that are never called, too
    ∷ (1, call 1 0 ∷ ok ∷ [], refuse 24 0)
    ∷ (2, seq ok (call 1 1) ∷ ok ∷ call 1 0 ∷ [], refuse 24 2)
    ∷ (2, ok ∷ call 1 0 ∷ call 1 1 ∷ [], Accepted)
    ∷ (2, ok ∷ call 1 1 ∷ call 1 1 ∷ [], refuse 24 1)
    ∷ (1, ok ∷ seq (call 1 0) (call 1 1) ∷ [], refuse 24 3)
    ∷ (1, ok ∷ call 1 65535 ∷ [], refuse 24 1)
    -- after every 22, before every 7
    ∷ (1, call 1 0 ∷ exit ∷ [], refuse 22 1)
    ∷ (1, tick 0 ∷ call 1 1 ∷ [], refuse 24 1)
    -- 7: a call's delay is at least 1
    ∷ (1, ok ∷ call 0 0 ∷ [], refuse 7 1)
    -- 25: one procedure reached from both sides, also through calls and in a body that is never called
    ∷ (1, ok ∷ par (call 1 0) (call 2 0) ∷ [], refuse 25 1)
    ∷ (2, ok ∷ call 1 0 ∷ par (call 1 0) (call 2 1) ∷ [], refuse 25 2)
    ∷ (3, ok ∷ call 1 0 ∷ call 1 0 ∷ par (call 1 1) (call 1 2) ∷ [], refuse 25 3)
    ∷ (2, ok ∷ par (call 1 0) (seq ok (call 1 0)) ∷ ok ∷ [], refuse 25 1)
    ∷ (1, ok ∷ par (ite 1 (var 0) ok (call 1 0)) (call 2 0) ∷ [], refuse 25 1)
    ∷ (1, ok ∷ par (call 2 0) (ite 1 (var 0) (call 1 0) ok) ∷ [], refuse 25 1)
    ∷ (2, ok ∷ ok ∷ par (call 1 0) (call 2 1) ∷ [], Accepted)
    ∷ (1, ok ∷ seq (call 1 0) (par (call 1 0) ok) ∷ [], Accepted)
    -- the first such node; every 7 before it, and it before every 8
    ∷ (1, ok ∷ par (tick 1) (par (call 1 0) (call 1 0)) ∷ [], refuse 25 3)
    ∷ (1, ok ∷ seq (par (call 1 0) (call 1 0)) (tick 0) ∷ [], refuse 7 5)
    ∷ (1, ok ∷ seq (par (gets 0 1) (gets 0 2)) (par (call 1 0) (call 1 0)) ∷ [], refuse 25 7)
    -- 8 looks through calls
    ∷ (1, gets 3 1 ∷ par (call 1 0) (copies 2 3) ∷ [], refuse 8 2)
    ∷ (1, copies 2 3 ∷ par (gets 3 1) (call 1 0) ∷ [], refuse 8 2)
    ∷ (2, gets 3 1 ∷ copies 2 3 ∷ par (call 1 0) (call 1 1) ∷ [], refuse 8 4)
    ∷ (3, gets 3 1 ∷ seq (call 1 0) (tick 1) ∷ copies 2 3 ∷ par (call 1 1) (call 1 2) ∷ [], refuse 8 7)
    ∷ (2, gets 3 1 ∷ par (call 1 0) (gets 3 2) ∷ ok ∷ [], refuse 8 2)
    ∷ (2, gets 3 1 ∷ copies 2 4 ∷ par (call 1 0) (call 1 1) ∷ [], Accepted)
    ∷ []

programs-right : map (λ r. check_call (counted r.0) (bytes_of r.1)) programs ≡ map (λ r. r.2) programs
unfolding programs preorders check_of_program
programs-right = refl

-- 200 nodes, bodies among them, pass; and 201 are 1
most-right : (check_call (counted 8) (repeated 208 (raw 16 0 0)) ≡ refuse 1 0) × (check_call (counted 8) (repeated 9 (raw 16 0 0)) ≡ Accepted)
unfolding check_of_program
most-right = (refl, refl)

-- The rules --------------------------------------------------------------------------------------------------------------------------------

-- x0 := x0 + 1, which takes 17
abbrev count : Code
count = assign 16 0 (op 4 (var 0) (const 1))

-- the number of procedures, the roots, and what is answered with a budget of 100; `endAnswer t v` is an end at t with x0 = v
runs : List (ℕ × List Code × Answer)
runs =
    -- the delay, then the body
    (1, ok ∷ call 3 0 ∷ [], end_answer 3 0)
    ∷ (1, count ∷ call 3 0 ∷ [], end_answer 20 1)
    -- two callers: 3 + 17 + 5 + 17
    ∷ (1, count ∷ seq (call 3 0) (call 5 0) ∷ [], end_answer 42 2)
    -- a body that calls, and one that is never called: 2 + (3 + 17 + 1 + 17) + 4
    ∷ (3, count ∷ tick 9 ∷ seq (call 3 0) (call 1 0) ∷ seq (call 2 2) (tick 4) ∷ [], end_answer 44 2)
    -- in a while, as long as x0 isn't 2: twice a test of 17 and then 2 + 17, and a test; with 3 it takes 125
    ∷ (1, count ∷ while 17 (op 5 (var 0) (const 3)) (call 2 0) ∷ [], open_answer 100)
    ∷ (1, count ∷ while 17 (op 5 (var 0) (const 2)) (call 2 0) ∷ [], end_answer 89 2)
    -- in a loop that is left, and a body that is one: its exit ends its own loop only; 1 + 2, and then the exit
    ∷ (1, loop 5 (seq (tick 2) exit) ∷ loop 9 (seq (call 1 0) exit) ∷ [], end_answer 3 0)
    -- beside another: the larger of 3 + 17 and 25
    ∷ (1, count ∷ par (call 3 0) (tick 25) ∷ [], end_answer 25 1)
    ∷ []

runs-right : map (λ r. reference_call (counted r.0) (bytes_of r.1) (start 0) 100) runs ≡ map (λ r. r.2) runs
unfolding runs preorders check_of_program bit operate owner eval put over kept after wait chain both caught whiles repeats loops run listed reference_answer answering reference_call
runs-right = refl

-- The call's merge -------------------------------------------------------------------------------------------------------------------------

-- a, b, and the output at each instant: a lone b is forgotten, b may come with a or later, and what is held is cleared
instants : List (Bool × Bool × Bool)
instants =
    (false, true, false)
    ∷ (true, false, false)
    ∷ (false, false, false)
    ∷ (false, true, true)
    ∷ (false, true, false)
    ∷ (true, true, true)
    ∷ (false, true, false)
    ∷ (true, false, false)
    ∷ (true, false, false)
    ∷ (false, true, true)
    ∷ (false, true, false)
    ∷ []

abbrev first : Sig
first t = get_or (map (λ r. r.0) instants) t false

abbrev second : Sig
second t = get_or (map (λ r. r.1) instants) t false

abbrev numbers : List ℕ
numbers = 0 ∷ 1 ∷ 2 ∷ 3 ∷ 4 ∷ 5 ∷ 6 ∷ 7 ∷ 8 ∷ 9 ∷ 10 ∷ []

instants-right : map (merged (return_step true) first second) numbers ≡ map (λ r. r.2) instants
unfolding instants short_return return_step merged_before merged
instants-right = refl

-- 15: a 39 holds a, which is in flight, and no b. Of start and a 39: a byte of the state, a value, the number, and whether it is good
bytes : List (ℕ × ℕ × ℕ × Bool)
bytes =
    (52, 1, 1, true)
    ∷ (52, 1, 0, false)
    ∷ (52, 2, 1, false)
    ∷ (53, 1, 1, false)
    ∷ (53, 1, 0, false)
    ∷ (53, 0, 0, true)
    ∷ []

bytes-right :
    map (λ r. sound Full (brief (cell 32 0 0 0 ∷ (cell 39 0 0 0 ∷ []))) (set (set (replicate 600 0) 4 r.2) r.0 r.1)) bytes ≡ map (λ r. r.3) bytes
unfolding bytes course_of
bytes-right = refl
