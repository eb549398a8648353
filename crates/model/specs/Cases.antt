-- The paper's cases 1 to 12, but for the two runs that stay open, and rows of our own on arrays and on a call: rows of one table. The rows by the rules
-- alone are proved here, by computation; that every row holds on the circuit too is `cases-hold` in theory/Promises/Cases, through the theorem
-- that full run and rules agree, because a state of forty bytes for each cell is too long to be computed here. Assumes nothing.
use Rattle.std.specs.Prelude.{◌≡◌, refl, List, [], ◌∷◌, ◌++◌, map, ℕ, zero, suc, ◌+◌, ◌*◌, ◌/◌, ◌%◌, ◌≤◌, length, take, replicate, Err}
use Prim.Native.String.{String}
use Rattle.model.specs.declared.Outcome.{Outcome}
use Rattle.model.specs.declared.Outcome.TheVariants.{Ended}
use Rattle.model.specs.declared.Answer.{Answer}
use Rattle.model.specs.Word.{bit, operate, element_word, get16, bytes16}
use Rattle.model.specs.Refusals.{refuse, first_fault, Checked, Accepted, Done}
use Rattle.model.specs.Program.{program_of, node_at, nodes_from, node_bytes, row_of, as_expr, as_stmt, expr_of, stmt_of, tree_of, grow, forest, trees_at, expr_at, stmt_at, preorder_e, preorder, time, built_in_times, gap, least, reads, writes, touches}
use Rattle.model.specs.Procedures.{table, inline, inlined, meaning, reaches, reached}
use Rattle.model.specs.ProgramChecks.{program_length_wrong, too_many_procedures, unused_set, absent, node_fault, children, reading, searched, in_roots, delay_fault, shared, shares, shared_fault, conflict, conflicts, conflict_fault, check_of}
use Rattle.model.specs.Rules.{owner, eval, put, over, kept, after, wait, chain, both, whiles, repeats, run}
use Rattle.model.specs.Numbering.{netlist, finish}
use Rattle.model.specs.NetlistFile.{blocks_for, cells_of, pulse_wrong}
use Rattle.model.specs.TimeTables.{verdict_of, times_of, load, given_check, defaults}
use Rattle.model.specs.Calls.{written_verdict, check_call, compile_call, run_program_call, refused_answer, listed, reference_answer, answering, reference_call}
use Rattle.model.specs.Ascii.{ascii}
use Rattle.model.specs.Hubrun.{digits, line, lines_of, text_of, hubrun_text}
use Rattle.model.specs.Netlists.{numbering}

-- Programs -----------------------------------------------------------------------------------------------------------------------------

-- a node's four bytes; n below 256
abbrev pub raw : ℕ → ℕ → ℕ → List ℕ
raw k d n = k ∷ d ∷ n ∷ 0 ∷ []

-- so many times
unfoldable pub repeated : ℕ → List ℕ → List ℕ
repeated zero s = []
repeated (suc n) s = s ++ repeated n s

-- whoever unfolds this unfolds all that a program is checked by
unfoldable pub check_of_program : List ℕ → Checked
unfolding get16 first_fault node_at nodes_from row_of as_expr as_stmt expr_of stmt_of tree_of grow forest trees_at expr_at stmt_at time built_in_times gap least reads writes touches table inline inlined meaning reaches reached program_length_wrong too_many_procedures unused_set absent node_fault children reading searched in_roots delay_fault shared shares shared_fault conflict conflicts conflict_fault check_of program_of verdict_of times_of load pulse_wrong given_check check_call repeated node_bytes bytes16 preorder_e preorder
check_of_program s = check_call defaults s

-- x0 := x0 + n, and x0 := x0 − 1 with d 17
abbrev adding : ℕ → ℕ → List ℕ
adding d n = raw 18 d 0 ++ raw 4 0 0 ++ raw 2 0 0 ++ raw 1 0 n

abbrev down : List ℕ
down = raw 18 17 0 ++ raw 5 0 0 ++ raw 2 0 0 ++ raw 1 0 1

-- The table ----------------------------------------------------------------------------------------------------------------------------

pub data Case : Type 0 where
  -- the program, word 0 at the start, the budget, the end, word 0 at the end; the other words are 0
  ends : List ℕ → ℕ → ℕ → ℕ → ℕ → Case
  -- the program, the number of the refusal, its place
  refuses : List ℕ → ℕ → ℕ → Case
  -- the program, how many cells its netlist has, its finish cell
  compiles : List ℕ → ℕ → ℕ → Case
  -- the program, word 0 at the start, the budget below 65,536, and what hubrun prints of its run, which ends
  prints : List ℕ → ℕ → ℕ → String → Case
  -- the program passes the check
  passes : List ℕ → Case

unfoldable pub cases : List Case
cases =
    ends (raw 16 0 0) 0 10 0 0  -- 1
    ∷ ends (raw 18 1 0 ++ raw 1 0 5) 0 10 2 5  -- 2
    ∷ compiles (raw 18 1 0 ++ raw 1 0 5) 31 4
    ∷ prints (raw 18 1 0 ++ raw 1 0 5) 0 10 "end 2\n5 0 0 0 0 0 0 0 0 0 0 0 0 0 0 0\n"
    ∷ ends (raw 19 0 0 ++ adding 16 3 ++ adding 16 4) 0 100 34 7  -- 3
    ∷ refuses (raw 19 0 0 ++ adding 16 3 ++ adding 15 4) 7 5
    ∷ ends (raw 20 0 0 ++ raw 17 3 0 ++ raw 17 5 0) 0 100 5 0  -- 4
    ∷ ends (raw 20 0 0 ++ raw 16 0 0 ++ raw 16 0 0) 0 100 0 0  -- 5
    ∷ ends (raw 22 1 0 ++ raw 2 0 0 ++ down) 3 100 58 0  -- 6
    ∷ ends (raw 23 6 0 ++ raw 8 0 0 ++ raw 2 0 0 ++ raw 1 0 0 ++ down) 3 100 72 0  -- 7
    ∷ ends (raw 21 0 0 ++ raw 2 0 0 ++ raw 17 1 0 ++ raw 17 9 0) 0 100 9 0  -- 8
    ∷ ends (raw 21 0 0 ++ raw 2 0 0 ++ raw 17 1 0 ++ raw 17 9 0) 65535 100 1 65535
    ∷ ends (adding 16 1) 65535 100 17 0  -- 9
    ∷ refuses (raw 22 0 0 ++ raw 1 0 1 ++ raw 16 0 0) 7 0  -- 10
    ∷ refuses (raw 20 0 0 ++ raw 18 1 1 ++ raw 1 0 1 ++ raw 18 1 2 ++ raw 2 0 1) 8 0  -- 11
    ∷ ends (raw 22 1 0 ++ raw 2 0 0 ++ raw 20 0 0 ++ down ++ raw 17 2 0) 2 100 39 0  -- 12
    ∷ refuses [] 1 0
    ∷ refuses (repeated 201 (raw 16 0 0)) 1 0
    ∷ passes (repeated 99 (raw 19 0 0) ++ raw 18 1 0 ++ raw 1 0 0 ++ repeated 99 (raw 16 0 0))
    -- arrays: a1[x0] := 7; x0 := a1[67], from 3
    ∷ ends (raw 19 0 0 ++ raw 24 1 1 ++ raw 2 0 0 ++ raw 1 0 7 ++ raw 18 4 0 ++ raw 10 0 1 ++ raw 1 0 67) 3 100 7 7
    ∷ refuses (raw 24 1 4 ++ raw 1 0 0 ++ raw 1 0 0) 4 0  -- array 4
    ∷ refuses (raw 24 3 0 ++ raw 1 0 0 ++ raw 10 0 0 ++ raw 1 0 0) 7 0  -- a0[0] := a0[0], d 3
    ∷ refuses (raw 20 0 0 ++ raw 24 1 0 ++ raw 1 0 0 ++ raw 1 0 1 ++ raw 18 4 0 ++ raw 10 0 0 ++ raw 1 0 1) 8 0  -- a0[0] := 1 || x0 := a0[1]
    ∷ refuses (raw 27 1 0) 24 0  -- a call, where no procedures are given
    ∷ []

-- the sixteen start words with word 0 given, all 272, hubrun's input, and what a run that ends answers
abbrev pub sixteen : ℕ → List ℕ
sixteen v = v % 256 ∷ v / 256 ∷ replicate 30 0

abbrev pub start : ℕ → List ℕ
start v = sixteen v ++ replicate 512 0

abbrev pub hubrun_input : List ℕ → ℕ → ℕ → List ℕ
hubrun_input p v n = sixteen v ++ (n % 256 ∷ n / 256 ∷ 0 ∷ 0 ∷ p)

abbrev pub end_answer : ℕ → ℕ → Answer
end_answer t w = record { outcome = Ended; instant = t; count = t + 1; words = w ∷ replicate 15 0 }

-- what the program alone gives: its check, its rules, its numbering, its rules' answer as a text
pub data Result : Type 0 where
  ran : Checked → Answer → Result
  numbered : Checked → ℕ → ℕ → Result
  printed : Checked → Outcome → List ℕ → Result
  checked : Checked → Result

unfoldable pub computed : Case → Result
computed (ends p v n t w) = ran (check_call defaults p) (reference_call defaults p (start v) n)
computed (refuses p k i) = ran (check_call defaults p) (reference_call defaults p (start 0) 100)
computed (compiles p n f) = numbered (check_call defaults p) (length (netlist (program_of 1 0 p))) (finish (program_of 1 0 p))
computed (prints p v n text) =
    let a = reference_call defaults p (start v) n in
    printed (check_call defaults p) a.outcome (text_of a)
computed (passes p) = checked (check_call defaults p)

unfoldable pub wanted : Case → Result
wanted (ends p v n t w) = ran Accepted (end_answer t w)
wanted (refuses p k i) = ran (refuse k i) (refused_answer (record { number = k; place = i }))
wanted (compiles p n f) = numbered Accepted n f
wanted (prints p v n text) = printed Accepted Ended (ascii text)
wanted (passes p) = checked Accepted

-- what the calls that go through the circuit give, with whatever is lent; and hubrun, which has buffers of its own
unfoldable pub OnCircuit : Case → Type 0
OnCircuit (ends p v n t w) =
    (for_file for_state : List ℕ) → 6656 ≤ length for_file → 41480 ≤ length for_state
    → (run_program_call defaults p (start v) n for_file for_state).answer ≡ end_answer t w
OnCircuit (refuses p k i) =
    (lent : List ℕ) → compile_call defaults p lent ≡ record { answer = Err (record { number = k; place = i }); lent = lent }
OnCircuit (compiles p n f) =
    (lent : List ℕ) → 6656 ≤ length lent →
    let size = 512 * blocks_for n in
    let r = compile_call defaults p lent in
    (r.answer ≡ Done size f) × (length (cells_of (take size r.lent)) ≡ n)
OnCircuit (prints p v n text) = hubrun_text (hubrun_input p v n) ≡ ascii text
OnCircuit (passes p) = (lent : List ℕ) → 6656 ≤ length lent → written_verdict (compile_call defaults p lent).answer ≡ Accepted

-- that every row holds: `cases-hold`
unfoldable pub Hold : List Case → Type 0
Hold [] = Unit {0}
Hold (c ∷ cs) = (computed c ≡ wanted c) × OnCircuit c × Hold cs

pub cases-by-rules : map computed cases ≡ map wanted cases
unfolding cases computed wanted check_of_program numbering bit operate element_word owner eval put over kept after wait chain both whiles repeats run listed reference_answer answering reference_call digits line lines_of
cases-by-rules = refl
