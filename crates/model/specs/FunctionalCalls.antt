-- The calls of functional circuits: compiling, and runs on their netlists. "a functional run's answer shows them": a functional run is a mode of its own, with
-- the rule of the last sixteen cells after all other rules of refusal 12; in all else it is the run of model/Calls.
-- Assumes nothing: definitions.
use Rattle.std.specs.Prelude.{List, [], ◌∷◌, ℕ, length, Result, Ok, Err}
use Rattle.model.specs.declared.Refusal.{Refusal}
use Rattle.model.specs.declared.Options.{Options}
use Rattle.model.specs.declared.Written.{Written}
use Rattle.model.specs.declared.Answer.{Answer}
use Rattle.model.specs.declared.Format.{Format}
use Rattle.model.specs.declared.Format.TheVariants.{Full}
use Rattle.model.specs.Refusals.{first, Checked}
use Rattle.model.specs.Program.{Stmt, program_of}
use Rattle.model.specs.Procedures.{meaning}
use Rattle.model.specs.ProgramChecks.{check_functional}
use Rattle.model.specs.Rules.{functional, run}
use Rattle.model.specs.NetlistFile.{file_of, file_check, cells_of, net_of, last_check, last_words}
use Rattle.model.specs.Functional.{netlist_of, finish_of}
use Rattle.model.specs.State.{state_size, now_at}
use Rattle.model.specs.Calls.{Returned, ReturnedBoth, verdict, short, over_budget, writing, word_at, refused_answer, running, full_state, full_count, begin_call, continue_call, start_call, run_netlist_call, reference_answer, answering}

-- Programs -------------------------------------------------------------------------------------------------------------------------------
-- "without procedures"; "Pulse length is 1": of what is given beside a program the table alone is looked at.

-- checking: 19 to 21, 1 to 6, 28, 22, 24, 7, 25, 8
unfoldable pub check_functional_call : Options → List ℕ → Checked
check_functional_call options program = first (options.checked ∷ check_functional options program ∷ [])

-- the statement that is compiled, and its netlist's file
abbrev pub statement_of : List ℕ → Stmt
statement_of program = meaning (program_of 1 0 program)

abbrev pub functional_file : List ℕ → List ℕ
functional_file program = file_of 1 (netlist_of (statement_of program)) (finish_of (statement_of program))

-- compiling: 19 to 21, 1 to 6, 28, 22, 24, 7, 25, 8, 14
abbrev pub compile_functional_checks : Options → List ℕ → List ℕ → List Checked
compile_functional_checks options program lent =
    options.checked ∷ check_functional options program ∷ short (length lent) (length (functional_file program)) ∷ []

unfoldable pub compile_functional_call : Options → List ℕ → List ℕ → Returned (Result Written Refusal)
compile_functional_call options program lent =
    let file = functional_file program in
    writing (first (compile_functional_checks options program lent)) file (length file) (finish_of (statement_of program)) lent

-- a reference run, with the times of functional circuits: 19 to 21, 1 to 6, 28, 22, 24, 7, 25, 8, 13, 14
abbrev pub reference_functional_checks : Options → List ℕ → List ℕ → ℕ → List Checked
reference_functional_checks options program words n =
    options.checked ∷ check_functional options program ∷ over_budget n ∷ short (length words) 544 ∷ []

unfoldable pub reference_functional_call : Options → List ℕ → List ℕ → ℕ → Answer
reference_functional_call options program words n =
    answering (first (reference_functional_checks options program words n)) (reference_answer n (run functional n (statement_of program) (word_at words)))

-- Runs on a netlist --------------------------------------------------------------------------------------------------------------------

-- the answer of a run that was not refused, with the words of the last sixteen cells
unfoldable pub retold : Format → List ℕ → Checked → Returned Answer → Returned Answer
retold F file (Ok _) r =
    record {
      answer = record {
        outcome = r.answer.outcome;
        instant = r.answer.instant;
        count = r.answer.count;
        words = last_words (cells_of file) (now_at F r.lent) 0 16;
      };
      lent = r.lent;
    }
retold F file (Err q) r = r

-- refusals 9 to 12, and then the rule of the last sixteen cells
abbrev pub last_checks : List ℕ → List Checked
last_checks file = file_check file ∷ last_check (cells_of file) ∷ []

unfoldable pub in_mode : Format → List ℕ → Checked → List ℕ → Returned Answer → Returned Answer
in_mode F file (Ok _) lent r = retold F file (verdict r.answer.outcome) r
in_mode F file (Err q) lent r = record { answer = refused_answer q; lent = lent }

abbrev pub functionally : Format → List ℕ → List ℕ → Returned Answer → Returned Answer
functionally F file lent r = in_mode F file (first (last_checks file)) lent r

abbrev pub begin_functional_call : Format → List ℕ → List ℕ → List ℕ → Returned Answer
begin_functional_call F file words lent = functionally F file lent (begin_call F file words lent)

abbrev pub continue_functional_call : Format → List ℕ → ℕ → List ℕ → Returned Answer
continue_functional_call F file n lent = functionally F file lent (continue_call F file n lent)

abbrev pub start_functional_call : Format → List ℕ → List ℕ → Returned Answer
start_functional_call F file lent = functionally F file lent (start_call F file lent)

abbrev pub run_functional_call : List ℕ → List ℕ → ℕ → List ℕ → Returned Answer
run_functional_call file words n lent = functionally Full file lent (run_netlist_call file words n lent)

-- a full run of a program, with a list lent for its netlist and one for the state: 19 to 21, 1 to 6, 28, 22, 24, 7, 25, 8, 13, 14
abbrev pub run_functional_program_checks : Options → List ℕ → List ℕ → ℕ → List ℕ → List ℕ → List Checked
run_functional_program_checks options program words n for_file lent =
    let file = functional_file program in
    options.checked
    ∷ check_functional options program
    ∷ over_budget n
    ∷ short (length words) 544
    ∷ short (length for_file) (length file)
    ∷ short (length lent) (state_size Full (net_of file))
    ∷ []

unfoldable pub run_functional_program_call : Options → List ℕ → List ℕ → ℕ → List ℕ → List ℕ → ReturnedBoth
run_functional_program_call options program words n for_file lent =
    let file = functional_file program in
    let c = first (run_functional_program_checks options program words n for_file lent) in
    let r = retold Full file c (running Full c file (full_state file words n lent) (full_count file words n lent) lent) in
    record { answer = r.answer; netlist = (writing c file (length file) 0 for_file).lent; state = r.lent }
