-- The public calls: from the lists that are lent, as they are at entry, to the answer and to the lists at exit. Contracts cite these.
-- A refused call "changes no lent byte"; "Lent bytes past a result keep their values."
-- A call that checks a program takes what is given beside it, as it is loaded: 27, of its pulse length, and 19 to 21, of its table, come first. A call on
-- a netlist or a state goes by the pulse length that the file tells.
-- Assumes nothing: definitions.
use Rattle.std.specs.Prelude.{Bool, true, false, not, ◌&&◌, ◌||◌, List, [], ◌∷◌, ◌++◌, ℕ, zero, suc, ◌+◌, ◌*◌, ◌/◌, ◌%◌, ltb, length, drop, replicate, Result, Ok, Err}
use Rattle.model.specs.declared.Refusal.{Refusal}
use Rattle.model.specs.declared.Options.{Options}
use Rattle.model.specs.declared.Outcome.{Outcome}
use Rattle.model.specs.declared.Outcome.TheVariants.{Ended, Open}
use Rattle.model.specs.declared.Written.{Written}
use Rattle.model.specs.declared.Answer.{Answer}
use Rattle.model.specs.declared.Cell.{Cell}
use Rattle.model.specs.declared.Format.{Format}
use Rattle.model.specs.declared.Format.TheVariants.{Full, Compact}
use Rattle.model.specs.Word.{pick, get16}
use Rattle.model.specs.Refusals.{refuse_if, first, Checked, Accepted, Done}
use Rattle.model.specs.Procedures.{meaning}
use Rattle.model.specs.ProgramChecks.{program_with, check_of}
use Rattle.model.specs.Rules.{imperative, Store, Run, at_end, at_exit, done, still, run}
use Rattle.model.specs.Circuit.{high}
use Rattle.model.specs.Numbering.{netlist, finish}
use Rattle.model.specs.NetlistFile.{cell_bytes, cells_at, in_list, file_of, file_check, cells_of, net_of, count_of, finish_of, pulse_of, pulse_wrong, net_check, count_wrong, blocks_for}
use Rattle.model.specs.TimeTables.{given_check}
use Rattle.model.specs.State.{instant_of, flight_of, state_size, now_at, begin_state, step_state, Course, continued, words_in, sound}

-- Answers ------------------------------------------------------------------------------------------------------------------------------

-- an answer, and a lent list at exit
pub record Returned (A : Type 0) : Type 0 where
  pub answer : A
  pub lent : List ℕ

-- what an outcome, and an answer of a call that writes, says of refusals
unfoldable pub verdict : Outcome → Checked
verdict Ended = Accepted
verdict Open = Accepted
verdict (Outcome.Refused r) = Err r

unfoldable pub written_verdict : Result Written Refusal → Checked
written_verdict (Ok w) = Accepted
written_verdict (Err r) = Err r

-- "Lent bytes past a result keep their values."
abbrev pub overwrite : List ℕ → List ℕ → List ℕ
overwrite result lent = result ++ drop (length result) lent

-- "14. A lent buffer shorter than the result, the state or the start words need."
abbrev pub short : ℕ → ℕ → Checked
short has needs = refuse_if (ltb has needs) 14 0

-- Programs and netlist files -----------------------------------------------------------------------------------------------------------

-- checking: 27, 19 to 21, 1 to 8, 22, 24 and 25
unfoldable pub check_call : Options → List ℕ → Checked
check_call options program = first (given_check options ∷ check_of options program ∷ [])

-- a result of n bytes or cells is written over a lent list, unless a check refuses it
unfoldable pub writing : Checked → List ℕ → ℕ → ℕ → List ℕ → Returned (Result Written Refusal)
writing (Ok _) result n f lent = record { answer = Done n f; lent = overwrite result lent }
writing (Err r) result n f lent = record { answer = Err r; lent = lent }

-- compiling: 27, 19 to 21, 1 to 8, 22, 24 and 25, 14
abbrev pub compiled_file : Options → List ℕ → List ℕ
compiled_file options program = file_of options.pulse (netlist (program_with options program)) (finish (program_with options program))

abbrev pub netlist_checks : Options → List ℕ → List ℕ → List Checked
netlist_checks options program lent = check_of options program ∷ short (length lent) (length (compiled_file options program)) ∷ []

abbrev pub compile_checks : Options → List ℕ → List ℕ → List Checked
compile_checks options program lent = given_check options ∷ netlist_checks options program lent

unfoldable pub compile_call : Options → List ℕ → List ℕ → Returned (Result Written Refusal)
compile_call options program lent =
    let file = compiled_file options program in
    writing (first (compile_checks options program lent)) file (length file) (finish (program_with options program)) lent

-- writing a netlist, from cells of six bytes each, the finish and the pulse length, which is given, so that 27 comes first: a broken cell at the end, a
-- number of cells or a finish that no header could tell rightly is 11; then 12, 14
abbrev pub cells_in : List ℕ → List Cell
cells_in cells = cells_at in_list cells 0 (length cells / 6)

abbrev pub write_checks : ℕ → List ℕ → ℕ → List ℕ → List Checked
write_checks w cells f lent =
    let net = cells_in cells in
    refuse_if (pulse_wrong w) 27 0
    ∷ refuse_if (ltb 0 (length cells % 6) || count_wrong (blocks_for (length net)) (length net) f) 11 0
    ∷ net_check net f
    ∷ short (length lent) (length (file_of w net f))
    ∷ []

unfoldable pub write_call : ℕ → List ℕ → ℕ → List ℕ → Returned (Result Written Refusal)
write_call w cells f lent =
    let file = file_of w (cells_in cells) f in
    writing (first (write_checks w cells f lent)) file (length file) f lent

-- reading a netlist, to cells of six bytes each: 9 to 12, 14
abbrev pub read_checks : List ℕ → List ℕ → List Checked
read_checks file lent = file_check file ∷ short (length lent) (6 * count_of file) ∷ []

unfoldable pub read_call : List ℕ → List ℕ → Returned (Result Written Refusal)
read_call file lent = writing (first (read_checks file lent)) (cell_bytes (cells_of file)) (count_of file) (finish_of file) lent

-- Runs on a netlist --------------------------------------------------------------------------------------------------------------------

-- the start words, in 544 bytes: "The 256 follow the sixteen start words"
abbrev pub word_at : List ℕ → Store
word_at words x = get16 words (2 * x)

-- what a refused run answers
abbrev pub refused_answer : Refusal → Answer
refused_answer r = record { outcome = Outcome.Refused r; instant = 0; count = 0; words = replicate 16 0 }

-- "The answer is ended or open, the instant, the sixteen words and the number of instants evaluated by that call. Ended means that the
-- finish wire is high at that instant"
unfoldable pub shows : Format → List ℕ → List ℕ → ℕ → Answer
shows F file s n =
    record {
      outcome = pick (high (now_at F s (finish_of file))) Ended Open;
      instant = instant_of s;
      count = n;
      words = words_in F (cells_of file) 0 s;
    }

-- a run that leaves state s after n instants, unless a check refuses it
unfoldable pub running : Format → Checked → List ℕ → List ℕ → ℕ → List ℕ → Returned Answer
running F (Ok _) file s n lent = record { answer = shows F file s n; lent = s }
running F (Err r) file s n lent = record { answer = refused_answer r; lent = lent }

-- "27: ... any [pulse length] above 1 with a compact state, after 12"
unfoldable pub is_too_long : Format → ℕ → Bool
is_too_long Full w = false
is_too_long Compact w = ltb 1 w

abbrev pub format_check : Format → List ℕ → Checked
format_check F file = refuse_if (is_too_long F (pulse_of file)) 27 0

-- beginning: 9 to 12, 27, 14
abbrev pub begin_checks : Format → List ℕ → List ℕ → List ℕ → List Checked
begin_checks F file words lent =
    file_check file ∷ format_check F file ∷ short (length words) 544 ∷ short (length lent) (state_size F (net_of file)) ∷ []

unfoldable pub begin_call : Format → List ℕ → List ℕ → List ℕ → Returned Answer
begin_call F file words lent = running F (first (begin_checks F file words lent)) file (begin_state F (net_of file) (word_at words) lent) 1 lent

-- continuing by n: 9 to 12, 27, 14, 15, 16: "16. When continuing, instant plus N above 1,000,000."
abbrev pub continue_checks : Format → List ℕ → ℕ → List ℕ → List Checked
continue_checks F file n lent =
    file_check file
    ∷ format_check F file
    ∷ short (length lent) (state_size F (net_of file))
    ∷ refuse_if (not (sound F (net_of file) lent)) 15 0
    ∷ refuse_if (ltb 1000000 (instant_of lent + n)) 16 0
    ∷ []

-- how it goes on, unless one of these refuses it: 26, "alone among the refusals, and in departure from demand 1, ... changes lent memory: the state is
-- left at the last good instant"
unfoldable pub going_on : Format → Checked → List ℕ → Course → List ℕ → Returned Answer
going_on F (Ok _) file c lent = running F c.check file c.state c.count c.state
going_on F (Err r) file c lent = record { answer = refused_answer r; lent = lent }

unfoldable pub continue_call : Format → List ℕ → ℕ → List ℕ → Returned Answer
continue_call F file n lent = going_on F (first (continue_checks F file n lent)) file (continued F (net_of file) (finish_of file) n lent) lent

-- giving a start: as continuing by 1, "refusal 16 counts its instant", then "23: start given while the number isn't 0, place 0; after 16". With the
-- number 0 every line is empty, so that 26 has no place here. "for w above 1 a second start waits for a low finish too (23)".
abbrev pub busy : Format → List ℕ → List ℕ → Bool
busy F file lent = ltb 0 (flight_of lent) || (ltb 1 (pulse_of file) && high (now_at F lent (finish_of file)))

abbrev pub start_checks : Format → List ℕ → List ℕ → List Checked
start_checks F file lent = continue_checks F file 1 lent ++ (refuse_if (busy F file lent) 23 0 ∷ [])

-- "a second start pulse may be given in the next instant, by a call of its own: a continuing by 1 with start high at that instant."
unfoldable pub start_call : Format → List ℕ → List ℕ → Returned Answer
start_call F file lent = running F (first (start_checks F file lent)) file (step_state F (net_of file) true lent) 1 lent

-- "A full run of budget N is a beginning, and a continuing by N unless the finish was high.", on a full state: the state that it leaves, the instants
-- that it evaluates
unfoldable pub full_state : List ℕ → List ℕ → ℕ → List ℕ → List ℕ
full_state file words n lent =
    let s = begin_state Full (net_of file) (word_at words) lent in
    pick (high (now_at Full s (finish_of file))) s (continued Full (net_of file) (finish_of file) n s).state

unfoldable pub full_count : List ℕ → List ℕ → ℕ → List ℕ → ℕ
full_count file words n lent =
    let s = begin_state Full (net_of file) (word_at words) lent in
    pick (high (now_at Full s (finish_of file))) 1 (1 + (continued Full (net_of file) (finish_of file) n s).count)

-- "13. Budget of a full run above 1,000,000 (place 0), after the checks of program or netlist."
abbrev pub over_budget : ℕ → Checked
over_budget n = refuse_if (ltb 1000000 n) 13 0

-- a full run of a netlist: 9 to 12, 13, 14
abbrev pub run_netlist_checks : List ℕ → List ℕ → ℕ → List ℕ → List Checked
run_netlist_checks file words n lent =
    file_check file ∷ over_budget n ∷ short (length words) 544 ∷ short (length lent) (state_size Full (net_of file)) ∷ []

unfoldable pub run_netlist_call : List ℕ → List ℕ → ℕ → List ℕ → Returned Answer
run_netlist_call file words n lent =
    running Full (first (run_netlist_checks file words n lent)) file (full_state file words n lent) (full_count file words n lent) lent

-- a full run of a program, with a list lent for its netlist and one for the state: 27, 19 to 21, 1 to 8, 22, 24 and 25, 13, 14
pub record ReturnedBoth : Type 0 where
  pub answer : Answer
  pub netlist : List ℕ
  pub state : List ℕ

abbrev pub full_run_checks : Options → List ℕ → List ℕ → ℕ → List ℕ → List ℕ → List Checked
full_run_checks options program words n for_file lent =
    let file = compiled_file options program in
    check_of options program
    ∷ over_budget n
    ∷ short (length words) 544
    ∷ short (length for_file) (length file)
    ∷ short (length lent) (state_size Full (net_of file))
    ∷ []

abbrev pub run_program_checks : Options → List ℕ → List ℕ → ℕ → List ℕ → List ℕ → List Checked
run_program_checks options program words n for_file lent = given_check options ∷ full_run_checks options program words n for_file lent

unfoldable pub run_program_call : Options → List ℕ → List ℕ → ℕ → List ℕ → List ℕ → ReturnedBoth
run_program_call options program words n for_file lent =
    let file = compiled_file options program in
    let c = first (run_program_checks options program words n for_file lent) in
    let r = running Full c file (full_state file words n lent) (full_count file words n lent) lent in
    record { answer = r.answer; netlist = (writing c file (length file) 0 for_file).lent; state = r.lent }

-- Runs by the rules --------------------------------------------------------------------------------------------------------------------

-- the words of n variables from x on
unfoldable pub listed : Store → ℕ → ℕ → List ℕ
listed σ x zero = []
listed σ x (suc n) = σ x ∷ listed σ (x + 1) n

-- what a full run counts, a reference run counts too. An open one shows the budget as its instant; the rules have no words to show of it,
-- and so they are 0. An accepted program never comes to an exit of a loop around it (`Programs.neverLeft`), and would be open.
unfoldable pub reference_answer : ℕ → Run → Answer
reference_answer n (done at_end t σ) = record { outcome = Ended; instant = t; count = t + 1; words = listed σ 0 16 }
reference_answer n (done at_exit t σ) = record { outcome = Open; instant = n; count = n + 1; words = replicate 16 0 }
reference_answer n still = record { outcome = Open; instant = n; count = n + 1; words = replicate 16 0 }

-- an answer, unless a check refuses it
unfoldable pub answering : Checked → Answer → Answer
answering (Ok _) a = a
answering (Err r) a = refused_answer r

-- a reference run: 27, 19 to 21, 1 to 8, 22, 24 and 25, 13, 14
abbrev pub reference_checks : Options → List ℕ → List ℕ → ℕ → List Checked
reference_checks options program words n = given_check options ∷ check_of options program ∷ over_budget n ∷ short (length words) 544 ∷ []

unfoldable pub reference_call : Options → List ℕ → List ℕ → ℕ → Answer
reference_call options program words n =
    answering (first (reference_checks options program words n)) (reference_answer n (run (imperative options.pulse) n (meaning (program_with options program)) (word_at words)))
