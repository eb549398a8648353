-- The public calls that take a program as text: from the lists that are lent, as they are at entry, to the answer and to the lists at exit.
-- "17 over the whole text first"; 17 and 18 come before 1, and 19 to 21, of the table of operator times, "before 17"; 27, of the pulse length, before 19.
-- Assumes nothing: definitions.
use Rattle.std.specs.Prelude.{List, [], ◌∷◌, ◌++◌, ℕ, ltb, length, Result}
use Rattle.model.specs.declared.Refusal.{Refusal}
use Rattle.model.specs.declared.Options.{Options}
use Rattle.model.specs.declared.Written.{Written}
use Rattle.model.specs.Refusals.{refuse, refuse_if, first, Checked, Accepted}
use Rattle.model.specs.Program.{node_bytes}
use Rattle.model.specs.ProgramChecks.{program_with, check_of}
use Rattle.model.specs.Numbering.{finish}
use Rattle.model.specs.Text.{words_of, outside}
use Rattle.model.specs.Reader.{Reading, good, bad, reader_at_first, read_from}
use Rattle.model.specs.declared.Format.TheVariants.{Full}
use Rattle.model.specs.TimeTables.{given_check}
use Rattle.model.specs.Calls.{Returned, ReturnedBoth, short, writing, compiled_file, netlist_checks, running, full_state, full_count, full_run_checks}

-- the nodes of a text, or the place where its grammar is broken
unfoldable pub reading_of : List ℕ → Reading
reading_of text = read_from (length text) reader_at_first (words_of text)

-- "18: the grammar is broken"
unfoldable pub broken_at : Reading → Checked
broken_at (good ns) = Accepted
broken_at (bad p) = refuse 18 p

-- "its program's bytes are the result"
unfoldable pub bytes_read : Reading → List ℕ
bytes_read (good ns) = node_bytes ns
bytes_read (bad p) = []

abbrev pub text_program : List ℕ → List ℕ
text_program text = bytes_read (reading_of text)

-- "17: longer, place 4,096, else a word or character outside these", then 18
abbrev pub text_checks : List ℕ → List Checked
text_checks text = refuse_if (ltb 4096 (length text)) 17 4096 ∷ outside (words_of text) ∷ broken_at (reading_of text) ∷ []

-- text to program: 27, 19 to 21, 17, 18, 1 to 8, 22, 24 and 25, 14. A program has no finish cell: it is told as 0.
abbrev pub read_text_checks : Options → List ℕ → List ℕ → List Checked
read_text_checks options text lent =
    given_check options ∷ text_checks text ++ (check_of options (text_program text) ∷ short (length lent) (length (text_program text)) ∷ [])

unfoldable pub read_text_call : Options → List ℕ → List ℕ → Returned (Result Written Refusal)
read_text_call options text lent = writing (first (read_text_checks options text lent)) (text_program text) (length (text_program text)) 0 lent

-- text to netlist: 27, 19 to 21, 17, 18, 1 to 8, 22, 24 and 25, 14
abbrev pub compile_text_checks : Options → List ℕ → List ℕ → List Checked
compile_text_checks options text lent = given_check options ∷ text_checks text ++ netlist_checks options (text_program text) lent

unfoldable pub compile_text_call : Options → List ℕ → List ℕ → Returned (Result Written Refusal)
compile_text_call options text lent =
    let program = text_program text in
    let file = compiled_file options program in
    writing (first (compile_text_checks options text lent)) file (length file) (finish (program_with options program)) lent

-- a full run of a text: 27, 19 to 21, 17, 18, 1 to 8, 22, 24 and 25, 13, 14
abbrev pub run_text_checks : Options → List ℕ → List ℕ → ℕ → List ℕ → List ℕ → List Checked
run_text_checks options text words n for_file lent =
    given_check options ∷ text_checks text ++ full_run_checks options (text_program text) words n for_file lent

unfoldable pub run_text_call : Options → List ℕ → List ℕ → ℕ → List ℕ → List ℕ → ReturnedBoth
run_text_call options text words n for_file lent =
    let file = compiled_file options (text_program text) in
    let c = first (run_text_checks options text words n for_file lent) in
    let r = running Full c file (full_state file words n lent) (full_count file words n lent) lent in
    record { answer = r.answer; netlist = (writing c file (length file) 0 for_file).lent; state = r.lent }
