-- The calls on texts give the first refusal in the published order, and a refusal leaves what was lent as it was.
-- Assumes nothing.
use Rattle.std.specs.Prelude.{refl, List, [], ◌∷◌, ◌++◌, ℕ, eqb, ltb, length}
use Rattle.std.proofs.Common.{inl}
use Rattle.model.specs.Refusals.{refuse, Checked}
use Rattle.model.specs.ProgramChecks.{program_with, check_of}
use Rattle.model.specs.TimeTables.{Given, load, given_check}
use Rattle.model.specs.Numbering.{finish}
use Rattle.model.specs.Text.{Lexeme, words_of, outside}
use Rattle.model.specs.Reader.{Reading, good, bad}
use Rattle.model.specs.Calls.{verdict, written_verdict, short, compiled_file, netlist_checks, full_state, full_count, full_run_checks}
use Rattle.model.specs.TextCalls.{reading_of, broken_at, text_program, text_checks, read_text_checks, read_text_call, compile_text_checks, compile_text_call, run_text_checks, run_text_call}
use Rattle.model.specs.RefusalPromises.{Gives, InOrder, Refuses, given_numbers, program_numbers, just, Leaves}
use Rattle.theory.specs.Refusals.Order.{gives_one, gives-if, gives-pick, check-gives, given-gives, short-gives, write-refuses, compile-order, run-order, run-both-refuses}

outside-gives : (ws : List Lexeme) → Gives (just 17) (outside ws)
unfolding outside
outside-gives [] = inl refl
outside-gives (w ∷ ws) =
    gives-pick (just 17) (eqb w.token.code 0) (refuse 17 w.place) (outside ws) (gives_one (just 17) 17 w.place refl)
    (outside-gives ws)

broken-gives : (r : Reading) → Gives (just 18) (broken_at r)
unfolding broken_at
broken-gives (good ns) = inl refl
broken-gives (bad p) = gives_one (just 18) 18 p refl

-- the checks of what is given come before those of a text, and these before those of its program
text-order : (G : Given) (text : List ℕ) (nss : List (List ℕ)) (cs : List Checked) → InOrder nss cs
    → InOrder (given_numbers ∷ just 17 ∷ just 17 ∷ just 18 ∷ nss) (given_check (load G) ∷ text_checks text ++ cs)
text-order G text nss cs o =
    (given-gives G, (gives-if (ltb 4096 (length text)) 17 4096, (outside-gives (words_of text), (broken-gives (reading_of text), o))))

pub read-text-refuses : (G : Given) (text lent : List ℕ) →
    let c = written_verdict (read_text_call (load G) text lent).answer in
    Refuses (given_numbers ∷ just 17 ∷ just 17 ∷ just 18 ∷ program_numbers ∷ just 14 ∷ []) (read_text_checks (load G) text lent) c
    × Leaves c lent (read_text_call (load G) text lent).lent
unfolding read_text_call
read-text-refuses G text lent =
    let program = text_program text in
    write-refuses _ (read_text_checks (load G) text lent) refl
    (text-order G text (program_numbers ∷ just 14 ∷ []) (check_of (load G) program ∷ short (length lent) (length program) ∷ [])
    (check-gives (load G) program, (short-gives (length lent) (length program), tt)))
    program (length program) 0 lent

pub compile-text-refuses : (G : Given) (text lent : List ℕ) →
    let c = written_verdict (compile_text_call (load G) text lent).answer in
    Refuses (given_numbers ∷ just 17 ∷ just 17 ∷ just 18 ∷ program_numbers ∷ just 14 ∷ []) (compile_text_checks (load G) text lent) c
    × Leaves c lent (compile_text_call (load G) text lent).lent
unfolding compile_text_call
compile-text-refuses G text lent =
    let program = text_program text in
    let file = compiled_file (load G) program in
    write-refuses _ (compile_text_checks (load G) text lent) refl
    (text-order G text (program_numbers ∷ just 14 ∷ []) (netlist_checks (load G) program lent) (compile-order (load G) program lent)) file (length file)
    (finish (program_with (load G) program)) lent

pub run-text-refuses : (G : Given) (text words : List ℕ) (n : ℕ) (for_file lent : List ℕ) →
    let r = run_text_call (load G) text words n for_file lent in
    let c = verdict r.answer.outcome in
    Refuses (given_numbers ∷ just 17 ∷ just 17 ∷ just 18 ∷ program_numbers ∷ just 13 ∷ just 14 ∷ just 14 ∷ just 14 ∷ [])
    (run_text_checks (load G) text words n for_file lent) c
    × Leaves c for_file r.netlist × Leaves c lent r.state
unfolding run_text_call
run-text-refuses G text words n for_file lent =
    let program = text_program text in
    let file = compiled_file (load G) program in
    run-both-refuses _ (run_text_checks (load G) text words n for_file lent) refl
    (text-order G text (program_numbers ∷ just 13 ∷ just 14 ∷ just 14 ∷ just 14 ∷ []) (full_run_checks (load G) program words n for_file lent)
    (run-order (load G) program words n for_file lent))
    file (full_state file words n lent) (full_count file words n lent) for_file lent
