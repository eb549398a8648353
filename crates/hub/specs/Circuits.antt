-- Laws of the two kinds of circuit, for their full runs: the file of an accepted program's netlist is accepted, and what the call tells. Assumes nothing.
use Rattle.std.proofs.Common.{◌≡◌, ◌∙◌, refl, List, ◌∷◌, ℕ}
use Rattle.model.specs.declared.Options.{Options}
use Rattle.model.specs.declared.Format.TheVariants.{Full}
use Rattle.model.specs.Refusals.{first, Accepted}
use Rattle.model.specs.Word.{Bytes}
use Rattle.model.specs.ProgramChecks.{check_of, check_functional}
use Rattle.model.specs.TimeTables.{given_check}
use Rattle.model.specs.NetlistFile.{file_check}
use Rattle.model.specs.Calls.{check_call, compiled_file, running, writing, run_program_call}
use Rattle.model.specs.FunctionalCalls.{check_functional_call, functional_file, retold, run_functional_program_call}
use Rattle.laws.specs.Refusals.Laws.{first_two}
use Rattle.laws.specs.NetlistFile.Compiled.{compiled-accepted}
use Rattle.functional.proofs.Call.{functional-accepted}
use Rattle.functional_runs.specs.Modes.{with_last}
use Rattle.hub.specs.Lent.{asked, Tells}

pub compiled_imperative : (options : Options) (program : List ℕ) → Bytes program → check_call options program ≡ Accepted → file_check (compiled_file options program) ≡ Accepted
compiled_imperative options program bytes e = compiled-accepted options program bytes e

pub tells_imperative : (options : Options) (program words : List ℕ) (budget : ℕ) (file state : List ℕ)
    → Tells (first (check_call options program ∷ asked (compiled_file options program) words budget file state)) (λ made answer state. answer)
    (compiled_file options program) words budget file state (run_program_call options program words budget file state)
unfolding check_call run_program_call running writing
tells_imperative options program words budget file state =
    let both = first_two (given_check options) (check_of options program) (asked (compiled_file options program) words budget file state) in
    record { refused = λ e. rw (both ∙ e) refl; accepted = λ e. rw (both ∙ e) refl }

pub compiled_functional : (options : Options) (program : List ℕ) → Bytes program → check_functional_call options program ≡ Accepted → file_check (functional_file program) ≡ Accepted
compiled_functional options program bytes e = functional-accepted options program bytes e

pub tells_functional : (options : Options) (program words : List ℕ) (budget : ℕ) (file state : List ℕ)
    → Tells (first (check_functional_call options program ∷ asked (functional_file program) words budget file state)) (with_last Full)
    (functional_file program) words budget file state (run_functional_program_call options program words budget file state)
unfolding check_functional_call run_functional_program_call running writing retold
tells_functional options program words budget file state =
    let both = first_two options.checked (check_functional options program) (asked (functional_file program) words budget file state) in
    record { refused = λ e. rw (both ∙ e) refl; accepted = λ e. rw (both ∙ e) refl }
