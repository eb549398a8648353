-- A text that passes 17 and 18 is compiled and run as its program is; what an accepted text gives.
-- Assumes nothing.
use Rattle.std.specs.Prelude.{◌≡◌, List, ◌∷◌, ◌++◌, ℕ, length, drop, Result}
use Rattle.std.proofs.Common.{sym, ap, ◌∙◌}
use Rattle.std.proofs.Math.Path.{ap₂}
use Rattle.std.proofs.Math.ListN.{take}
use Rattle.std.proofs.Math.Seq.{take-append_seam}
use Rattle.model.specs.declared.Refusal.{Refusal}
use Rattle.model.specs.declared.Options.{Options}
use Rattle.model.specs.declared.Written.{Written}
use Rattle.model.specs.Refusals.{first, Checked, Accepted, Done}
use Rattle.model.specs.ProgramChecks.{program_with, check_of}
use Rattle.model.specs.Numbering.{finish}
use Rattle.model.specs.declared.Format.TheVariants.{Full}
use Rattle.model.specs.TimeTables.{given_check}
use Rattle.model.specs.Calls.{Returned, writing, compiled_file, netlist_checks, compile_call, running, full_state, full_count, full_run_checks, run_program_call}
use Rattle.model.specs.TextCalls.{text_program, text_checks, read_text_checks, read_text_call, compile_text_call, run_text_call}
use Rattle.laws.specs.Refusals.Laws.{all-accept, first-append, first-behind, first-drop, accept-take}
use Rattle.laws.specs.NetlistFile.ReadWrite.{Wrote, wrote}

-- whatever is given beside it, and whether or not its table is refused
pub compile-as-program : (options : Options) (text lent : List ℕ) → first (text_checks text) ≡ Accepted
    → compile_text_call options text lent ≡ compile_call options (text_program text) lent
unfolding compile_text_call compile_call
compile-as-program options text lent e =
    let program = text_program text in
    let file = compiled_file options program in
    let checks = netlist_checks options program lent in
    ap (λ (c : Checked). writing c file (length file) (finish (program_with options program)) lent)
    (first-behind (given_check options) (text_checks text ++ checks) checks (first-append (text_checks text) checks e))

pub run-as-program : (options : Options) (text words : List ℕ) (n : ℕ) (for_file lent : List ℕ) → first (text_checks text) ≡ Accepted
    → run_text_call options text words n for_file lent ≡ run_program_call options (text_program text) words n for_file lent
unfolding run_text_call run_program_call
run-as-program options text words n for_file lent e =
    let program = text_program text in
    let file = compiled_file options program in
    let checks = full_run_checks options program words n for_file lent in
    ap (λ (c : Checked).
    let r = running Full c file (full_state file words n lent) (full_count file words n lent) lent in
    record { answer = r.answer; netlist = (writing c file (length file) 0 for_file).lent; state = r.lent })
    (first-behind (given_check options) (text_checks text ++ checks) checks (first-append (text_checks text) checks e))

-- what reading wrote
module _ (options : Options) (text lent : List ℕ) (n f : ℕ) (done : (read_text_call options text lent).answer ≡ Done n f) where
  read : Wrote (first (read_text_checks options text lent)) (text_program text) (length (text_program text)) 0 lent n f
  unfolding read_text_call
  read = wrote (first (read_text_checks options text lent)) (text_program text) (length (text_program text)) 0 lent n f done

  pub text-accepted : first (text_checks text) ≡ Accepted
  text-accepted =
      let checks = given_check options ∷ text_checks text in
      let e = accept-take 4 (read_text_checks options text lent) read.accepted in
      sym (first-drop 1 checks (accept-take 1 checks e)) ∙ e

  pub program-passes : check_of options (text_program text) ≡ Accepted
  program-passes = all-accept (read_text_checks options text lent) read.accepted 4

  pub program-made : take n (read_text_call options text lent).lent ≡ text_program text
  unfolding read_text_call
  program-made =
      ap₂ (λ (k : ℕ) (r : Returned (Result Written Refusal)). take k r.lent) read.count read.told
      ∙ take-append_seam (text_program text) (drop (length (text_program text)) lent)
