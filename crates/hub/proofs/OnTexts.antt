-- The calls on a text, where its table or its program was refused and where the program was given.
-- Assumes nothing.
use Rattle.std.specs.Prelude.{Err}
use mathlib.Core.Path.{◌≡◌, refl, ◌∙◌, ap}
use mathlib.Core.List.{List, [], ◌∷◌, ◌++◌}
use Prim.Native.Nat.{ℕ}
use lib.ListN.{length}
use Rattle.model.specs.declared.Refusal.{Refusal}
use Rattle.model.specs.declared.Options.{Options}
use Rattle.model.specs.Refusals.{first, Checked, Accepted}
use Rattle.model.specs.ProgramChecks.{program_with}
use Rattle.model.specs.Numbering.{finish}
use Rattle.model.specs.NetlistFile.{net_of}
use Rattle.model.specs.declared.Format.TheVariants.{Full}
use Rattle.model.specs.State.{state_size}
use Rattle.model.specs.Calls.{short, writing, compiled_file, netlist_checks, compile_call, refused_answer, running, full_state, full_count, over_budget, full_run_checks, run_program_call}
use Rattle.model.specs.TimeTables.{given_check}
use Rattle.model.specs.TextCalls.{text_program, text_checks, compile_text_checks, compile_text_call, run_text_checks, run_text_call}
use Rattle.laws.specs.Text.AsProgram.{compile-as-program, run-as-program}
use Rattle.text.specs.Parsing.{parse_checks}
use Rattle.text.proofs.Giving.{parse-refuses, parse-accepts}

module _ (options : Options) (text lent : List ℕ) where
  pub compile-unloaded : (r : Refusal) → given_check options ≡ Err r → compile_text_call options text lent ≡ record { answer = Err r; lent = lent }
  unfolding compile_text_call writing
  compile-unloaded r e = rw e refl

  pub compile-refused : given_check options ≡ Accepted → (r : Refusal) → first (parse_checks text) ≡ Err r
      → compile_text_call options text lent ≡ record { answer = Err r; lent = lent }
  unfolding compile_text_call writing
  compile-refused a r e =
      let file = compiled_file options (text_program text) in
      let checks = text_checks text ++ netlist_checks options (text_program text) lent in
      let first-is : first (compile_text_checks options text lent) ≡ Err r =
      ap (λ (c : Checked). first (c ∷ checks)) a ∙ parse-refuses text options r (short (length lent) (length file) ∷ []) e in
      ap (λ (c : Checked). writing c file (length file) (finish (program_with options (text_program text))) lent) first-is

  pub compile-given : first (parse_checks text) ≡ Accepted → compile_text_call options text lent ≡ compile_call options (text_program text) lent
  compile-given e = compile-as-program options text lent (parse-accepts text e)

module _ (options : Options) (text words : List ℕ) (n : ℕ) (for_file lent : List ℕ) where
  pub run-unloaded : (r : Refusal) → given_check options ≡ Err r
      → run_text_call options text words n for_file lent ≡ record { answer = refused_answer r; netlist = for_file; state = lent }
  unfolding run_text_call writing running
  run-unloaded r e = rw e refl

  pub run-refused : given_check options ≡ Accepted → (r : Refusal) → first (parse_checks text) ≡ Err r
      → run_text_call options text words n for_file lent ≡ record { answer = refused_answer r; netlist = for_file; state = lent }
  unfolding run_text_call writing running
  run-refused a r e =
      let file = compiled_file options (text_program text) in
      let checks = text_checks text ++ full_run_checks options (text_program text) words n for_file lent in
      let first-is : first (run_text_checks options text words n for_file lent) ≡ Err r =
      ap (λ (c : Checked). first (c ∷ checks)) a
      ∙ parse-refuses text options r
      (over_budget n ∷ short (length words) 544 ∷ short (length for_file) (length file) ∷ short (length lent) (state_size Full (net_of file)) ∷ []) e in
      ap (λ (c : Checked).
      let s = running Full c file (full_state file words n lent) (full_count file words n lent) lent in
      record { answer = s.answer; netlist = (writing c file (length file) 0 for_file).lent; state = s.lent })
      first-is

  pub run-given : first (parse_checks text) ≡ Accepted → run_text_call options text words n for_file lent ≡ run_program_call options (text_program text) words n for_file lent
  run-given e = run-as-program options text words n for_file lent (parse-accepts text e)
