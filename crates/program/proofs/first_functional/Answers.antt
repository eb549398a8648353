-- The refusal of the table, then 1 to 6, then 28, and then the others.
use Rattle.std.proofs.Common.{◌≡◌, sym, ◌∙◌, refl, ℕ, List, [], ◌∷◌, ◌++◌, take, drop, Err}
use Rattle.model.specs.declared.Refusal.{Refusal}
use Rattle.model.specs.Refusals.{first, first_fault, Checked, Accepted}
use Rattle.model.specs.Program.{node_count, time_in}
use Rattle.model.specs.ProgramChecks.{program_checks, added_fault, functional_checks}
use Rattle.laws.specs.Refusals.Laws.{handed_on, first_one, first-append, refused-append}
use Rattle.laws.specs.Program.Passed.{readable}
use Rattle.program.proofs.TimeTables.{table-refuses, table-accepts}
use Rattle.program.proofs.first_functional.Goals as goal

-- the checks before it
early-refused : (operators s : List ℕ) {r : Refusal} → first (take 3 (program_checks (time_in operators) 1 0 s)) ≡ Err r
    → first (functional_checks (time_in operators) s) ≡ Err r
early-refused operators s e =
    let checks = program_checks (time_in operators) 1 0 s in
    refused-append (take 3 checks) (first_fault (added_fault s) 0 (node_count s) ∷ drop 3 checks) _ e

-- a check between others
then-refused : (cs ds : List Checked) (c : Checked) {r : Refusal} → first cs ≡ Accepted → c ≡ Err r → first (cs ++ (c ∷ ds)) ≡ Err r
then-refused cs ds c e f = first-append cs (c ∷ ds) e ∙ refused-append (c ∷ []) ds _ (sym (first_one c) ∙ f)

then-accepted : (cs ds : List Checked) (c : Checked) → first cs ≡ Accepted → c ≡ Accepted → first (cs ++ (c ∷ ds)) ≡ first ds
then-accepted cs ds c e f = first-append cs (c ∷ ds) e ∙ first-append (c ∷ []) ds (sym (first_one c) ∙ f)

pub returns-in_err-options : goal.returns-in_err-options
returns-in_err-options c =
    rw (handed_on _ c.from_residual.ensures.1) (table-refuses c.args.options c.args.program.now c.in_err-options.was)

pub returns-in_err-early_check : goal.returns-in_err-early_check
returns-in_err-early_check c =
    let τ = time_in c.args.options.times in
    rw (handed_on _ c.from_residual-in_err-early_check.ensures.1)
    (table-accepts c.args.options c.args.program.now c.in_ok-options.was
    ∙ early-refused c.args.options.times _ (sym (c.early_check.ensures τ 1) ∙ c.in_err-early_check.was))

pub returns-in_err-first_added : goal.returns-in_err-first_added
returns-in_err-first_added c =
    let τ = time_in c.args.options.times in
    rw (handed_on _ c.from_residual-in_err-first_added.ensures.1)
    (table-accepts c.args.options c.args.program.now c.in_ok-options.was
    ∙ then-refused (take 3 (program_checks τ 1 0 _)) (drop 3 (program_checks τ 1 0 _)) _ (sym (c.early_check.ensures τ 1) ∙ c.in_ok-early_check.was)
    (sym c.first_added.ensures ∙ c.in_err-first_added.was))

pub returns : goal.returns
returns c =
    let τ = time_in c.args.options.times in (
      (
        readable (λ (k : ℕ). 0) 1 _ _ (sym (c.early_check.ensures (λ (k : ℕ). 0) 1) ∙ c.in_ok-early_check.was),
        table-accepts c.args.options c.args.program.now c.in_ok-options.was
            ∙ then-accepted (take 3 (program_checks τ 1 0 _)) (drop 3 (program_checks τ 1 0 _)) _ (sym (c.early_check.ensures τ 1) ∙ c.in_ok-early_check.was)
            (sym c.first_added.ensures ∙ c.in_ok-first_added.was),
      ),
      refl,
    )
