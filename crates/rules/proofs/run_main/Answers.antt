-- What is asked of a run, and the run of the main program.
use Rattle.std.proofs.Common.{sym, ◌∙◌}
use Rattle.rules.proofs.Parts.{ready-as}
use Rattle.rules.proofs.Runs.{stands-as}
use Rattle.rules.proofs.Procedures.{main-is}
use Rattle.rules.proofs.Answers.{main-refused, main_runs}
use Rattle.rules.proofs.run_main.Goals as goal

pub returns-in-Err : goal.returns-in-Err
returns-in-Err c = c.refused.ensures ∙ main-refused _ _ _ _ _ _ (sym c.in-Err.ensures.checks)

pub run_at-ran-requires : goal.run_at-ran-requires
run_at-ran-requires c = ready-as (sym (main-is _ _ c.requires.fit.laid _ _ c.skip-main.ensures)) c.requires

pub returns : goal.returns
returns c =
    let fit = c.requires.fit in
    let main = main-is _ _ fit.laid _ _ c.skip-main.ensures in
    main_runs _ _ _ _ _ (sym c.in_default.ensures.checks) fit.formed _ c.start_words-held.ensures _ _
    (stands-as _ _ _ _ _ (sym main) c.run_at-ran.ensures) _ c.answer.ensures
