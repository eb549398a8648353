-- The check's refusals, and the main program with the costs of a pulse length.
use Rattle.std.proofs.Common.{◌∙◌}
use Rattle.program.specs.Shape.{Tells}
use Rattle.model.specs.Program.{time_in}
use Rattle.model.specs.Calls.{check_call}
use Rattle.rules.proofs.Answers.{told-ready, call-refused, call-told}
use Rattle.rules.proofs.reference_run.Goals as goal
use Rattle.rules.proofs.reference_run.Goals.{After-scan_readable-scanned}

-- what the scan tells of the whole check
told : (c : After-scan_readable-scanned) → Tells (time_in c.args.options.times) c.args.program.now (check_call c.args.options c.args.program.now) c.scan_readable-scanned.result
told c = rw c.in-Ok.ensures.1 c.scan_readable-scanned.ensures

pub scan_readable-scanned-requires : goal.scan_readable-scanned-requires
scan_readable-scanned-requires c = c.in-Ok.ensures.0

pub run_scanned-requires : goal.run_scanned-requires
run_scanned-requires c = told-ready c.args.options _ _ (told (goal.at.run_scanned-requires c).After-scan_readable-scanned)

pub returns-in-Ok : goal.returns-in-Ok
returns-in-Ok c = call-told c.args.options _ _ _ _ (told (goal.at.returns-in-Ok c).After-scan_readable-scanned) c.run_scanned.ensures

pub returns-in-Err : goal.returns-in-Err
returns-in-Err c = c.refused.ensures ∙ call-refused c.args.options _ _ _ _ c.in-Err.ensures
