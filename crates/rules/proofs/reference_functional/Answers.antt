-- The check's refusals, and the main program with the costs of a functional circuit.
use Rattle.std.proofs.Common.{◌∙◌}
use Rattle.program.specs.Shape.{Tells}
use Rattle.model.specs.Program.{time_in}
use Rattle.model.specs.FunctionalCalls.{check_functional_call}
use Rattle.rules.proofs.Answers.{functional-ready, functional-refused, functional-told}
use Rattle.rules.proofs.reference_functional.Goals as goal
use Rattle.rules.proofs.reference_functional.Goals.{After-scan_readable-scanned}

-- what the scan tells of the whole check
told : (c : After-scan_readable-scanned) → Tells (time_in c.args.options.times) c.args.program.now (check_functional_call c.args.options c.args.program.now) c.scan_readable-scanned.result
told c = rw (c.in-Ok.ensures.0.1, ← c.in-Ok.ensures.1) c.scan_readable-scanned.ensures

pub scan_readable-scanned-requires : goal.scan_readable-scanned-requires
scan_readable-scanned-requires c = c.in-Ok.ensures.0.0

pub run_scanned-requires : goal.run_scanned-requires
run_scanned-requires c = functional-ready c.args.options _ _ (told (goal.at.run_scanned-requires c).After-scan_readable-scanned)

pub returns-in-Ok : goal.returns-in-Ok
returns-in-Ok c = functional-told c.args.options _ _ _ _ (told (goal.at.returns-in-Ok c).After-scan_readable-scanned) c.run_scanned.ensures

pub returns-in-Err : goal.returns-in-Err
returns-in-Err c = c.refused.ensures ∙ functional-refused c.args.options _ _ _ _ c.in-Err.ensures
