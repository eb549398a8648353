-- `checks::check_part` meets its contract. Assumes nothing.
use mathlib.Core.Path.{sym, ◌∙◌}
use Rattle.model.specs.ProgramChecks.{check_of}
use Rattle.model.specs.NetlistFile.{file_check}
use Rattle.model.specs.TimeTables.{given_check}
use Rattle.model.specs.Calls.{check_call}
use Rattle.laws.specs.Refusals.Laws.{handed_on}
use Rattle.joiner.proofs.Refusing.{two-refused, two-accepted}
use Rattle.joiner.proofs.checks.check_part.Goals as goal

pub returns-in_err-check : goal.returns-in_err-check
unfolding check_call
returns-in_err-check c =
    let args = c.args in
    handed_on _ c.from_residual.ensures.1
    ∙ two-refused (given_check args.options) (check_of args.options args.program.now) (file_check args.file.now) (sym c.check.ensures ∙ c.in_err-check.was)

pub returns : goal.returns
unfolding check_call
returns c =
    let args = c.args in
    two-accepted (given_check args.options) (check_of args.options args.program.now) (file_check args.file.now) (sym c.check.ensures ∙ c.in_ok-check.was) c.check_file.ensures
