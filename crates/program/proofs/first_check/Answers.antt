-- The refusal of what is given beside the program, then 1 to 6.
use Rattle.std.proofs.Common.{sym, ◌∙◌}
use Rattle.model.specs.Program.{time_in}
use Rattle.laws.specs.Refusals.Laws.{handed_on}
use Rattle.program.proofs.Halves.{early-told}
use Rattle.program.proofs.TimeTables.{given-refuses}
use Rattle.program.proofs.first_check.Goals as goal

pub returns-in_err-check_given : goal.returns-in_err-check_given
returns-in_err-check_given c =
    rw (handed_on _ c.from_residual.ensures.1) (given-refuses c.args.options c.args.program.now (sym c.check_given.ensures ∙ c.in_err-check_given.was))

pub returns : goal.returns
returns c =
    let o = c.args.options in
    early-told o c.args.program.now (sym c.check_given.ensures ∙ c.in_ok-check_given.was) _ (c.early_check.ensures (time_in o.times) o.pulse)
