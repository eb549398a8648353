-- `checks::check_own` meets its contract. The invariant: what is found first of all parts is found first of those that are left. Assumes nothing.
use Rattle.std.proofs.Common.{sym, ◌∙◌}
use Rattle.laws.specs.Refusals.Laws.{handed_on}
use Rattle.joiner.proofs.Refusing.{own-refused, own-next, own-end}
use Rattle.joiner.proofs.checks.check_own.Goals as goal

pub returns-in_err-check_part : goal.returns-in_err-check_part
returns-in_err-check_part c =
    let told = rw c.beside.ensures at c.check_part.ensures in
    handed_on _ c.from_residual.ensures.1
    ∙ sym (c.loop-part.invariant ∙ own-refused c.args.options c.in-Some.ensures.steps (sym told ∙ c.in_err-check_part.was))

pub loop-part-preserved : goal.loop-part-preserved
loop-part-preserved c =
    let told = rw c.beside.ensures at c.check_part.ensures in
    c.loop-part.invariant ∙ own-next c.args.options c.in-Some.ensures.steps (sym told ∙ c.in_ok-check_part.was)

pub returns : goal.returns
returns c = sym (c.loop-part.invariant ∙ own-end c.args.options c.in-None.ensures.steps.0)
