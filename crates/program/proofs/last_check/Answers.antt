-- Refusals 7, 25 and 8, in their order.
use Rattle.std.proofs.Common.{◌∙◌}
use Rattle.laws.specs.Refusals.Laws.{first_one, handed_on}
use Rattle.program.specs.Roots.{clash_fault}
use Rattle.model.specs.Program.{program_of}
use Rattle.program.proofs.last_check.Goals as goal

pub first_slow-requires : goal.first_slow-requires
first_slow-requires c = c.requires.1

pub returns-in_err-first_slow : goal.returns-in_err-first_slow
returns-in_err-first_slow c = rw (← c.first_slow.ensures, c.in_err-first_slow.was) (handed_on _ c.from_residual.ensures.1)

pub returns-in_err-first_clash : goal.returns-in_err-first_clash
unfolding clash_fault program_of
returns-in_err-first_clash c =
    rw (← c.first_slow.ensures, c.in_ok-first_slow.was, ← c.first_clash.ensures, c.in_err-first_clash.was) (handed_on _ c.from_residual-in_err-first_clash.ensures.1)

pub returns : goal.returns
unfolding clash_fault program_of
returns c =
    rw (← c.first_slow.ensures, c.in_ok-first_slow.was, ← c.first_clash.ensures, c.in_ok-first_clash.was) (c.first_clash-2.ensures ∙ first_one _)
