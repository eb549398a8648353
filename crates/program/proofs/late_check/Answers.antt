-- Refusals 22 and 24, and then the others, in their order.
use Rattle.laws.specs.Refusals.Laws.{handed_on}
use Rattle.program.specs.Roots.{root_fault}
use Rattle.model.specs.Program.{program_of}
use Rattle.program.proofs.late_check.Goals as goal

pub returns-in_err-first_in_roots : goal.returns-in_err-first_in_roots
unfolding root_fault program_of
returns-in_err-first_in_roots c = rw (← c.first_in_roots.ensures, c.in_err-first_in_roots.was) (handed_on _ c.from_residual.ensures.1)

pub returns-in_err-first_in_roots-2 : goal.returns-in_err-first_in_roots-2
unfolding root_fault program_of
returns-in_err-first_in_roots-2 c =
    rw (← c.first_in_roots.ensures, c.in_ok-first_in_roots.was, ← c.first_in_roots-2.ensures, c.in_err-first_in_roots-2.was) (handed_on _ c.from_residual-in_err-first_in_roots-2.ensures.1)

pub returns : goal.returns
unfolding root_fault program_of
returns c =
    rw (← c.first_in_roots.ensures, c.in_ok-first_in_roots.was, ← c.first_in_roots-2.ensures, c.in_ok-first_in_roots-2.was) c.last_check.ensures
