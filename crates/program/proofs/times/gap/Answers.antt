-- The gap of a pulse length.
use borrow.Author.Tests.{eq-eqb, ne_eqb}
use native.Mathlib.Omega.{arith}
use Rattle.model.specs.Program.{gap}
use Rattle.program.proofs.times.gap.Goals as goal

pub returns-then-pulse-eq1 : goal.returns-then-pulse-eq1
unfolding gap
returns-then-pulse-eq1 c = rw (eq-eqb _ _ c.if-pulse-eq1.true)

pub returns-else-pulse-eq1 : goal.returns-else-pulse-eq1
unfolding gap
returns-else-pulse-eq1 c = rw (ne_eqb _ _ c.if-pulse-eq1.false) (omega arith)
