-- A field without a use is zero.
use borrow.Author.Tests.{eq-eqb, ne_eqb}
use Rattle.model.specs.ProgramChecks.{unused_set}
use Rattle.program.proofs.reading.spare.Goals as goal

pub returns-then-used-eq0 : goal.returns-then-used-eq0
unfolding unused_set
returns-then-used-eq0 c = rw (eq-eqb _ _ c.if-used-eq0.true)

pub returns-else-used-eq0 : goal.returns-else-used-eq0
unfolding unused_set
returns-else-used-eq0 c = rw (ne_eqb _ _ c.if-used-eq0.false)
