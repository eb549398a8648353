-- `whole::idle_start` meets its contract. Assumes nothing.
use borrow.Author.Tests.{eq-eqb, ne_eqb}
use Rattle.compiler.proofs.whole.idle_start.Goals as goal

pub returns-then-root-procedures : goal.returns-then-root-procedures
returns-then-root-procedures c = rw (eq-eqb _ _ c.if-root-procedures.true)

pub returns-else-root-procedures : goal.returns-else-root-procedures
returns-else-root-procedures c = rw (ne_eqb _ _ c.if-root-procedures.false)
