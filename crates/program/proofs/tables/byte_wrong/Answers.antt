-- The rules of a table's bytes, place by place.
use borrow.Author.Tests.{eq-eqb, ne_eqb}
use Rattle.model.specs.TimeTables.{byte_wrong}
use Rattle.program.proofs.tables.byte_wrong.Goals as goal

pub returns-then-i-eq2 : goal.returns-then-i-eq2
unfolding byte_wrong
returns-then-i-eq2 c = rw (eq-eqb _ _ c.if-i-eq2.true)

pub returns-then-i : goal.returns-then-i
unfolding byte_wrong
returns-then-i c = rw (ne_eqb _ _ c.if-i-eq2.false, c.if-i.true)

pub returns-then-i-2 : goal.returns-then-i-2
unfolding byte_wrong
returns-then-i-2 c = rw (ne_eqb _ _ c.if-i-eq2.false, c.if-i.false, c.if-i-2.true)

pub returns : goal.returns
unfolding byte_wrong
returns c = rw (ne_eqb _ _ c.if-i-eq2.false, c.if-i.false, c.if-i-2.false)
