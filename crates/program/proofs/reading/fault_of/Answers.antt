-- Refusals 2 to 4 of one node, test by test.
use borrow.Author.Tests.{eq-eqb, ne_eqb}
use Rattle.std.proofs.Common.{refl, arith}
use Rattle.model.specs.ProgramChecks.{node_fault}
use Rattle.program.proofs.reading.fault_of.Goals as goal

pub returns-then-row-eq0 : goal.returns-then-row-eq0
unfolding node_fault
returns-then-row-eq0 c = rw (← c.kind_row-row.ensures, eq-eqb _ _ c.if-row-eq0.true) (refl, omega arith)

pub returns-then-spare : goal.returns-then-spare
unfolding node_fault
returns-then-spare c =
    let kind_row = c.kind_row-row in
    let if1 = c.if-row-eq0 in
    rw (← kind_row.ensures, ne_eqb _ _ if1.false, ← c.spare.ensures, ← c.spare-2.ensures, c.if-spare.true) (refl, omega arith)

pub returns-then-absent : goal.returns-then-absent
unfolding node_fault
returns-then-absent c =
    let kind_row = c.kind_row-row in
    let if1 = c.if-row-eq0 in
    let spare = c.spare in
    let spare2 = c.spare-2 in
    rw (← kind_row.ensures, ne_eqb _ _ if1.false, ← spare.ensures, ← spare2.ensures, c.if-spare.false, ← c.absent.ensures, c.if-absent.true) (refl, omega arith)

pub returns-else-absent : goal.returns-else-absent
unfolding node_fault
returns-else-absent c =
    let kind_row = c.kind_row-row in
    let if1 = c.if-row-eq0 in
    let spare = c.spare in
    let spare2 = c.spare-2 in
    rw (← kind_row.ensures, ne_eqb _ _ if1.false, ← spare.ensures, ← spare2.ensures, c.if-spare.false, ← c.absent.ensures, c.if-absent.false)
