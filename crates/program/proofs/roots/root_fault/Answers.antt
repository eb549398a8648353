-- 22 or 24, by the flag.
use Rattle.program.specs.Roots.{root_fault}
use Rattle.program.proofs.roots.root_fault.Goals as goal

pub returns-then-late : goal.returns-then-late
unfolding root_fault
returns-then-late c = rw c.if-late.true c.first_late.ensures

pub returns : goal.returns
unfolding root_fault
returns c = rw c.if-late.false c.first_loose.ensures
