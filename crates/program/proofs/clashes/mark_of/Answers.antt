-- A mark by the two flags.
use mathlib.Core.Path.{refl}
use Rattle.program.specs.Roots.{mark_of}
use Rattle.program.proofs.clashes.mark_of.Goals as goal

pub returns-then-shared : goal.returns-then-shared
unfolding mark_of
returns-then-shared c = rw c.if-shared.true refl

pub returns-then-touch : goal.returns-then-touch
unfolding mark_of
returns-then-touch c = rw (c.if-shared.false, c.if-touch.true) refl

pub returns-else-touch : goal.returns-else-touch
unfolding mark_of
returns-else-touch c = rw (c.if-shared.false, c.if-touch.false) refl
