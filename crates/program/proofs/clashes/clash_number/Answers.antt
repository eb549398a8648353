-- By the flag.
use mathlib.Core.Path.{refl}
use Rattle.program.proofs.clashes.clash_number.Goals as goal

pub returns-then-shared : goal.returns-then-shared
returns-then-shared c = rw c.if-shared.true refl

pub returns-else-shared : goal.returns-else-shared
returns-else-shared c = rw c.if-shared.false refl
