-- `marks::index_of` meets its contract. Assumes nothing.
use mathlib.Core.Path.{refl}
use borrow.Author.Tests.{le-leb, lt-leb}
use Rattle.joiner.proofs.marks.index_of.Goals as goal

pub returns-then-x-ge16 : goal.returns-then-x-ge16
returns-then-x-ge16 c =
    rw (le-leb _ _ c.if-x-ge16.true) refl

pub returns-else-x-ge16 : goal.returns-else-x-ge16
returns-else-x-ge16 c =
    rw (lt-leb _ _ c.if-x-ge16.false) refl
