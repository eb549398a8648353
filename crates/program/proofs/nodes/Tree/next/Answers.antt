-- The node after a subtree, which the array has.
use borrow.Author.Tests.{lt-ltb, le-ltb}
use Rattle.program.specs.Ends.{past}
use Rattle.program.proofs.nodes.Tree.next.Goals as goal

pub returns-then-i-self : goal.returns-then-i-self
unfolding past
returns-then-i-self c = rw (lt-ltb _ _ c.if-i-self.true)

pub returns-else-i-self : goal.returns-else-i-self
unfolding past
returns-else-i-self c = rw (le-ltb _ _ c.if-i-self.false)
