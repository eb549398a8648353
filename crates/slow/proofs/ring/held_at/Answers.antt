-- `held_at` meets its contract. Assumes nothing.
use mathlib.Core.Path.{sym}
use Rattle.slow.specs.Ring.{held_of}
use Rattle.slow.proofs.ByKind.{held_first, held-later}
use Rattle.slow.proofs.ring.held_at.Goals as goal

pub returns-then-t-eq0 : goal.returns-then-t-eq0
returns-then-t-eq0 c = sym (held_first _ _ _ _ c.if-t-eq0.true)

pub returns : goal.returns
unfolding held_of
returns c = rw c.word_at-x.ensures (sym (held-later _ _ _ _ c.if-t-eq0.false))
