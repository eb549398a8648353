-- `past` meets its contract. Assumes nothing.
use mathlib.Core.Path.{sym, ◌∙◌}
use Rattle.slow.proofs.ByKind.{past-early, past-late}
use Rattle.slow.proofs.ring.past.Goals as goal

pub returns-then-t-d : goal.returns-then-t-d
returns-then-t-d c = sym (past-early _ _ _ c.if-t-d.true)

pub returns : goal.returns
returns c = c.word_at.ensures ∙ sym (past-late _ _ _ c.if-t-d.false)
