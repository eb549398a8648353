-- `kept_word` meets its contract. Assumes nothing.
use mathlib.Core.Path.{sym, ◌∙◌}
use Rattle.slow.proofs.ByKind.{at_first, at-later}
use Rattle.slow.proofs.gates.kept_word.Goals as goal

pub returns-then-t-eq0 : goal.returns-then-t-eq0
returns-then-t-eq0 c = sym (at_first _ _ _ c.if-t-eq0.true)

pub returns : goal.returns
returns c = c.word_at.ensures ∙ sym (at-later _ _ _ c.if-t-eq0.false)
