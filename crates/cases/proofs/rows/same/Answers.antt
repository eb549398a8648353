-- `rows::same` meets its contract: equal bytes are equal answers. Assumes nothing.
use mathlib.Core.Path.{sym, ◌∙◌}
use lib.Pointwise.{bytes_decides}
use Rattle.cases.proofs.Laws.{same-all, same_head}
use Rattle.cases.proofs.rows.same.Goals as goal

pub returns-then-x-eq2 : goal.returns-then-x-eq2
returns-then-x-eq2 c =
    λ t. same_head c.args.a c.args.b c.bytes_of-x.ensures c.bytes_of-y.ensures c.if-x-eq2.true ((bytes_decides _ _).0 (sym c.eq.ensures ∙ t))

pub returns-else-x-eq2 : goal.returns-else-x-eq2
returns-else-x-eq2 c = λ t. same-all c.args.a c.args.b c.bytes_of-x.ensures c.bytes_of-y.ensures ((bytes_decides _ _).0 (sym c.eq-else-x-eq2.ensures ∙ t))
