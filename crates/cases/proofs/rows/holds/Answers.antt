-- `rows::holds` meets its contract. Assumes nothing.
use mathlib.Core.Path.{subst}
use Rattle.model.specs.declared.Answer.{Answer}
use Rattle.laws.specs.Refusals.Laws.{not-both}
use Rattle.cases.specs.Rows.{Same}
use Rattle.cases.proofs.rows.holds.Goals as goal

pub returns-then-same : goal.returns-then-same
returns-then-same c =
    let wanted = c.args.wanted in
    let is : Answer → Type 0 = λ a. Same a wanted in
    λ t. record {
      circuit = subst is c.by_circuit.ensures (c.same.ensures c.if-same.true);
      rules = subst is c.by_rules.ensures (c.same-then-same.ensures t);
    }

pub returns-else-same : goal.returns-else-same
returns-else-same c = λ t. not-both t c.if-same.false
