-- `nodes::expr_node` meets its contract. Assumes nothing.
use Rattle.compiler.proofs.Reading.{no_node, other-expr, expr-read}
use Rattle.compiler.proofs.nodes.expr_node.Goals as goal

pub returns-in-Some : goal.returns-in-Some
returns-in-Some c = expr-read _ _ c.in-Some.ensures c.if-a-lt16.true

pub returns-in_default : goal.returns-in_default
returns-in_default c = other-expr _ _ c.in-Some.ensures c.if-a-lt16.false

pub returns-in_default-2 : goal.returns-in_default-2
returns-in_default-2 c = (no_node _ _ c.in_default.ensures).0
