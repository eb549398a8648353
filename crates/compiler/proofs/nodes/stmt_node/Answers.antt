-- `nodes::stmt_node` meets its contract. Assumes nothing.
use Rattle.compiler.proofs.Reading.{no_node, other-stmt, stmt-read}
use Rattle.compiler.proofs.nodes.stmt_node.Goals as goal

pub returns-in-Some : goal.returns-in-Some
returns-in-Some c = stmt-read _ _ c.in-Some.ensures c.if-a-ge16.true

pub returns-in_default : goal.returns-in_default
returns-in_default c = other-stmt _ _ c.in-Some.ensures c.if-a-ge16.false

pub returns-in_default-2 : goal.returns-in_default-2
returns-in_default-2 c = (no_node _ _ c.in_default.ensures).1
