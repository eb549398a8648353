-- `reader::on_operand` meets its contract. Assumes nothing.
use Rattle.std.proofs.Common.{arith}
use Rattle.text.proofs.Arms.{operand-leaf, operand-complement, operand-paren, operand-broken}
use Rattle.text.proofs.reader.on_operand.Goals as goal

pub returns-in-1 : goal.returns-in-1
returns-in-1 c =
    let args = c.args in
    record { grows = omega (arith, c.leaf.ensures.grows); follows = (λ r w h. rw (operand-leaf args.t r (omega arith) (omega arith)) (c.leaf.ensures.follows args.stack.now r w h)) }

pub returns-in-3 : goal.returns-in-3
returns-in-3 c =
    record { grows = c.opened_node.ensures.grows; follows = (λ r w h. rw (operand-complement c.args.t r c.in-3.is, ← c.bare.ensures) (c.opened_node.ensures.follows r w h)) }

pub returns-in-38 : goal.returns-in-38
returns-in-38 c =
    let args = c.args in
    record { grows = omega (arith, c.opened.ensures.grows); follows = (λ r w h. rw (operand-paren args.t r c.in-38.is) (c.opened.ensures.follows args.nodes.now r h)) }

pub returns-in_default : goal.returns-in_default
returns-in_default c = record {
  grows = omega (arith, c.broken.ensures.grows);
  follows = (λ r w h.
      rw (operand-broken c.args.t r (λ e. omega (arith, e)) (λ e. omega (arith, e)) (λ e. omega (arith, e)) (λ e. omega (arith, e))) (c.broken.ensures.follows _ r h));
}
