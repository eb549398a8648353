-- `reader::on_statement` meets its contract. Assumes nothing.
use Rattle.std.proofs.Common.{arith}
use Rattle.text.proofs.Arms.{statement-ok, statement-tick, statement-name, statement-condition, statement-repeat, statement-brace, statement-broken}
use Rattle.text.proofs.reader.on_statement.Goals as goal

pub returns-in-16 : goal.returns-in-16
returns-in-16 c =
    let args = c.args in
    record { grows = omega (arith, c.leaf.ensures.grows); follows = (λ r w h. rw (statement-ok args.t r c.in-16.is, ← c.bare.ensures) (c.leaf.ensures.follows args.stack.now r w h)) }

pub returns-in-17 : goal.returns-in-17
returns-in-17 c =
    let args = c.args in
    record { grows = omega (arith, c.leaf-in-17.ensures.grows); follows = (λ r w h. rw (statement-tick args.t r c.in-17.is, ← c.bare-in-17.ensures) (c.leaf-in-17.ensures.follows args.stack.now r w h)) }

pub returns-in-2 : goal.returns-in-2
returns-in-2 c =
    record { grows = c.opened_node.ensures.grows; follows = (λ r w h. rw (statement-name c.args.t r c.in-2.is) (c.opened_node.ensures.follows r w h)) }

pub returns-in-21 : goal.returns-in-21
returns-in-21 c =
    record { grows = c.opened_node-in-21.ensures.grows; follows = (λ r w h. rw (statement-condition c.args.t r (omega arith) (omega arith), ← c.bare-in-21.ensures) (c.opened_node-in-21.ensures.follows r w h)) }

pub returns-in-23 : goal.returns-in-23
returns-in-23 c =
    record { grows = c.opened_node-in-23.ensures.grows; follows = (λ r w h. rw (statement-repeat c.args.t r c.in-23.is, ← c.bare-in-23.ensures) (c.opened_node-in-23.ensures.follows r w h)) }

pub returns-in-40 : goal.returns-in-40
returns-in-40 c =
    let args = c.args in
    record { grows = omega (arith, c.opened.ensures.grows); follows = (λ r w h. rw (statement-brace args.t r c.in-40.is) (c.opened.ensures.follows args.nodes.now r h)) }

pub returns-in_default : goal.returns-in_default
returns-in_default c =
    record {
      grows = omega (arith, c.broken.ensures.grows);
      follows = (λ r w h.
          rw (statement-broken c.args.t r (λ e. omega (arith, e)) (λ e. omega (arith, e)) (λ e. omega (arith, e)) (λ e. omega (arith, e)) (λ e. omega (arith, e)) (λ e. omega (arith, e)) (λ e. omega (arith, e)))
          (c.broken.ensures.follows _ r h));
    }
