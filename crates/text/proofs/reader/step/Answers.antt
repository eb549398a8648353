-- `reader::step` meets its contract. Assumes nothing.
use Rattle.std.proofs.Common.{◌≤◌, arith}
use Rattle.model.specs.Reader.{step_of}
use Rattle.text.specs.Shown.{limit_of}
use Rattle.text.proofs.Arms.{step_in}
use Rattle.text.proofs.reader.step.Goals as goal

pub on_ticks-requires : goal.on_ticks-requires
unfolding limit_of
on_ticks-requires c =
    let args = c.args in
    let pre = c.requires in
    let few : args.t.value ≤ 255 = rw c.in-Ticks.is at pre.1 in
    (pre.0.nodes, few)

pub on_delay-requires : goal.on_delay-requires
unfolding limit_of
on_delay-requires c =
    let args = c.args in
    let pre = c.requires in
    let few : args.t.value ≤ 255 = rw c.in-Delay.is at pre.1 in
    (omega (arith, pre.0.stack, pre.0.height), pre.0.nodes, few)

pub returns-in-Statement : goal.returns-in-Statement
unfolding step_of
returns-in-Statement c =
    let args = c.args in
    record { grows = c.on_statement.ensures.grows; follows = (λ r w h. rw (step_in args.t r h c.in-Statement.is) (c.on_statement.ensures.follows r w h)) }

pub returns-in-AfterStatement : goal.returns-in-AfterStatement
unfolding step_of
returns-in-AfterStatement c =
    let args = c.args in
    record { grows = c.on_after_statement.ensures.grows; follows = (λ r w h. rw (step_in args.t r h c.in-AfterStatement.is) (c.on_after_statement.ensures.follows r w h)) }

pub returns-in-Operand : goal.returns-in-Operand
unfolding step_of
returns-in-Operand c =
    let args = c.args in
    record { grows = c.on_operand.ensures.grows; follows = (λ r w h. rw (step_in args.t r h c.in-Operand.is) (c.on_operand.ensures.follows r w h)) }

pub returns-in-AfterOperand : goal.returns-in-AfterOperand
unfolding step_of
returns-in-AfterOperand c =
    let args = c.args in
    record { grows = c.on_after_operand.ensures.grows; follows = (λ r w h. rw (step_in args.t r h c.in-AfterOperand.is) (c.on_after_operand.ensures.follows r w h)) }

pub returns-in-Becomes : goal.returns-in-Becomes
unfolding step_of
returns-in-Becomes c =
    let args = c.args in
    record { grows = omega (arith, c.on_becomes.ensures.grows); follows = (λ r w h. rw (step_in args.t r h c.in-Becomes.is) (c.on_becomes.ensures.follows _ r h)) }

pub returns-in-Ticks : goal.returns-in-Ticks
unfolding step_of
returns-in-Ticks c =
    let args = c.args in
    record { grows = omega (arith, c.on_ticks.ensures.grows); follows = (λ r w h. rw (step_in args.t r h c.in-Ticks.is) (c.on_ticks.ensures.follows args.stack.now r h)) }

pub returns-in-Delay : goal.returns-in-Delay
unfolding step_of
returns-in-Delay c =
    let args = c.args in
    record { grows = omega (arith, c.on_delay.ensures.grows); follows = (λ r w h. rw (step_in args.t r h c.in-Delay.is) (c.on_delay.ensures.follows r h)) }

pub returns-in-Body : goal.returns-in-Body
unfolding step_of
returns-in-Body c =
    let args = c.args in
    record { grows = omega (arith, c.on_body.ensures.grows); follows = (λ r w h. rw (step_in args.t r h c.in-Body.is) (c.on_body.ensures.follows args.nodes.now r h)) }

pub returns-in-Broken : goal.returns-in-Broken
unfolding step_of
returns-in-Broken c =
    let args = c.args in
    record { grows = omega arith; follows = (λ r w h. rw (step_in args.t r h c.in-Broken.is) h) }
