-- `reader::on_after_operand` meets its contract. Assumes nothing.
use Rattle.std.proofs.Common.{sym, ◌∙◌, arith}
use Rattle.model.specs.Reader as model
use Rattle.text.proofs.Arms.{operator-chained, operator-joins, operand-closed, operand-timed, operand-ended, top-shown}
use Rattle.text.proofs.reader.on_after_operand.Goals as goal

pub returns-then-is_chained : goal.returns-then-is_chained
returns-then-is_chained c =
    let args = c.args in
    let if1 = c.if-c in
    let if2 = c.if-is_chained in
    let is-chained = c.is_chained in
    record {
      grows = omega (arith, c.broken.ensures.grows);
      follows = (λ r w h.
          rw (operator-chained args.t r if1.true (sym (is-chained.ensures args.nodes.now r h) ∙ if2.true)) (c.broken.ensures.follows _ r h));
    }

pub returns-then-c : goal.returns-then-c
returns-then-c c =
    let args = c.args in
    let if1 = c.if-c in
    let if2 = c.if-is_chained in
    let is-chained = c.is_chained in
    record {
      grows = c.between.ensures.grows;
      follows = (λ r w h.
          rw (operator-joins args.t r if1.true (sym (is-chained.ensures args.nodes.now r h) ∙ if2.false)) (c.between.ensures.follows r w h));
    }

pub returns-then-c-top : goal.returns-then-c-top
returns-then-c-top c =
    let args = c.args in
    let if1 = c.if-c in
    let if3 = c.if-c-top in
    let settled = c.settled-s in
    record {
      grows = omega (arith, settled.ensures.grows, c.closed.ensures.grows);
      follows = (λ r w h.
          let h' = settled.ensures.follows args.nodes.now r h in
          let top = top-shown h' c.top-top.ensures.code in
          rw (operand-closed args.t r top if1.false if3.true) (c.closed.ensures.follows args.nodes.now (model.reduced r) h'));
    }

pub returns-then-c-top-2 : goal.returns-then-c-top-2
returns-then-c-top-2 c =
    let args = c.args in
    let if1 = c.if-c in
    let if3 = c.if-c-top in
    let if4 = c.if-c-top-2 in
    let settled = c.settled-s in
    record {
      grows = omega (arith, settled.ensures.grows, c.in_mode.ensures.grows);
      follows = (λ r w h.
          let h' = settled.ensures.follows args.nodes.now r h in
          let top = top-shown h' c.top-top.ensures.code in
          rw (operand-timed args.t r top if1.false if3.false if4.true) (c.in_mode.ensures.follows _ (model.reduced r) h'));
    }

pub returns : goal.returns
returns c =
    let args = c.args in
    let if1 = c.if-c in
    let if3 = c.if-c-top in
    let if4 = c.if-c-top-2 in
    let settled = c.settled-s in
    record {
      grows = omega (arith, c.broken-2.ensures.grows);
      follows = (λ r w h.
          let h' = settled.ensures.follows args.nodes.now r h in
          let top = top-shown h' c.top-top.ensures.code in
          rw (operand-ended args.t r top if1.false if3.false if4.false) (c.broken-2.ensures.follows _ r h));
    }
