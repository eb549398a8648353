-- `reader::on_after_statement` meets its contract. Assumes nothing.
use Rattle.std.proofs.Common.{arith}
use Rattle.model.specs.Reader as model
use Rattle.text.proofs.Bounds.{within-settled}
use Rattle.text.proofs.Arms.{statement-joins, statement-closed, statement-else, statement-end, statement-until, statement-ended, top-shown}
use Rattle.text.proofs.reader.on_after_statement.Goals as goal

pub returns-then-c : goal.returns-then-c
returns-then-c c =
    let args = c.args in
    let if1 = c.if-c in
    record { grows = c.between.ensures.grows; follows = (λ r w h. rw (statement-joins args.t r if1.true) (c.between.ensures.follows r w h)) }

pub returns-then-c-top : goal.returns-then-c-top
returns-then-c-top c =
    let args = c.args in
    let if1 = c.if-c in
    let if2 = c.if-c-top in
    let settled = c.settled-s in
    record {
      grows = omega (arith, settled.ensures.grows, c.closed.ensures.grows);
      follows = (λ r w h.
          let h' = settled.ensures.follows args.nodes.now r h in
          let top = top-shown h' c.top-top.ensures.code in
          rw (statement-closed args.t r top if1.false if2.true) (c.closed.ensures.follows args.nodes.now (model.reduced r) h'));
    }

pub returns-then-c-top-2 : goal.returns-then-c-top-2
returns-then-c-top-2 c =
    let args = c.args in
    let if1 = c.if-c in
    let if2 = c.if-c-top in
    let if3 = c.if-c-top-2 in
    let settled = c.settled-s in
    record {
      grows = omega (arith, settled.ensures.grows, c.turned.ensures.grows);
      follows = (λ r w h.
          let h' = settled.ensures.follows args.nodes.now r h in
          let top = top-shown h' c.top-top.ensures.code in
          rw (statement-else args.t r top if1.false if2.false if3.true) (c.turned.ensures.follows args.nodes.now (model.reduced r) h'));
    }

pub returns-then-c-top-3 : goal.returns-then-c-top-3
returns-then-c-top-3 c =
    let args = c.args in
    let if1 = c.if-c in
    let if2 = c.if-c-top in
    let if3 = c.if-c-top-2 in
    let if4 = c.if-c-top-3 in
    let settled = c.settled-s in
    record {
      grows = omega (arith, settled.ensures.grows, c.closed-then-c-top-3.ensures.grows);
      follows = (λ r w h.
          let h' = settled.ensures.follows args.nodes.now r h in
          let top = top-shown h' c.top-top.ensures.code in
          rw (statement-end args.t r top if1.false if2.false if3.false if4.true) (c.closed-then-c-top-3.ensures.follows args.nodes.now (model.reduced r) h'));
    }

pub returns-then-c-top-4 : goal.returns-then-c-top-4
returns-then-c-top-4 c =
    let args = c.args in
    let if1 = c.if-c in
    let if2 = c.if-c-top in
    let if3 = c.if-c-top-2 in
    let if4 = c.if-c-top-3 in
    let if5 = c.if-c-top-4 in
    let settled = c.settled-s in
    record {
      grows = omega (arith, settled.ensures.grows, c.rewound-u.ensures.grows, c.turned-then-c-top-4.ensures.grows);
      follows = (λ r w h.
          let h' = settled.ensures.follows args.nodes.now r h in
          let top = top-shown h' c.top-top.ensures.code in
          let u = c.rewound-u.ensures.follows args.nodes.now (model.reduced r) (within-settled r w) h' in
          rw (statement-until args.t r top if1.false if2.false if3.false if4.false if5.true)
          (c.turned-then-c-top-4.ensures.follows args.nodes.now _ u));
    }

pub returns : goal.returns
returns c =
    let args = c.args in
    let if1 = c.if-c in
    let if2 = c.if-c-top in
    let if3 = c.if-c-top-2 in
    let if4 = c.if-c-top-3 in
    let if5 = c.if-c-top-4 in
    let settled = c.settled-s in
    record {
      grows = omega (arith, c.broken.ensures.grows);
      follows = (λ r w h.
          let h' = settled.ensures.follows args.nodes.now r h in
          let top = top-shown h' c.top-top.ensures.code in
          rw (statement-ended args.t r top if1.false if2.false if3.false if4.false if5.false) (c.broken.ensures.follows _ r h));
    }
