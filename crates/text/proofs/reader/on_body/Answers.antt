-- `reader::on_body` meets its contract. Assumes nothing.
use Rattle.std.proofs.Common.{arith}
use Rattle.text.proofs.Arms.{body-then, body-do, body_end, body-broken, top-shown}
use Rattle.text.proofs.reader.on_body.Goals as goal

pub returns-then-c-top : goal.returns-then-c-top
returns-then-c-top c =
    let args = c.args in
    let if1 = c.if-c-top in
    record {
      grows = c.turned.ensures.grows;
      follows = (λ n r h.
          let top = top-shown h c.top-top.ensures.code in
          rw (body-then args.t r top if1.true) (c.turned.ensures.follows n r h));
    }

pub returns-then-c-top-2 : goal.returns-then-c-top-2
returns-then-c-top-2 c =
    let args = c.args in
    let if1 = c.if-c-top in
    let if2 = c.if-c-top-2 in
    record {
      grows = c.turned-then-c-top-2.ensures.grows;
      follows = (λ n r h.
          let top = top-shown h c.top-top.ensures.code in
          rw (body-do args.t r top if1.false if2.true) (c.turned-then-c-top-2.ensures.follows n r h));
    }

pub returns-then-c-top-3 : goal.returns-then-c-top-3
returns-then-c-top-3 c =
    let args = c.args in
    let if1 = c.if-c-top in
    let if2 = c.if-c-top-2 in
    let if3 = c.if-c-top-3 in
    record {
      grows = omega (arith, c.closed.ensures.grows);
      follows = (λ n r h.
          let top = top-shown h c.top-top.ensures.code in
          rw (body_end args.t r top if1.false if2.false if3.true) (c.closed.ensures.follows n r h));
    }

pub returns : goal.returns
returns c =
    let args = c.args in
    let if1 = c.if-c-top in
    let if2 = c.if-c-top-2 in
    let if3 = c.if-c-top-3 in
    record {
      grows = omega (arith, c.broken.ensures.grows);
      follows = (λ n r h.
          let top = top-shown h c.top-top.ensures.code in
          rw (body-broken args.t r top if1.false if2.false if3.false) (c.broken.ensures.follows _ r h));
    }
