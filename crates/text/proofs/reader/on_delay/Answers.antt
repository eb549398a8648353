-- `reader::on_delay` meets its contract. Assumes nothing.
use Rattle.std.proofs.Common.{arith}
use Rattle.text.proofs.Arms.{delay-broken, delay-closes, delay-goes-on, top-shown, start-shown}
use Rattle.text.proofs.reader.on_delay.Goals as goal

pub returns-then-t-ne1 : goal.returns-then-t-ne1
returns-then-t-ne1 c =
    let args = c.args in
    let if1 = c.if-t-ne1 in
    record { grows = c.broken.ensures.grows; follows = (λ r h. rw (delay-broken args.t r if1.true) (c.broken.ensures.follows _ r h)) }

pub returns-then-top-eq18 : goal.returns-then-top-eq18
returns-then-top-eq18 c =
    let args = c.args in
    let if1 = c.if-t-ne1 in
    let if2 = c.if-top-eq18 in
    record {
      grows = omega (arith, c.with_delay-w.ensures.grows, c.closed.ensures.grows);
      follows = (λ r h.
          let top = top-shown h c.top-top.ensures.code in
          let p = start-shown h c.top-top.ensures.start in
          rw (delay-closes args.t r top if1.false if2.true, ← p)
          (c.closed.ensures.follows c.with_delay-w.new.nodes _ (c.with_delay-w.ensures.follows args.stack.now r h)));
    }

pub returns : goal.returns
returns c =
    let args = c.args in
    let if1 = c.if-t-ne1 in
    let if2 = c.if-top-eq18 in
    record {
      grows = c.with_delay-w.ensures.grows;
      follows = (λ r h.
          let top = top-shown h c.top-top.ensures.code in
          let p = start-shown h c.top-top.ensures.start in
          rw (delay-goes-on args.t r top if1.false if2.false, ← p) (c.with_delay-w.ensures.follows args.stack.now r h));
    }
