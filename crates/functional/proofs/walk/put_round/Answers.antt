-- `walk::put_round` meets its contract. Assumes nothing.
use Rattle.functional.proofs.Loops.{round-done}
use Rattle.functional.proofs.walk.put_round.Goals as goal

pub returns : goal.returns
returns c =
    let args = c.args in
    round-done args.set c.many-n.result args.at args.again args.us args.m _ c.same.result.of c.placed.result.of
    c.same-2.result.of c.same-3.result.of c.many-n.ensures c.same.ensures c.placed.ensures
    c.same-2.ensures c.same-3.ensures c.put_each.ensures.cells c.put.ensures c.put-2.ensures
    c.put_choices.ensures.cells c.put_choices.ensures.next
