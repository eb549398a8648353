-- `walk::put_end` meets its contract. Assumes nothing.
use Rattle.functional.proofs.Branches.{end-done}
use Rattle.functional.proofs.walk.put_end.Goals as goal

pub returns : goal.returns
returns c =
    let args = c.args in
    end-done args.set c.many-n.result args.word args.ws c.same.result c.same-2.result
    c.placed.result args.p args.q _ c.many-n.ensures c.put.ensures c.put_masks.ensures c.same.ensures
    c.same-2.ensures c.put_choices-end.ensures.cells c.put_choices-end.ensures.next c.placed.ensures
