-- `reader::is_chained` meets its contract. Assumes nothing.
use Rattle.std.proofs.Common.{refl}
use Rattle.text.proofs.Arms.{popped-shown}
use Rattle.text.proofs.reader.is_chained.Goals as goal

pub returns : goal.returns
returns c =
    let pop = c.pop-p in
    λ n r h. rw (popped-shown h 7 pop.ensures c.top-top.ensures.code) refl
