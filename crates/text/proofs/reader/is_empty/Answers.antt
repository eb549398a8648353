-- `reader::is_empty` meets its contract. Assumes nothing.
use Rattle.text.proofs.Arms.{empty-shown}
use Rattle.text.proofs.reader.is_empty.Goals as goal

pub returns : goal.returns
returns c =
    let args = c.args in
    let pop = c.pop in
    empty-shown args.stack.now args.height pop.ensures
