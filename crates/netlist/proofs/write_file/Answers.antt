-- `write_file` meets its contract. Assumes nothing.
use Rattle.std.proofs.Common.{◌∙◌}
use Rattle.netlist.proofs.Calls.{file-short, file-done}
use Rattle.netlist.proofs.write_file.Goals as goal

pub returns-then-file-count : goal.returns-then-file-count
returns-then-file-count c =
    let args = c.args in
    let clauses = file-short args.pulse args.cells.now args.n args.finish args.file.now (rw c.blocks_for-count.ensures at c.if-file-count.true) in record { answer = c.refuse.ensures ∙ clauses.0; lent = clauses.1 }

pub returns : goal.returns
returns c =
    let args = c.args in
    let clauses = file-done args.pulse args.cells.now args.n args.finish args.file.now (rw c.blocks_for-count.ensures at c.if-file-count.false) c.put_file.ensures in record { answer = rw c.blocks_for-count.ensures clauses.0; lent = clauses.1 }
