-- `same::is_file_of` meets its contract. Assumes nothing.
use Rattle.std.proofs.Common.{sym, ◌∙◌, arith}
use Rattle.netlist.proofs.Comparing.{other-header, same-header, header-room}
use Rattle.netlist.proofs.same.is_file_of.Goals as goal

pub returns-then-ne : goal.returns-then-ne
returns-then-ne c =
    let args = c.args in
    other-header args.file.now (λ i. omega (arith, c.shared_slice_known-1.given i)) c.requires.0 args.pulse args.cells.now args.n args.finish c.requires.2 c.requires.3 c.header_of.ensures (sym c.ne.ensures ∙ c.if-ne.true)

pub same_cells-requires : goal.same_cells-requires
same_cells-requires c =
    let args = c.args in
    (header-room args.file.now (λ i. omega (arith, c.shared_slice_known-1.given i)) c.requires.0 args.pulse args.cells.now args.n args.finish c.requires.2 c.requires.3 c.header_of.ensures (sym c.ne.ensures ∙ c.if-ne.false), c.requires.1)

pub returns : goal.returns
returns c =
    let args = c.args in
    same-header args.file.now (λ i. omega (arith, c.shared_slice_known-1.given i)) c.requires.0 args.pulse args.cells.now args.n args.finish c.requires.2 c.requires.3 c.header_of.ensures (sym c.ne.ensures ∙ c.if-ne.false) c.same_cells.ensures
