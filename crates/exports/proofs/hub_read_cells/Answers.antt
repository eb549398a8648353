-- `hub_read_cells` meets its contract: what is put in, by what reading answers. Assumes nothing.
use Rattle.std.proofs.Common.{refl, sym, ◌∙◌}
use Rattle.reply.proofs.Rooms.{left}
use Rattle.exports.proofs.Planning.{left-refused, done-fits, done-put}
use Rattle.exports.proofs.hub_read_cells.Goals as goal

pub place_cells-requires : goal.place_cells-requires
place_cells-requires c = done-fits c.args.file.now c.args.at c.args.cells.now (sym c.in-Ok.is ∙ c.told-answer.ensures c.args.cells.now refl)

pub returns-in-Ok-clause-cells : goal.returns-in-Ok-clause-cells
returns-in-Ok-clause-cells c =
    let args = c.args in
    left args.reply.now c.if-reply-lt-LENGTH.false _ _ _ (done-put args.file.now args.at args.cells.now (sym c.in-Ok.is ∙ c.told-answer.ensures args.cells.now refl) c.place_cells.ensures)

pub returns-in_default-clause-cells : goal.returns-in_default-clause-cells
returns-in_default-clause-cells c =
    let args = c.args in
    left args.reply.now c.if-reply-lt-LENGTH.false _ _ _ (left-refused args.file.now args.at args.cells.now (sym c.in_default.is ∙ c.told-answer.ensures args.cells.now refl))
