-- `hub_write_cells` meets its contract: what is put in, by what writing answers. Assumes nothing.
use Rattle.std.proofs.Common.{refl, sym, ◌∙◌, ap}
use Rattle.reply.specs.Replies.{written_reply}
use Rattle.reply.proofs.Rooms.{left, put_in}
use Rattle.exports.proofs.Answering.{is-done, is-refused, left-refused, done-fits, done-put}
use Rattle.exports.proofs.hub_write_cells.Goals as goal

pub put_cells-requires : goal.put_cells-requires
put_cells-requires c =
    let args = c.args in
    let (w, e) = is-done c.told-answer.result (sym c.is_ok.ensures.value ∙ c.if-is_ok.true) in
    done-fits args.pulse args.cells.now args.finish args.file.now (sym e ∙ c.told-answer.ensures args.cells.now args.file.now c.scanned-scan.ensures refl)
    (rw c.from-then-is_ok.ensures at c.first_number-first.ensures)

pub returns-then-is_ok-clause-file : goal.returns-then-is_ok-clause-file
returns-then-is_ok-clause-file c =
    let args = c.args in
    let (w, e) = is-done c.told-answer.result (sym c.is_ok.ensures.value ∙ c.if-is_ok.true) in
    left args.reply.now c.if-reply-lt-LENGTH.false _ _ _
    (done-put args.pulse args.cells.now args.finish args.file.now (sym e ∙ c.told-answer.ensures args.cells.now args.file.now c.scanned-scan.ensures refl)
    (rw c.from-then-is_ok.ensures at c.first_number-first.ensures) c.put_cells.ensures)

pub returns-else-is_ok-clause-file : goal.returns-else-is_ok-clause-file
returns-else-is_ok-clause-file c =
    let args = c.args in
    let (q, e) = is-refused c.told-answer.result (sym c.is_ok.ensures.value ∙ c.if-is_ok.false) in
    left args.reply.now c.if-reply-lt-LENGTH.false _ _ _
    (left-refused args.pulse args.cells.now args.finish args.file.now (sym e ∙ c.told-answer.ensures args.cells.now args.file.now c.scanned-scan.ensures refl))

pub returns-else-is_ok-clause-reply : goal.returns-else-is_ok-clause-reply
returns-else-is_ok-clause-reply c =
    let args = c.args in
    put_in args.reply.now c.if-reply-lt-LENGTH.false _ _ _ c.put.ensures
    (c.from.ensures ∙ ap written_reply (c.told-answer.ensures args.cells.now args.file.now c.scanned-scan.ensures refl))
