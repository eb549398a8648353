-- `hub_check_cells` meets its contract: what is told is what the check of the cells answers. Assumes nothing.
use Rattle.std.proofs.Common.{◌∙◌, ap}
use Rattle.reply.specs.Replies.{checked_reply}
use Rattle.reply.proofs.Rooms.{room, put_in}
use Rattle.exports.proofs.hub_check_cells.Goals as goal

pub returns : goal.returns
returns c =
    let args = c.args in
    let told = c.checked-answer.ensures args.cells.now args.finish c.scanned.ensures in
    record { done = room args.reply.now c.if-reply-lt-LENGTH.false; reply = put_in args.reply.now c.if-reply-lt-LENGTH.false _ _ _ c.put.ensures (c.from.ensures ∙ ap checked_reply told) }
