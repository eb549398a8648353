-- `writing::told` meets its contract, outcome by outcome. Assumes nothing.
use Rattle.std.proofs.Common.{sym, ◌∙◌}
use Rattle.std.proofs.lemmas.Result.{err_from_is_err_and}
use Rattle.exports.proofs.Answering.{write-long, write-refused, write-short, write_done}
use Rattle.exports.proofs.writing.told.Goals as goal

pub returns-then-pulse_wrong : goal.returns-then-pulse_wrong
returns-then-pulse_wrong c =
    let right = rw c.from.ensures at c.pulse_wrong.ensures in
    λ cs lent p l. c.refuse.ensures ∙ write-long c.args.pulse cs c.args.finish lent (sym right ∙ c.if-pulse_wrong.true)

pub returns-in_err-checked : goal.returns-in_err-checked
returns-in_err-checked c =
    let right = rw c.from.ensures at c.pulse_wrong.ensures in
    let e = err_from_is_err_and c.from_residual.result c.from_residual.ensures.1 in
    λ cs lent p l. rw (e.1, e.2) (write-refused c.args.pulse cs c.args.finish lent (sym right ∙ c.if-pulse_wrong.false) (sym (c.in_err-checked.ensures cs c.args.finish p)))

pub returns-then-room-count : goal.returns-then-room-count
returns-then-room-count c =
    let right = rw c.from.ensures at c.pulse_wrong.ensures in
    let short = rw c.blocks_for-count.ensures at c.if-room-count.true in
    λ cs lent p l.
    c.refuse-then-room-count.ensures ∙ write-short c.args.pulse cs c.args.finish lent (sym right ∙ c.if-pulse_wrong.false) (sym (c.in_ok-checked.ensures cs c.args.finish p)) p.count l short

pub returns : goal.returns
returns c =
    let right = rw c.from.ensures at c.pulse_wrong.ensures in
    let fits = rw c.blocks_for-count.ensures at c.if-room-count.false in
    λ cs lent p l.
    rw c.blocks_for-count.ensures (write_done c.args.pulse cs c.args.finish lent (sym right ∙ c.if-pulse_wrong.false) (sym (c.in_ok-checked.ensures cs c.args.finish p)) p.count l fits)
