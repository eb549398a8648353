-- `reading::told` meets its contract, outcome by outcome. Assumes nothing.
use Rattle.std.proofs.Common.{sym, ◌∙◌, arith}
use Rattle.std.proofs.lemmas.Result.{err_from_is_err_and}
use Rattle.netlist.proofs.FileChecks.{accepted-whole}
use Rattle.exports.proofs.Planning.{read-refused, read-short, read-done}
use Rattle.exports.proofs.reading.told.Goals as goal

pub returns-in_err-check_file : goal.returns-in_err-check_file
returns-in_err-check_file c =
    let p = err_from_is_err_and c.from_residual.result c.from_residual.ensures.1 in
    λ lent l. rw (p.1, p.2) (read-refused c.args.file.now c.args.at lent (sym c.in_err-check_file.ensures))

pub get16-requires : goal.get16-requires
get16-requires c = omega (arith, accepted-whole c.args.file.now (sym c.in_ok-check_file.ensures))

pub get16-finish-requires : goal.get16-finish-requires
get16-finish-requires c = omega (arith, accepted-whole c.args.file.now (sym c.in_ok-check_file.ensures))

pub returns-then-lacks : goal.returns-then-lacks
returns-then-lacks c =
    let args = c.args in
    λ lent l.
    c.refuse.ensures
    ∙ read-short args.file.now args.at lent (sym c.in_ok-check_file.ensures) (c.from-count.ensures ∙ c.get16.ensures) l (sym c.lacks.ensures ∙ c.if-lacks.true)

pub returns : goal.returns
returns c =
    let args = c.args in
    λ lent l.
    read-done args.file.now args.at lent (sym c.in_ok-check_file.ensures) (c.from-count.ensures ∙ c.get16.ensures) l c.get16-finish.ensures (sym c.lacks.ensures ∙ c.if-lacks.false)
