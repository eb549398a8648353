-- A file or nothing, by the flag.
use mathlib.Core.Bool.{Bool}
use mathlib.Core.Path.{sym, ◌∙◌, ap}
use Rattle.model.specs.TimeTables.{given_if, beside, load}
use Rattle.program.proofs.tables.load_if.Goals as goal

pub returns-then-timed : goal.returns-then-timed
unfolding given_if
returns-then-timed c =
    let args = c.args in
    c.load.ensures ∙ ap (λ (b : Bool). load (beside (given_if b args.file.now) args.procedures args.pulse)) (sym c.if-timed.true)

pub returns : goal.returns
unfolding given_if
returns c =
    let args = c.args in
    c.built_in.ensures ∙ ap (λ (b : Bool). load (beside (given_if b args.file.now) args.procedures args.pulse)) (sym c.if-timed.false)
