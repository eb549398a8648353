-- `continue_by` meets its contract. Assumes nothing.
use mathlib.Core.Path.{sym, ◌∙◌, ap₂}
use Rattle.model.specs.Calls.{shows}
use Rattle.simulator.proofs.Answers.{told-refused, told-shows}
use Rattle.simulator.proofs.runs.continue_by.Goals as goal

pub returns-in-Err : goal.returns-in-Err
returns-in-Err c =
    let continue-in = c.continue_in-went in
    let args = c.args in
    let went = continue-in.ensures in
    record { state = went.state; answer = c.refused.ensures ∙ sym (told-refused args.format args.file.now _ _ (sym went.check ∙ c.in-Err.is)) }

pub returns : goal.returns
returns c =
    let continue-in = c.continue_in-went in
    let args = c.args in
    let went = continue-in.ensures in
    let file = args.file.now in
    record { state = went.state; answer = c.shows.ensures ∙ ap₂ (shows args.format file) went.state went.count ∙ sym (told-shows args.format file _ (sym went.check ∙ c.in_default.is)) }
