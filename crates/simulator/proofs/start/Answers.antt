-- `start` meets its contract. Assumes nothing.
use mathlib.Core.Bool.{true}
use mathlib.Core.Path.{refl, sym, ◌∙◌, ap}
use Rattle.model.specs.Calls.{start_call}
use Rattle.model.specs.NetlistFile.{net_of, finish_of}
use Rattle.simulator.proofs.Continuing.{with-one}
use Rattle.simulator.proofs.Crowding.{quiet-roomy}
use Rattle.simulator.proofs.Answers.{told-shows}
use Rattle.simulator.specs.Levels.{told}
use Rattle.model.specs.State.{Course}
use Rattle.simulator.proofs.Refusing.{start-accepted, run-refused, run-done}
use Rattle.simulator.proofs.start.Goals as goal

pub returns-in-Err : goal.returns-in-Err
unfolding start_call
returns-in-Err c =
    let check-start = c.check_start in
    let clauses = run-refused _ _ _ _ _ _ _ _ (sym check-start.ensures ∙ c.in-Err.is) c.refused.ensures in record { answer = clauses.0; lent = clauses.1 }

pub continue_by-requires : goal.continue_by-requires
continue_by-requires c =
    let args = c.args in
    let z = start-accepted args.format args.netlist.now args.state.now (sym c.check_start.ensures ∙ c.in_default.is) in
    (z.0, z.1, z.2)

pub returns : goal.returns
unfolding start_call
returns c =
    let check-start = c.check_start in
    let args = c.args in
    let F = args.format in
    let file = args.netlist.now in
    let accepted = sym check-start.ensures ∙ c.in_default.is in
    let z = start-accepted F file args.state.now accepted in
    let done = c.continue_by.ensures in
    let one = with-one F (net_of file) true (finish_of file) args.state.now (quiet-roomy F (net_of file) args.state.now _ z.2 z.3) in
    let clauses = run-done _ _ _ _ _ _ _ _ accepted (done.answer ∙ ap (told F file) one ∙ told-shows F file _ refl) (done.state ∙ ap (λ (x : Course). x.state) one) in record { answer = clauses.0; lent = clauses.1 }
