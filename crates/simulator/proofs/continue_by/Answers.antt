-- `continue_by` meets its contract. Assumes nothing.
use mathlib.Core.Path.{sym, ◌∙◌, ap}
use Rattle.model.specs.Calls.{continue_call}
use Rattle.model.specs.NetlistFile.{net_of, finish_of}
use Rattle.simulator.proofs.Continuing.{with_none}
use Rattle.simulator.proofs.Refusing.{continue-accepted, going-refused, going_done}
use Rattle.simulator.specs.Levels.{told}
use Rattle.model.specs.State.{Course}
use Rattle.simulator.proofs.continue_by.Goals as goal

pub returns-in-Err : goal.returns-in-Err
unfolding continue_call
returns-in-Err c =
    let check-continue = c.check_continue in
    let clauses = going-refused _ _ _ _ _ _ _ (sym check-continue.ensures ∙ c.in-Err.is) c.refused.ensures in record { answer = clauses.0; lent = clauses.1 }

pub continue_by-requires : goal.continue_by-requires
continue_by-requires c =
    let args = c.args in
    continue-accepted args.format args.netlist.now args.n args.state.now (sym c.check_continue.ensures ∙ c.in_default.is)

pub returns : goal.returns
unfolding continue_call
returns c =
    let check-continue = c.check_continue in
    let args = c.args in
    let F = args.format in
    let file = args.netlist.now in
    let done = c.continue_by.ensures in
    let none = with_none F (net_of file) (finish_of file) args.n args.state.now in
    let clauses = going_done _ _ _ _ _ _ _ (sym check-continue.ensures ∙ c.in_default.is) (done.answer ∙ ap (told F file) none) (done.state ∙ ap (λ (x : Course). x.state) none) in record { answer = clauses.0; lent = clauses.1 }
