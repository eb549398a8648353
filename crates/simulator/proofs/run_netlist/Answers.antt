-- `run_netlist` meets its contract. Assumes nothing.
use mathlib.Core.Path.{sym, ◌∙◌}
use Rattle.model.specs.Calls.{run_netlist_call}
use Rattle.simulator.proofs.Refusing.{run-refused, run-done}
use Rattle.simulator.proofs.run_netlist.Goals as goal

pub returns-in-Err : goal.returns-in-Err
unfolding run_netlist_call
returns-in-Err c =
    let check-run = c.check_run in
    let clauses = run-refused _ _ _ _ _ _ _ _ (sym check-run.ensures ∙ c.in-Err.is) c.refused.ensures in record { answer = clauses.0; lent = clauses.1 }

pub returns : goal.returns
unfolding run_netlist_call
returns c =
    let done = c.full_run.ensures in
    let clauses = run-done _ _ _ _ _ _ _ _ (sym c.check_run.ensures ∙ c.in_default.is) done.answer done.state in record { answer = clauses.0; lent = clauses.1 }
