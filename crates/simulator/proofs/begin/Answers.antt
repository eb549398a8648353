-- `begin` meets its contract. Assumes nothing.
use mathlib.Core.Path.{sym, ◌∙◌}
use Rattle.model.specs.Calls.{begin_call}
use Rattle.simulator.proofs.Refusing.{run-refused, run-done}
use Rattle.simulator.proofs.begin.Goals as goal

pub returns-in-Err : goal.returns-in-Err
unfolding begin_call
returns-in-Err c =
    let check-begin = c.check_begin in
    let clauses = run-refused _ _ _ _ _ _ _ _ (sym check-begin.ensures ∙ c.in-Err.is) c.refused.ensures in record { answer = clauses.0; lent = clauses.1 }

pub returns : goal.returns
unfolding begin_call
returns c =
    let done = c.begin.ensures in
    let clauses = run-done _ _ _ _ _ _ _ _ (sym c.check_begin.ensures ∙ c.in_default.is) done.answer done.state in record { answer = clauses.0; lent = clauses.1 }
