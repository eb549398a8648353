-- `continue_by` meets its contract. Assumes nothing.
use Rattle.std.proofs.Common.{rules, ℕ}
use Rattle.model.specs.Calls.{continue_call}
use Rattle.functional_runs.specs.Modes.{Answers}
use Rattle.functional_runs.proofs.Telling.{continue-refuses, continue-runs}
use Rattle.functional_runs.proofs.continue_by.Goals as goal

pub functionally-requires-clause-sized : goal.functionally-requires-clause-sized
functionally-requires-clause-sized c = λ a s h l v.
    let called : (n : ℕ) × Answers (continue_call c.args.format c.args.netlist.now n c.args.state.now) a s = search rules in
    continue-runs _ _ _ _ l called.1 v

pub returns : goal.returns
returns c =
    let told = c.functionally.ensures (continue_call c.args.format c.args.netlist.now c.args.n c.args.state.now) (continue-refuses _ _ _ _) (λ a s h. search rules) in
    record { answer = told.0; lent = told.1 }
