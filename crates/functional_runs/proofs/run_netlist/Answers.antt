-- `run_netlist` meets its contract. Assumes nothing.
use Rattle.std.proofs.Common.{rules, List, ℕ}
use Rattle.model.specs.Calls.{run_netlist_call}
use Rattle.functional_runs.specs.Modes.{Answers}
use Rattle.functional_runs.proofs.Telling.{run-refuses, run-runs}
use Rattle.functional_runs.proofs.run_netlist.Goals as goal

pub functionally-requires-clause-sized : goal.functionally-requires-clause-sized
functionally-requires-clause-sized c = λ a s h l v.
    let called : (words : List ℕ) × (n : ℕ) × Answers (run_netlist_call c.args.netlist.now words n c.args.state.now) a s = search rules in
    run-runs _ _ _ _ l called.2 v

pub returns : goal.returns
returns c =
    let told = c.functionally.ensures (run_netlist_call c.args.netlist.now c.args.words.now c.args.budget c.args.state.now) (run-refuses _ _ _ _) (λ a s h. search rules) in
    record { answer = told.0; lent = told.1 }
