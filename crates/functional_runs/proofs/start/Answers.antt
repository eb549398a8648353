-- `start` meets its contract. Assumes nothing.
use Rattle.std.proofs.Common.{rules}
use Rattle.model.specs.Calls.{start_call}
use Rattle.functional_runs.specs.Modes.{Answers}
use Rattle.functional_runs.proofs.Telling.{start-refuses, start-runs}
use Rattle.functional_runs.proofs.start.Goals as goal

pub functionally-requires-clause-sized : goal.functionally-requires-clause-sized
functionally-requires-clause-sized c = λ a s h l v.
    let called : Answers (start_call c.args.format c.args.netlist.now c.args.state.now) a s = search rules in
    start-runs _ _ _ l called v

pub returns : goal.returns
returns c =
    let told = c.functionally.ensures (start_call c.args.format c.args.netlist.now c.args.state.now) (start-refuses _ _ _) (λ a s h. search rules) in
    record { answer = told.0; lent = told.1 }
