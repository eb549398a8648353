-- `begin` meets its contract. Assumes nothing.
use Rattle.std.proofs.Common.{rules, List, ℕ}
use Rattle.model.specs.Calls.{begin_call}
use Rattle.functional_runs.specs.Modes.{Answers}
use Rattle.functional_runs.proofs.Telling.{begin-refuses, begin-runs}
use Rattle.functional_runs.proofs.begin.Goals as goal

pub functionally-requires-clause-sized : goal.functionally-requires-clause-sized
functionally-requires-clause-sized c = λ a s h l v.
    let called : (words : List ℕ) × Answers (begin_call c.args.format c.args.netlist.now words c.args.state.now) a s = search rules in
    begin-runs _ _ _ _ l called.1 v

pub returns : goal.returns
returns c =
    let told = c.functionally.ensures (begin_call c.args.format c.args.netlist.now c.args.words.now c.args.state.now) (begin-refuses _ _ _ _) (λ a s h. search rules) in
    record { answer = told.0; lent = told.1 }
