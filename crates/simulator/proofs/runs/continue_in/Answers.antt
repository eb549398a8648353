-- `continue_in` meets its contract. Assumes nothing.
use mathlib.Core.Path.{◌≡◌, ◌∙◌}
use Rattle.model.specs.Refusals.{Accepted}
use Rattle.simulator.specs.Levels.{continued_with}
use Rattle.model.specs.NetlistFile.{net_of, finish_of}
use Rattle.simulator.proofs.Continuing.{full-accepted}
use Rattle.simulator.proofs.runs.continue_in.Goals as goal

pub returns-in-Full : goal.returns-in-Full
returns-in-Full c =
    let args = c.args in
    let went = c.continue_state.ensures in
    let accepted : (continued_with args.source.now.format (net_of args.source.now.file.now) args.starts (finish_of args.source.now.file.now) args.budget args.state.now).check ≡ Accepted =
    rw c.in-Full.is (full-accepted (net_of args.source.now.file.now) args.starts (finish_of args.source.now.file.now) args.budget args.state.now) in
    record { check = went.check; count = went.count; state = went.state (went.check ∙ accepted) }
