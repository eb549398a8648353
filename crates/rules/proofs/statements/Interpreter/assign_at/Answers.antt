-- An assignment: the value, the word put, and its delay with what a write costs.
use Rattle.std.proofs.Common.{◌<◌, length, arith}
use Rattle.rules.proofs.Parts.{assign-low}
use Rattle.rules.proofs.Runs.{run-assign}
use Rattle.rules.proofs.Stores.{store-set}
use Rattle.rules.proofs.statements.Interpreter.assign_at.Goals as goal

pub returns : goal.returns
returns c =
    let args = c.args in
    let value = c.eval_at-value in
    let low : args.x < length args.words.now = omega (arith, assign-low c.requires.0) in
    run-assign _ _ _ _ _ _ _ _ _ _ value.ensures (store-set args.words.now args.x value.result low) (c.pause.ensures _)
