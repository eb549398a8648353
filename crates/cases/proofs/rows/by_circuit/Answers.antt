-- `rows::by_circuit` meets its contract. Assumes nothing.
use Rattle.std.proofs.Common.{◌≡◌}
use Rattle.model.specs.TimeTables.{built_in, beside, load}
use Rattle.cases.proofs.rows.by_circuit.Goals as goal

pub returns : goal.returns
returns c =
    let given : c.load.result ≡ load (beside built_in c.args.procedures 1) = c.load.ensures in
    rw (given, c.start.ensures) at c.run_program.ensures.answer
