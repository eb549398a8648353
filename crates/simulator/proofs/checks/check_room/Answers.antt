-- `check_room` meets its contract. Assumes nothing.
use Prim.Native.Nat.{◌+◌}
use native.Mathlib.Omega.{arith}
use lib.ListN.{length}
use Rattle.model.specs.State.{base}
use Rattle.simulator.proofs.Refusing.{is-long}
use Rattle.simulator.proofs.checks.check_room.Goals as goal

pub returns : goal.returns
returns c =
    let args = c.args in
    is-long (length args.state.now) (base args.format args.n + 512) (omega (arith, c.base.ensures))
