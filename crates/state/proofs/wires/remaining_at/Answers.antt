-- `remaining_at` meets its contract. Assumes nothing.
use mathlib.Core.Path.{ap}
use Prim.Native.Nat.{ℕ}
use native.Mathlib.Omega.{arith}
use lib.ListN.{get_or}
use Rattle.state.proofs.Remaining.{remaining-inside}
use Rattle.state.proofs.wires.remaining_at.Goals as goal

pub bounds-state-remaining_byte : goal.bounds-state-remaining_byte
bounds-state-remaining_byte c =
    let args = c.args in
    omega (arith, c.remaining_byte.ensures, remaining-inside args.format args.state.now args.k c.requires)

pub returns : goal.returns
returns c = ap (λ (i : ℕ). get_or c.args.state.now i 0) c.remaining_byte.ensures
