-- `sets::placed` meets its contract. Assumes nothing.
use mathlib.Core.Path.{◌≡◌}
use Prim.Native.Nat.{◌+◌, ◌≤◌}
use Rattle.model.specs.Functional.{rank, placed}
use Rattle.functional.specs.Sets.{has, wired}
use Rattle.functional.proofs.Bits.{Upto}
use Rattle.functional.proofs.sets.placed.Given as goal

abbrev pub invariant-loop-x : goal.invariant-loop-x
invariant-loop-x l =
    Upto (placed (has l.set) l.from (wired l.fn.ws.of)) (wired l.fn.ws.of) l.wire-items l.x × (l.at ≡ l.from + rank (has l.set) l.x) × (l.at ≤ l.from + l.x)
