-- Which bodies do it: the array has it of the first p.
use mathlib.Core.Path.{◌≡◌}
use Prim.Native.Nat.{◌≤◌}
use lib.ListN.{length}
use Rattle.model.specs.Program.{program_of}
use Rattle.program.proofs.Bodies.{Staged}
use Rattle.program.proofs.clashes.bodies_with.Given as goal

abbrev pub invariant-loop-p : goal.invariant-loop-p
invariant-loop-p l =
    (l.p ≤ l.procedures) × (length l.bodies ≡ 8) × Staged (program_of 1 l.procedures l.tree.program.now).bodies l.mark l.p l.bodies
