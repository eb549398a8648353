-- Refusal 22 or 24: the answer from root 0 is the answer from root r.
use mathlib.Core.Path.{◌≡◌}
use Rattle.model.specs.Program.{roots, program_of}
use Rattle.model.specs.ProgramChecks.{in_roots}
use Rattle.program.specs.Roots.{root_fault}
use Rattle.program.proofs.InRoots.{from_root}
use Rattle.program.proofs.roots.first_in_roots.Given as goal

abbrev pub invariant-loop-r : goal.invariant-loop-r
invariant-loop-r l =
    in_roots (root_fault l.late) 0 (roots (program_of 1 l.procedures l.tree.program.now)) 0 ≡ from_root l.late l.procedures l.tree.program.now l.tree.ends.now l.r
