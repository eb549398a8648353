-- `whole::put_roots` meets its contract: what is still to be put in from root r on comes out as at the start. Assumes nothing.
use mathlib.Core.Path.{◌≡◌}
use mathlib.Core.List.{List}
use Prim.Native.Nat.{◌+◌, ◌≤◌}
use Rattle.model.specs.Program.{program_of}
use Rattle.model.specs.Numbering.{Source}
use Rattle.compiler.specs.Whole.{Calls}
use Rattle.compiler.proofs.Roots.{Rooting}
use Rattle.compiler.proofs.whole.put_roots.Given as goal

abbrev pub invariant-loop-r : goal.invariant-loop-r
invariant-loop-r l =
    (l.r ≤ l.input.procedures + 1) × (l.known.tree ≡ l.input.tree) × (l.known.words.first ≡ l.memory) × (l.known.pulse ≡ l.input.pulse)
    × ((cs : List Source) → Calls cs l.callers → Rooting (program_of l.input.pulse l.input.procedures l.input.tree.program.now) cs l.memory l.initial.cells l.initial.marks l.cells l.marks l.known.finishes l.at l.r)
