-- `ors::put_memories` meets its contract: putting in the memories that are left comes out as at the start. Assumes nothing.
use mathlib.Core.Path.{◌≡◌}
use Prim.Native.Nat.{◌+◌, ◌-◌}
use lib.ListN.{length}
use Rattle.model.specs.Numbering.{memories_of}
use Rattle.compiler.specs.Writes.{write}
use Rattle.compiler.proofs.ors.put_memories.Given as goal

abbrev pub invariant-loop-x : goal.invariant-loop-x
invariant-loop-x l =
    (write (l.memory + l.x) (memories_of l.clocks l.datas l.x (16 - l.x)) l.cells ≡ write l.memory (memories_of l.clocks l.datas 0 16) l.initial.cells)
    × (length l.cells ≡ length l.initial.cells)
