-- `ors::put_arrays` meets its contract: putting in the arrays that are left comes out as at the start. Assumes nothing.
use mathlib.Core.Path.{◌≡◌}
use Prim.Native.Nat.{◌+◌, ◌-◌, ◌*◌}
use lib.ListN.{length, drop}
use Rattle.model.specs.Numbering.{arrays_of}
use Rattle.compiler.specs.Writes.{write}
use Rattle.compiler.proofs.ors.put_arrays.Given as goal

abbrev pub invariant-loop-k : goal.invariant-loop-k
invariant-loop-k l =
    (write (l.first + 2 * l.k) (arrays_of l.clocks l.datas (drop 16 l.addresses) l.k (4 - l.k)) l.cells ≡ write l.first (arrays_of l.clocks l.datas (drop 16 l.addresses) 0 4) l.initial.cells)
    × (length l.cells ≡ length l.initial.cells)
