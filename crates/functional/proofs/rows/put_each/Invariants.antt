-- `rows::put_each` meets its contract: putting in the cells that are left comes out as at the start. Assumes nothing.
use mathlib.Core.Path.{◌≡◌}
use Prim.Native.Nat.{◌+◌, ◌-◌, ◌≤◌}
use lib.ListN.{length, get_or}
use Rattle.model.specs.Circuit.{cell}
use Rattle.model.specs.Functional.{among, many, rows_of, each}
use Rattle.compiler.specs.Writes.{write}
use Rattle.functional.specs.Sets.{has}
use Rattle.functional.proofs.rows.put_each.Given as goal

abbrev pub invariant-loop-x : goal.invariant-loop-x
invariant-loop-x l =
    (write l.at (rows_of (has l.set) (λ y. cell l.kind 0 (get_or l.a y 0) (get_or l.b y 0)) l.x (16 - l.x)) l.cells
    ≡ write l.k (each (has l.set) (λ y. cell l.kind 0 (get_or l.a y 0) (get_or l.b y 0))) l.initial.cells)
    × (l.at + among (has l.set) l.x (16 - l.x) ≡ l.k + many (has l.set))
    × (length l.cells ≡ length l.initial.cells)
    × (l.at ≤ l.k + l.x)
