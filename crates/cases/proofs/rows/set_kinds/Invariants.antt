-- `rows::set_kinds` meets its contract. The invariant: setting the rest comes out as setting all. Assumes nothing.
use mathlib.Core.Path.{◌≡◌}
use Prim.Native.Nat.{◌-◌}
use Rattle.cases.specs.Rows.{kinds_from}
use Rattle.cases.proofs.rows.set_kinds.Given as goal

abbrev pub invariant-loop-i : goal.invariant-loop-i
invariant-loop-i l =
    kinds_from l.initial.program l.from (l.to - l.from) l.kind ≡ kinds_from l.program l.i (l.to - l.i) l.kind
