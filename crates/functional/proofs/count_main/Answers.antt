-- `count_main` meets its contract. Assumes nothing.
use mathlib.Core.Path.{ap, ◌∙◌}
use Prim.Native.Nat.{◌+◌}
use native.Mathlib.Omega.{arith}
use Rattle.functional.proofs.count_main.Goals as goal

pub count_stmt-requires : goal.count_stmt-requires
count_stmt-requires c = let M = c.requires in (M.laid, M.basic, M.few)

pub returns : goal.returns
returns c =
    let told = c.from.ensures ∙ c.count_stmt.ensures in
    record { cells = ap (◌+◌ 43) told; few = omega (arith, told, c.requires.few) }
