-- `walk::put_assign` meets its contract. Assumes nothing.
use mathlib.Core.Logic.{inr}
use mathlib.Core.Path.{refl}
use native.Mathlib.Omega.{arith}
use Rattle.functional.proofs.Parts.{assign-expr, assign-room, assign-done}
use Rattle.functional.proofs.walk.put_assign.Goals as goal

pub put_expr-e-requires : goal.put_expr-e-requires
put_expr-e-requires c = (c.requires.0, assign-expr c.requires.1, inr c.requires.1.basic)

pub put-requires : goal.put-requires
put-requires c =
    let e = c.put_expr-e in
    omega (arith, assign-room c.requires.1, (e.ensures _ (λ x h. refl)).cell, e.auto.cells)

pub overflow_add-result : goal.overflow_add-result
overflow_add-result c =
    let pre = c.requires in
    omega (arith, assign-room pre.1, pre.1.small, (c.put_expr-e.ensures _ (λ x h. refl)).cell)

pub returns : goal.returns
returns c us same =
    assign-done _ _ _ _ us c.replaced.result same (c.put_expr-e.ensures us same) c.put.ensures c.replaced.ensures
