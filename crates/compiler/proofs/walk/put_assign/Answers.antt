-- `walk::put_assign` meets its contract. Assumes nothing.
use mathlib.Core.Logic.{inl}
use mathlib.Core.Path.{refl}
use native.Mathlib.Omega.{arith}
use Rattle.model.specs.Numbering.{delay_count}
use Rattle.compiler.specs.Walk.{assignments}
use Rattle.compiler.proofs.Stmts.{assign-done}
use Rattle.compiler.proofs.Parts.{own-fits, assign-expr, assign-cell}
use Rattle.compiler.proofs.walk.put_assign.Goals as goal

pub put_expr-e-requires : goal.put_expr-e-requires
put_expr-e-requires c =
    let pre = c.requires in
    (pre.0, assign-expr pre.1, inl tt)

pub put-requires : goal.put-requires
put-requires c =
    rw c.put_expr-e.auto.cells (assign-cell c.requires.1 (c.put_expr-e.ensures _ refl))

pub overflow_add-walked : goal.overflow_add-walked
overflow_add-walked c =
    let ready = c.requires.1 in
    omega (arith, ready.small, assign-cell ready (c.put_expr-e.ensures _ refl))

pub put_delays-requires : goal.put_delays-requires
unfolding delay_count assignments
put_delays-requires c =
    rw (c.put.auto.cells, c.put_expr-e.auto.cells) (own-fits c.requires.1 refl refl)

pub returns : goal.returns
returns c =
    let ready = c.requires.1 in
    λ F. assign-done ready.apart (c.put_expr-e.ensures _ refl) c.put.ensures c.put_delays.ensures.cells c.put_delays.ensures.marks c.put_delays.ensures.place
