-- `walk::put_element` meets its contract. Assumes nothing.
use mathlib.Core.Logic.{inl}
use mathlib.Core.Path.{refl}
use native.Mathlib.Omega.{arith}
use Rattle.model.specs.Numbering.{delay_count}
use Rattle.compiler.specs.Walk.{assignments}
use Rattle.compiler.proofs.Stmts.{element-done}
use Rattle.compiler.proofs.Parts.{own-fits, element-index, element-value, element-cells}
use Rattle.compiler.proofs.walk.put_element.Goals as goal

pub put_expr-index-requires : goal.put_expr-index-requires
put_expr-index-requires c =
    let pre = c.requires in
    (pre.0, element-index pre.1, inl tt)

pub put_expr-value-requires : goal.put_expr-value-requires
put_expr-value-requires c =
    let pre = c.requires in
    rw c.put_expr-index.auto.cells (pre.0, element-value pre.1 (c.put_expr-index.ensures _ refl), inl tt)

pub overflow_add-address : goal.overflow_add-address
overflow_add-address c =
    let ready = c.requires.1 in
    omega (arith, ready.small, element-cells ready (c.put_expr-index.ensures _ refl) (c.put_expr-value.ensures _ refl))

pub put-requires : goal.put-requires
put-requires c =
    let ready = c.requires.1 in
    rw (c.put_expr-value.auto.cells, c.put_expr-index.auto.cells) (omega (arith, element-cells ready (c.put_expr-index.ensures _ refl) (c.put_expr-value.ensures _ refl)))

pub put-requires-2 : goal.put-requires-2
put-requires-2 c =
    let ready = c.requires.1 in
    rw (c.put.auto.cells, c.put_expr-value.auto.cells, c.put_expr-index.auto.cells) (omega (arith, element-cells ready (c.put_expr-index.ensures _ refl) (c.put_expr-value.ensures _ refl)))

pub overflow_add-own : goal.overflow_add-own
overflow_add-own c = omega (arith, c.requires.1.formed.1)

pub overflow_add-walked : goal.overflow_add-walked
overflow_add-walked c =
    let ready = c.requires.1 in
    omega (arith, ready.small, element-cells ready (c.put_expr-index.ensures _ refl) (c.put_expr-value.ensures _ refl))

pub put_delays-requires : goal.put_delays-requires
unfolding delay_count assignments
put_delays-requires c =
    rw (c.put-2.auto.cells, c.put.auto.cells, c.put_expr-value.auto.cells, c.put_expr-index.auto.cells) (own-fits c.requires.1 refl refl)

pub returns : goal.returns
returns c =
    let ready = c.requires.1 in
    λ F. element-done ready.apart (c.put_expr-index.ensures _ refl) (c.put_expr-value.ensures _ refl) c.put.ensures c.put-2.ensures c.put_delays.ensures.cells c.put_delays.ensures.marks c.put_delays.ensures.place
