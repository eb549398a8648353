-- `put_netlist` meets its contract. Assumes nothing.
use mathlib.Core.Path.{refl}
use native.Mathlib.Omega.{arith}
use Rattle.functional.proofs.Whole.{row_fits, net-done}
use Rattle.functional.proofs.put_netlist.Goals as goal

pub put_stmt-end-requires : goal.put_stmt-end-requires
put_stmt-end-requires c =
    let pre = c.requires in
    let M = pre.0 in
    rw c.put_head.auto.cells
    (M.laid, record { formed = M.formed; basic = M.basic; room = omega (arith, pre.1); small = omega (arith, pre.1, M.few) })

pub put_each-requires : goal.put_each-requires
put_each-requires c =
    let pre = c.requires in
    let end = (c.put_stmt-end.ensures _ (λ x h. refl)).cell in (
      row_fits _ _ _ (omega (arith, end, pre.1, c.put_stmt-end.auto.cells, c.put_head.auto.cells)),
      omega (arith, end, pre.0.few),
    )

pub returns : goal.returns
returns c =
    let clauses = net-done _ _ c.start_wires.result c.same.result c.put_head.ensures
    (c.put_stmt-end.ensures _ c.start_wires.ensures) c.same.ensures c.put_each.ensures.cells in record { cells = clauses.0; finish = clauses.1 }
