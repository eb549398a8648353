-- `rows::put_choices` meets its contract. Assumes nothing.
use native.Mathlib.Omega.{arith}
use Rattle.laws.specs.Functional.Count.{many-most}
use Rattle.functional.specs.Sets.{has, row_cell}
use Rattle.functional.proofs.Bits.{choices-done}
use Rattle.functional.proofs.rows.put_choices.Goals as goal

pub put_each-k3-requires : goal.put_each-k3-requires
put_each-k3-requires c =
    let pre = c.requires in
    let few = many-most (has c.args.set) in
    (omega (arith, pre.0, c.put_each-k2.ensures.next, c.put_each-k2.auto.cells), omega (arith, pre.1, c.put_each-k2.ensures.next, few))

pub put_each-requires : goal.put_each-requires
put_each-requires c =
    let pre = c.requires in
    let few = many-most (has c.args.set) in (
      omega (arith, pre.0, c.put_each-k2.ensures.next, c.put_each-k2.auto.cells, c.put_each-k3.ensures.next, c.put_each-k3.auto.cells),
      omega (arith, pre.1, c.put_each-k2.ensures.next, c.put_each-k3.ensures.next, few),
    )

pub returns : goal.returns
returns c =
    let args = c.args in
    let one = c.put_each-k2.ensures.next in
    let two = c.put_each-k3.ensures.next in record {
      cells = choices-done (has args.set) (row_cell args.first) (row_cell args.second) c.placed.result.of c.placed-2.result.of _ _ _ _ _ one two
          c.placed.ensures c.placed-2.ensures c.put_each-k2.ensures.cells c.put_each-k3.ensures.cells c.put_each.ensures.cells;
      next = omega (arith, one, two, c.put_each.ensures.next);
    }
