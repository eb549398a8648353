-- `marks::put_gate` meets its contract. Assumes nothing.
use mathlib.Core.Path.{refl, ap}
use native.Mathlib.Omega.{arith}
use lib.ListN.{length}
use Rattle.compiler.proofs.Growth.{marks-over}
use Rattle.joiner.proofs.Marking.{no-marks, own-marks}
use Rattle.joiner.proofs.marks.put_gate.Goals as goal

pub returns-then-x-eq20 : goal.returns-then-x-eq20
returns-then-x-eq20 c =
    let args = c.args in
    let none = no-marks args.delay args.n c.if-x-eq20.true in
    rw none (record { next = omega arith; put = refl })

pub slice_bounds-copy_from_slice-end : goal.slice_bounds-copy_from_slice-end
slice_bounds-copy_from_slice-end c =
    let args = c.args in
    omega (arith, c.requires.0, ap length (own-marks args.delay args.n c.if-x-eq20.false))

pub returns : goal.returns
returns c =
    let args = c.args in
    let own = own-marks args.delay args.n c.if-x-eq20.false in
    rw (own, ← c.index_of-index.ensures) (record {
      next = refl;
      put = marks-over args.marks.now _ _ args.next c.copy_from_slice.ensures.after (omega arith) (omega (arith, c.requires.0, ap length own));
    })
