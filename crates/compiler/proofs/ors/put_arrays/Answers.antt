-- `ors::put_arrays` meets its contract: putting in the arrays that are left comes out as at the start. Assumes nothing.
use mathlib.Core.Path.{◌≡◌, refl, sym, ◌∙◌}
use Prim.Native.Nat.{◌+◌, ◌*◌}
use native.Mathlib.Omega.{arith}
use Rattle.compiler.proofs.Joining.{arrays-more, arrays-end}
use Rattle.compiler.proofs.ors.put_arrays.Goals as goal

pub loop-k-init : goal.loop-k-init
loop-k-init c =
    let e : c.args.first + 2 * 0 ≡ c.args.first = omega arith in
    (rw e, refl)

pub loop-k-preserved : goal.loop-k-preserved
loop-k-preserved c =
    let loop = c.loop-k in
    let one = rw (c.from.ensures, c.from-at.ensures) at c.put.ensures in
    let two = rw (c.from.ensures, c.from-at.ensures) at c.put-in-loop-k.ensures in
    let args = c.args in (
      sym (arrays-more args.clocks.now args.datas.now args.addresses.now args.first loop.k loop.cells (omega arith) one two) ∙ loop.invariant.0,
      c.put-in-loop-k.auto.cells ∙ c.put.auto.cells ∙ loop.invariant.1,
    )

pub returns : goal.returns
returns c =
    let args = c.args in
    let loop = c.loop-k in
    sym (arrays-end args.clocks.now args.datas.now args.addresses.now args.first loop.k loop.cells (omega arith)) ∙ loop.invariant.0
