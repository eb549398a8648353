-- `ors::put_memories` meets its contract: putting in the memories that are left comes out as at the start. Assumes nothing.
use mathlib.Core.Path.{◌≡◌, refl, sym, ◌∙◌}
use Prim.Native.Nat.{◌+◌}
use native.Mathlib.Omega.{arith}
use Rattle.compiler.proofs.Joining.{memories-more, memories-end}
use Rattle.compiler.proofs.ors.put_memories.Goals as goal

pub loop-x-init : goal.loop-x-init
loop-x-init c =
    let e : c.args.memory + 0 ≡ c.args.memory = omega arith in
    (rw e, refl)

pub loop-x-preserved : goal.loop-x-preserved
loop-x-preserved c =
    let loop = c.loop-x in
    (sym (memories-more _ _ _ _ _ (omega arith) (rw c.from-at.ensures at c.put.ensures)) ∙ loop.invariant.0, c.put.auto.cells ∙ loop.invariant.1)

pub returns : goal.returns
returns c =
    let args = c.args in
    let loop = c.loop-x in
    sym (memories-end args.clocks.now args.datas.now args.memory loop.x loop.cells (omega arith)) ∙ loop.invariant.0
