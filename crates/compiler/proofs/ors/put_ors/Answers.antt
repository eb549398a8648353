-- `ors::put_ors` meets its contract: joining the wires of the variables that are left comes out as at the start. Assumes nothing.
use mathlib.Core.Path.{refl}
use native.Mathlib.Omega.{arith}
use Rattle.compiler.proofs.Joining.{joining-start, joining-room, joining-more, joining-end}
use Rattle.compiler.proofs.ors.put_ors.Goals as goal

pub loop-x-init : goal.loop-x-init
loop-x-init c = joining-start _ _ _ _ _ refl c.requires.first

pub put_chain-joined-requires : goal.put_chain-joined-requires
put_chain-joined-requires c =
    let loop = c.loop-x in
    let pre = c.requires in
    let room = joining-room _ _ _ _ loop.invariant (omega arith) in
    record {
      mark = pre.mark;
      first = pre.first;
      room = omega (arith, room, pre.room, loop.invariant.same);
      small = omega (arith, pre.small, loop.invariant.same);
    }

pub loop-x-preserved : goal.loop-x-preserved
loop-x-preserved c = rw c.from.ensures (joining-more _ _ _ _ c.loop-x.invariant (omega arith) c.put_chain-joined.ensures)

pub returns : goal.returns
returns c = joining-end _ _ _ _ c.loop-x.invariant (omega (arith, c.requires.first))
