-- `put_file` meets its contract. Assumes nothing.
use mathlib.Core.Path.{◌∙◌, ap}
use Prim.Native.Nat.{◌*◌}
use native.Mathlib.Omega.{arith}
use Rattle.functional.proofs.Call.{room-size, listed-size, file-put}
use Rattle.functional.proofs.put_file.Goals as goal

pub put_netlist-finish-requires : goal.put_netlist-finish-requires
put_netlist-finish-requires c =
    let pre = c.requires in
    rw c.blocks_for-count.ensures (pre.0, room-size _ pre.1 _ pre.2 ∙ ap (◌*◌ 6) pre.1)

pub put_in_place-requires : goal.put_in_place-requires
put_in_place-requires c =
    let pre = c.requires in
    let put = rw c.blocks_for-count.ensures at c.put_netlist-finish.ensures.cells in
    rw c.blocks_for-count.ensures (omega (arith, pre.0.few, pre.1), omega arith, omega (arith, pre.2, listed-size _ pre.1 _ pre.2 put))

pub returns : goal.returns
returns c =
    let pre = c.requires in
    let net = c.put_netlist-finish.ensures in
    let put = rw c.blocks_for-count.ensures at net.cells in
    record { lent = file-put _ pre.1 _ pre.2 put net.finish (rw c.blocks_for-count.ensures at c.put_in_place.ensures); finish = net.finish }
