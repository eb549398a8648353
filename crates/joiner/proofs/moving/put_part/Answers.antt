-- `moving::put_part` meets its contract: two runs of cells, and the finish. Assumes nothing.
use mathlib.Core.Path.{sym, ap, subst, ◌∙◌}
use Prim.Native.Nat.{ℕ, ◌≤◌}
use native.Mathlib.Omega.{arith}
use Rattle.joiner.specs.Stands.{moves}
use Rattle.joiner.proofs.Placing.{stand_at, room_for, low-for, stand-fits, finish-low, header, put_in}
use Rattle.joiner.proofs.moving.put_part.Goals as goal

pub put_moved-requires : goal.put_moved-requires
put_moved-requires c =
    let pre = c.requires in
    (room_for pre _ pre.delays, omega (arith, pre.delay_room.1), stand-fits pre, low-for pre _ pre.delays)

pub put_moved-requires-2 : goal.put_moved-requires-2
put_moved-requires-2 c =
    let pre = c.requires in
    let put-moved = c.put_moved in
    (room_for pre _ pre.walk, omega (arith, pre.walk_room.1, put-moved.auto.cells), stand-fits pre, low-for pre _ pre.walk)

pub get16-finish-requires : goal.get16-finish-requires
get16-finish-requires c =
    let pre = c.requires in
    header (pre)

pub new_number-wire-requires : goal.new_number-wire-requires
new_number-wire-requires c =
    let pre = c.requires in
    stand-fits (pre)

pub overflow_add-result : goal.overflow_add-result
overflow_add-result c =
    let pre = c.requires in
    omega (arith, pre.delay_room.0)

pub overflow_add-result-2 : goal.overflow_add-result-2
overflow_add-result-2 c =
    let pre = c.requires in
    omega (arith, pre.walk_room.0)

pub returns : goal.returns
returns c =
    let put-moved = c.put_moved in
    let put-moved2 = c.put_moved-2 in
    let new-number = c.new_number-wire in
    let get16 = c.get16-finish in
    put_in c.requires c.args.cells.now put-moved.ensures put-moved2.ensures
    (new-number.ensures (subst (λ (k : ℕ). k ≤ 16384) (sym get16.ensures) (finish-low c.requires))
    ∙ ap (moves (stand_at c.args.own c.args.memory c.args.at)) get16.ensures)
