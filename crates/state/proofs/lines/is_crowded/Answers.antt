-- `is_crowded` meets its contract. Assumes nothing.
use mathlib.Core.Bool.{Bool, ◌&&◌}
use mathlib.Core.Path.{◌∙◌, ap}
use Prim.Native.Nat.{◌+◌}
use lib.Dec.{ltb}
use lib.ListN.{get_or}
use Rattle.state.proofs.Places.{full-room, counter-room}
use Rattle.state.proofs.lines.is_crowded.Goals as goal

pub returns-in-Full : goal.returns-in-Full
returns-in-Full c =
    let args = c.args in
    full-room args.format args.state.now args.k _ c.base-at.ensures args.c c.in-Full.is

pub returns-in-Compact : goal.returns-in-Compact
returns-in-Compact c =
    let args = c.args in
    let base = c.base-at in
    let pre = c.requires in
    ap (λ (x : Bool). x && ltb 1 (get_or args.state.now (base.result + 6) 0)) (rw c.from.ensures at c.is_high-x.ensures) ∙ counter-room args.format args.state.now args.k _ base.ensures args.c c.in-Compact.is pre.2
