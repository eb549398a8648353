-- `blocks::clear` meets its contract. Assumes nothing.
use Rattle.std.proofs.Common.{◌≡◌, ◌-◌, length, take, drop, replicate, arith, length-take, length-drop}
use Rattle.std.proofs.lemmas.List.{length-replicate}
use Rattle.netlist.proofs.Putting.{part-sets}
use Rattle.netlist.proofs.blocks.clear.Goals as goal

pub returns-then-i-end : goal.returns-then-i-end
returns-then-i-end c =
    let args = c.args in
    let n = args.end - args.i in
    let l : length (take n (drop args.i args.d.now)) ≡ n = simp (length-take, length-drop) (omega arith) in
    rw (c.fill.ensures.after (λ y e. e), l) (part-sets args.d.now (replicate n 0) args.i n (length-replicate n 0) (omega arith))
