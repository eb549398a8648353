-- `blocks::put_next` meets its contract. Assumes nothing.
use Rattle.std.proofs.Common.{sym, refl, arith}
use Rattle.netlist.proofs.Putting.{put-inside, put_last}
use Rattle.netlist.proofs.blocks.put_next.Goals as goal

pub returns-then-j-k : goal.returns-then-j-k
returns-then-j-k c =
    let args = c.args in
    let low = c.requires.0 in
    let put = c.put_cell-total.ensures in
    λ net was l e p.
    put_last args.first net args.finish was args.k (omega (arith, l, low)) e (rw l refl) p
    c.sum_before-before.ensures put.put put.sum (sym l)
    c.if-j-k.true c.close.ensures

pub returns-else-j-k : goal.returns-else-j-k
returns-else-j-k c =
    let args = c.args in
    let low = c.requires.0 in
    let put = c.put_cell-total.ensures in
    λ net was l e p.
    put-inside args.first net args.finish was args.k (omega (arith, l, low)) e (rw l refl) p
    c.sum_before-before.ensures put.put put.sum (sym l) c.if-j-k.false
