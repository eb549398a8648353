-- `BlockHeader::put` meets its contract. Assumes nothing.
use Rattle.netlist.proofs.Putting.{head-put, check-word}
use Rattle.netlist.proofs.blocks.BlockHeader.put.Goals as goal

pub returns : goal.returns
returns c =
    let args = c.args in
    head-put args.self args.d.now args.i _ c.put16.ensures c.put16-2.ensures c.put16-3.ensures
    (rw (check-word c.ranges.sum.fits c.wrapping_neg.type_inv c.wrapping_neg.ensures) at c.put16-4.ensures)
