-- `moves::renumber_bytes` meets its contract: a cell more is moved. Assumes nothing.
use Rattle.std.proofs.Common.{sym, ◌∙◌, arith}
use Rattle.exports.proofs.ByBytes.{bytes-more, bytes-done}
use Rattle.exports.proofs.moves.renumber_bytes.Goals as goal

pub loop-i-preserved : goal.loop-i-preserved
loop-i-preserved c =
    let loop = c.loop-i in
    loop.invariant
    ∙ bytes-more c.args.k c.args.end loop.cells loop.i c.loop-i-test.true (omega (arith, c.requires.1, loop.auto.cells)) c.cell_at-c.ensures c.moved.ensures c.put_cell.ensures.put

pub returns : goal.returns
returns c =
    let loop = c.loop-i in
    sym (loop.invariant ∙ bytes-done c.args.k c.args.end loop.cells loop.i c.loop-i-test.false)
