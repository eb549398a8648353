-- `blocks::put_file` meets its contract. Assumes nothing.
use Rattle.std.proofs.Common.{ℕ, length, sym, ap, ◌∙◌, arith}
use lib.Seq.{sets}
use Rattle.model.specs.NetlistFile.{cells_at, in_list, blocks, blocks_for, file_of}
use Rattle.word.proofs.Chunks.{cut-first, piece, cut-next, cut-end, front-length, front-piece}
use Rattle.netlist.proofs.Bytes.{cells-length, cell-of, piece-cell}
use Rattle.netlist.proofs.Putting.{filled_none}
use Rattle.netlist.proofs.blocks.put_file.Goals as goal

pub loop-k-init : goal.loop-k-init
loop-k-init c =
    let args = c.args in
    let items = c.enumerate-k-items.ensures in
    rw (c.into_iter-k-iterator.ensures.into_iter_gives, items.count, items.source) (
      cut-first 6 _ c.chunks_exact.ensures.size c.chunks_exact.ensures.rest,
      filled_none _ (cells_at in_list args.cells.now 0 args.n) args.finish args.d.now 0,
    )

pub loop-k-preserved : goal.loop-k-preserved
loop-k-preserved c =
    let known = c.loop-k.invariant in
    let steps = c.in-Some.ensures.steps in
    let s = c.args.cells.now in
    let n = c.args.n in
    let k = c.loop-k.k-iterator.count in
    let p = front-piece 6 n s c.requires.1.fits (piece known.0 c.next.new.self.iter c.in-Some.cell (omega arith) steps.0) in
    let here = cell-of in_list s n k (omega (arith, p.1)) ∙ sym (c.cell_from-c.ensures ∙ piece-cell s k c.in-Some.cell.now p.0) in
    rw steps.2 (
      cut-next known.0 c.next.new.self.iter c.in-Some.cell (omega arith) steps.0,
      rw steps.1 at (c.put_next-sum.ensures (cells_at in_list s 0 n) c.args.d.now (cells-length in_list s 0 n)) here known.1,
    )

pub returns : goal.returns
unfolding file_of
returns c =
    let args = c.args in
    let net = cells_at in_list args.cells.now 0 args.n in
    let past = cut-end c.loop-k.invariant.0 c.next.new.self.iter c.in-None.ensures.steps.0 in
    c.loop-k.invariant.1.whole (omega (arith, past, front-length 6 args.n args.cells.now c.requires.1.fits, cells-length in_list args.cells.now 0 args.n))
    ∙ ap (λ (k : ℕ). sets args.d.now 0 (blocks (blocks_for (length net)) k (length net) args.finish net)) c.first_number-first.ensures
