-- `same::same_cells` meets its contract. Assumes nothing.
use Rattle.std.proofs.Common.{◌≡◌, ◌<◌, sym, ◌∙◌, arith}
use Rattle.model.specs.NetlistFile.{cell_from, in_list, in_file}
use Rattle.word.proofs.Chunks.{cut-first, piece, cut-next, cut-end, front-length, front-piece}
use Rattle.netlist.proofs.Bytes.{cell-fits, piece-cell}
use Rattle.netlist.proofs.Comparing.{same-start, differ-here, same_here, same_end}
use Rattle.netlist.proofs.same.same_cells.Goals as goal
use Rattle.netlist.proofs.same.same_cells.Goals.{After-cell_from-d}

pub loop-k-init : goal.loop-k-init
loop-k-init c =
    let items = c.enumerate-k-items.ensures in
    rw (c.into_iter-k-iterator.ensures.into_iter_gives, items.count, items.source) (
      cut-first 6 _ c.chunks_exact.ensures.size c.chunks_exact.ensures.rest,
      same-start c.args.file.now c.args.cells.now c.args.n,
    )

pub cell_at-c-requires : goal.cell_at-c-requires
cell_at-c-requires c =
    let pre = c.requires in
    let steps = c.in-Some.ensures.steps in
    let p = front-piece 6 c.args.n c.args.cells.now pre.1.fits (piece c.loop-k.invariant.0 c.next.new.self.iter c.in-Some.cell (omega arith) steps.0) in
    let l : c.in-Some.k < c.args.n = omega (arith, p.1, steps.1) in
    (omega (arith, l, pre.0.few), cell-fits pre.0 c.in-Some.k l)

-- the two are cells k
cells-here : (c : After-cell_from-d) → (c.loop-k.k-iterator.count < c.args.n)
    × (c.cell_at-c.result ≡ cell_from c.args.file.now (in_file c.loop-k.k-iterator.count))
    × (c.cell_from-d.result ≡ cell_from c.args.cells.now (in_list c.loop-k.k-iterator.count))
cells-here c =
    let steps = c.in-Some.ensures.steps in
    let s = c.args.cells.now in
    let p = front-piece 6 c.args.n s c.requires.1.fits (piece c.loop-k.invariant.0 c.next.new.self.iter c.in-Some.cell (omega arith) steps.0) in
    (omega (arith, p.1), rw (← steps.1) c.cell_at-c.ensures, c.cell_from-d.ensures ∙ piece-cell s c.loop-k.k-iterator.count c.in-Some.cell.now p.0)

pub returns-then-ne : goal.returns-then-ne
returns-then-ne c =
    let args = c.args in
    let known = c.loop-k.invariant in
    let it = cells-here (goal.at.returns-then-ne c).After-cell_from-d in
    sym (known.1 ∙ differ-here args.file.now args.cells.now args.n _ it.0 it.1 it.2 (grind (arith, c.ne.ensures, c.if-ne.true)))

pub loop-k-preserved : goal.loop-k-preserved
loop-k-preserved c =
    let args = c.args in
    let known = c.loop-k.invariant in
    let steps = c.in-Some.ensures.steps in
    let it = cells-here (goal.at.loop-k-preserved c).After-cell_from-d in
    rw steps.2 (
      cut-next known.0 c.next.new.self.iter c.in-Some.cell (omega arith) steps.0,
      known.1 ∙ same_here args.file.now args.cells.now args.n _ it.0 it.1 it.2 (grind (arith, c.ne.ensures, c.if-ne.false)),
    )

pub returns : goal.returns
returns c =
    let args = c.args in
    let known = c.loop-k.invariant in
    let past = cut-end known.0 c.next.new.self.iter c.in-None.ensures.steps.0 in
    sym (known.1 ∙ same_end args.file.now args.cells.now args.n _ (omega (arith, past, front-length 6 args.n args.cells.now c.requires.1.fits)))
