-- `blocks::check_sums` meets its contract. Assumes nothing.
use Rattle.std.proofs.Common.{◌≡◌, ◌%◌, ◌<◌, ◌∙◌, ap, take_all, arith}
use Rattle.model.specs.Refusals.{refuse}
use Rattle.model.specs.NetlistFile.{word_sum, block_at}
use Rattle.laws.specs.Refusals.Search.{searched-none, fault-here, fault-next, faults-end}
use Rattle.word.proofs.Chunks.{cut-first, piece, cut-next, cut-end, front-length, front-piece}
use Rattle.netlist.proofs.BlockChecks.{sum-wrong, sum-right}
use Rattle.netlist.proofs.blocks.check_sums.Goals as goal
use Rattle.netlist.proofs.blocks.check_sums.Goals.{After-sum16}

-- what was summed is block b
summed : (c : After-sum16) → (c.sum16.result ≡ word_sum (block_at c.args.s.now c.loop-b.b-iterator.count) % 65536) × (c.loop-b.b-iterator.count < c.args.m)
summed c =
    let p = piece c.loop-b.invariant.0 c.next.new.self.iter c.in-Some.block (omega arith) c.in-Some.ensures.steps.0 in
    let q = front-piece 512 c.args.m c.args.s.now c.requires p in
    (rw (← q.0) (c.sum16.ensures ∙ ap (λ s. word_sum s % 65536) (take_all 512 c.in-Some.block.now (omega (arith, p.long)))), omega (arith, q.1))

pub loop-b-init : goal.loop-b-init
loop-b-init c =
    let items = c.enumerate-b-items.ensures in
    rw (c.into_iter-b-iterator.ensures.into_iter_gives, items.count, items.source) (cut-first 512 _ c.chunks_exact.ensures.size c.chunks_exact.ensures.rest, searched-none _ _)

pub returns-then-sum16-ne0 : goal.returns-then-sum16-ne0
returns-then-sum16-ne0 c =
    let known = c.loop-b.invariant in
    let it = summed (goal.at.returns-then-sum16-ne0 c).After-sum16 in
    c.refuse.ensures ∙ ap (refuse 10) c.in-Some.ensures.steps.1
    ∙ fault-here known.1 10 it.1 (omega arith) (sum-wrong c.args.s.now _ it.0 c.if-sum16-ne0.true)

pub loop-b-preserved : goal.loop-b-preserved
loop-b-preserved c =
    let known = c.loop-b.invariant in
    let steps = c.in-Some.ensures.steps in
    let it = summed (goal.at.loop-b-preserved c).After-sum16 in
    rw steps.2 (cut-next known.0 c.next.new.self.iter c.in-Some.block (omega arith) steps.0, fault-next known.1 it.1 (sum-right c.args.s.now _ it.0 c.if-sum16-ne0.false))

pub returns : goal.returns
returns c =
    let known = c.loop-b.invariant in
    let past = cut-end known.0 c.next.new.self.iter c.in-None.ensures.steps.0 in
    faults-end known.1 (omega (arith, past, front-length 512 c.args.m c.args.s.now c.requires))
