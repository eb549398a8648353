-- `blocks::check_headers` meets its contract. Assumes nothing.
use Rattle.std.proofs.Common.{◌≡◌, ◌<◌, ◌∙◌, sym, ap, arith}
use Rattle.model.specs.Refusals.{refuse}
use Rattle.model.specs.NetlistFile.{block_at, header_right}
use Rattle.laws.specs.Refusals.Search.{searched-none, fault-here, fault-next, faults-end}
use Rattle.word.proofs.Chunks.{cut-first, piece, cut-next, cut-end, front-length, front-piece}
use Rattle.netlist.proofs.BlockChecks.{header-wrong, header-right}
use Rattle.netlist.proofs.blocks.check_headers.Goals as goal
use Rattle.netlist.proofs.blocks.check_headers.Goals.{After-is_headed}

pub loop-b-init : goal.loop-b-init
loop-b-init c =
    let items = c.enumerate-b-items.ensures in
    rw (c.into_iter-b-iterator.ensures.into_iter_gives, items.count, items.source) (cut-first 512 _ c.chunks_exact.ensures.size c.chunks_exact.ensures.rest, searched-none _ _)

pub is_headed-requires : goal.is_headed-requires
is_headed-requires c =
    let pre = c.requires in
    let steps = c.in-Some.ensures.steps in
    let p = piece c.loop-b.invariant.0 c.next.new.self.iter c.in-Some.block (omega arith) steps.0 in
    let q = front-piece 512 c.args.m c.args.s.now pre.0 p in
    (p.long, omega (arith, q.1, pre.2, steps.1), pre.1, pre.6)

-- the test was that of block b
tested : (c : After-is_headed) → (c.is_headed.result ≡ header_right c.args.pulse c.args.count c.args.finish c.loop-b.b-iterator.count (block_at c.args.s.now c.loop-b.b-iterator.count))
    × (c.loop-b.b-iterator.count < c.args.m)
tested c =
    let steps = c.in-Some.ensures.steps in
    let p = piece c.loop-b.invariant.0 c.next.new.self.iter c.in-Some.block (omega arith) steps.0 in
    let q = front-piece 512 c.args.m c.args.s.now c.requires.0 p in
    (rw (← q.0, ← steps.1) c.is_headed.ensures, omega (arith, q.1))

pub returns-then-not-is_headed : goal.returns-then-not-is_headed
returns-then-not-is_headed c =
    let pre = c.requires in
    let known = c.loop-b.invariant in
    let it = tested (goal.at.returns-then-not-is_headed c).After-is_headed in
    c.refuse.ensures ∙ ap (refuse 11) c.in-Some.ensures.steps.1
    ∙ fault-here known.1 11 it.1 (omega arith) (header-wrong c.args.s.now _ pre.5 pre.3 pre.4 (sym it.0 ∙ c.if-not-is_headed.true))

pub loop-b-preserved : goal.loop-b-preserved
loop-b-preserved c =
    let pre = c.requires in
    let known = c.loop-b.invariant in
    let steps = c.in-Some.ensures.steps in
    let it = tested (goal.at.loop-b-preserved c).After-is_headed in
    rw steps.2 (
      cut-next known.0 c.next.new.self.iter c.in-Some.block (omega arith) steps.0,
      fault-next known.1 it.1 (header-right c.args.s.now _ pre.5 pre.3 pre.4 (sym it.0 ∙ c.if-not-is_headed.false)),
    )

pub returns : goal.returns
returns c =
    let known = c.loop-b.invariant in
    let past = cut-end known.0 c.next.new.self.iter c.in-None.ensures.steps.0 in
    faults-end known.1 (omega (arith, past, front-length 512 c.args.m c.args.s.now c.requires.0))
