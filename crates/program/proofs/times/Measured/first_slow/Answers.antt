-- Refusal 7: the answer from node 0 is the answer from node i.
use mathlib.Core.Path.{◌∙◌, ap}
use native.Mathlib.Omega.{arith}
use Rattle.model.specs.Refusals.{refuse}
use Rattle.model.specs.Program.{time_in}
use Rattle.laws.specs.Refusals.Search.{searched-none, fault-here, fault-next, faults-end}
use Rattle.program.specs.Times.{slow-at, not-slow-at}
use Rattle.word.proofs.Chunks.{cut-first}
use Rattle.program.proofs.Pieces.{node-long, node-here, node-next, nodes-end}
use Rattle.program.proofs.times.Measured.first_slow.Goals as goal

pub loop-i-init : goal.loop-i-init
loop-i-init c =
    let items = c.enumerate-i-items.ensures in
    rw (c.into_iter-i-iterator.ensures.into_iter_gives, items.count, items.source) (cut-first 4 _ c.chunks_exact.ensures.size c.chunks_exact.ensures.rest, searched-none _ _)

pub read_node-node-requires : goal.read_node-node-requires
read_node-node-requires c = omega (arith, node-long c.loop-i.invariant.0 c.next.new.self.iter c.in-Some.bytes c.in-Some.ensures.steps.0)

pub least_at-requires : goal.least_at-requires
least_at-requires c =
    let steps = c.in-Some.ensures.steps in
    let it = node-here c.loop-i.invariant.0 c.next.new.self.iter c.in-Some.bytes steps.0 in
    (omega (arith, it.1, steps.1), c.requires)

pub returns-then-from-least_at : goal.returns-then-from-least_at
returns-then-from-least_at c =
    let known = c.loop-i.invariant in
    let steps = c.in-Some.ensures.steps in
    let it = node-here known.0 c.next.new.self.iter c.in-Some.bytes steps.0 in
    let τ = time_in c.args.self.now.operators.now in
    let least = rw steps.1 at c.least_at.ensures in
    c.refuse.ensures ∙ ap (refuse 7) steps.1
    ∙ fault-here known.1 7 it.1 (omega arith)
    (slow-at τ _ _ _ _ (c.read_node-node.ensures ∙ it.0) _ least (omega (arith, c.from.ensures, c.if-from-least_at.true)))

pub loop-i-preserved : goal.loop-i-preserved
loop-i-preserved c =
    let known = c.loop-i.invariant in
    let steps = c.in-Some.ensures.steps in
    let it = node-here known.0 c.next.new.self.iter c.in-Some.bytes steps.0 in
    let τ = time_in c.args.self.now.operators.now in
    let least = rw steps.1 at c.least_at.ensures in
    rw steps.2 (
      node-next known.0 c.next.new.self.iter c.in-Some.bytes steps.0,
      fault-next known.1 it.1 (not-slow-at τ _ _ _ _ (c.read_node-node.ensures ∙ it.0) _ least (omega (arith, c.from.ensures, c.if-from-least_at.false))),
    )

pub returns : goal.returns
returns c =
    let known = c.loop-i.invariant in
    faults-end known.1 (nodes-end known.0 c.next.new.self.iter c.in-None.ensures.steps.0)
