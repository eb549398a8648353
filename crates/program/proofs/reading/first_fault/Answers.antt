-- Refusals 2 to 4: the answer from node 0 is the answer from node i.
use mathlib.Core.Path.{sym, ◌∙◌, ap}
use native.Mathlib.Omega.{arith}
use Rattle.model.specs.Refusals.{refuse}
use Rattle.model.specs.ProgramChecks.{node_fault}
use Rattle.laws.specs.Refusals.Search.{searched-none, fault-here, fault-next, faults-end}
use Rattle.word.proofs.Chunks.{cut-first}
use Rattle.program.proofs.Pieces.{node-long, node-here, node-next, nodes-end}
use Rattle.program.proofs.reading.first_fault.Goals as goal

pub loop-i-init : goal.loop-i-init
loop-i-init c =
    let items = c.enumerate-i-items.ensures in
    rw (c.into_iter-i-iterator.ensures.into_iter_gives, items.count, items.source) (cut-first 4 _ c.chunks_exact.ensures.size c.chunks_exact.ensures.rest, searched-none _ _)

pub read_node-requires : goal.read_node-requires
read_node-requires c = omega (arith, node-long c.loop-i.invariant.0 c.next.new.self.iter c.in-Some.node c.in-Some.ensures.steps.0)

pub returns-in-Some-fault_of : goal.returns-in-Some-fault_of
returns-in-Some-fault_of c =
    let known = c.loop-i.invariant in
    let steps = c.in-Some.ensures.steps in
    let it = node-here known.0 c.next.new.self.iter c.in-Some.node steps.0 in
    let found = c.in-Some-fault_of in
    c.refuse.ensures ∙ ap (refuse found.number) steps.1
    ∙ fault-here known.1 _ it.1 found.ensures.1 (ap node_fault (sym it.0 ∙ sym c.read_node.ensures) ∙ found.ensures.0)

pub loop-i-preserved : goal.loop-i-preserved
loop-i-preserved c =
    let known = c.loop-i.invariant in
    let steps = c.in-Some.ensures.steps in
    let it = node-here known.0 c.next.new.self.iter c.in-Some.node steps.0 in
    rw steps.2 (
      node-next known.0 c.next.new.self.iter c.in-Some.node steps.0,
      fault-next known.1 it.1 (ap node_fault (sym it.0 ∙ sym c.read_node.ensures) ∙ c.in_default.ensures),
    )

pub returns : goal.returns
returns c =
    let known = c.loop-i.invariant in
    faults-end known.1 (nodes-end known.0 c.next.new.self.iter c.in-None.ensures.steps.0)
