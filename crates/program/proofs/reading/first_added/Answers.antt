-- Refusal 28: the answer from node 0 is the answer from node i.
use mathlib.Core.Path.{◌≡◌, refl, sym, ◌∙◌, ap}
use mathlib.Core.Bool.{true, false}
use mathlib.Core.List.{List}
use Prim.Native.Nat.{ℕ}
use native.Mathlib.Omega.{arith}
use Rattle.model.specs.declared.Node.{Node}
use Rattle.model.specs.Refusals.{refuse}
use Rattle.model.specs.Program.{node_at}
use Rattle.model.specs.ProgramChecks.{added, added_fault}
use Rattle.laws.specs.Refusals.Search.{searched-none, fault-here, fault-next, faults-end}
use Rattle.word.proofs.Chunks.{cut-first}
use Rattle.program.proofs.Pieces.{node-long, node-here, node-next, nodes-end}
use Rattle.program.proofs.reading.first_added.Goals as goal

is-added : (s : List ℕ) (i : ℕ) → added (node_at s i).kind ≡ true → added_fault s i ≡ 28
unfolding added_fault
is-added s i e = rw e refl

not-added : (s : List ℕ) (i : ℕ) → added (node_at s i).kind ≡ false → added_fault s i ≡ 0
unfolding added_fault
not-added s i e = rw e refl

pub loop-i-init : goal.loop-i-init
loop-i-init c =
    let items = c.enumerate-i-items.ensures in
    rw (c.into_iter-i-iterator.ensures.into_iter_gives, items.count, items.source) (cut-first 4 _ c.chunks_exact.ensures.size c.chunks_exact.ensures.rest, searched-none _ _)

pub read_node-requires : goal.read_node-requires
read_node-requires c = omega (arith, node-long c.loop-i.invariant.0 c.next.new.self.iter c.in-Some.node c.in-Some.ensures.steps.0)

pub returns-then-added : goal.returns-then-added
returns-then-added c =
    let known = c.loop-i.invariant in
    let steps = c.in-Some.ensures.steps in
    let it = node-here known.0 c.next.new.self.iter c.in-Some.node steps.0 in
    c.refuse.ensures ∙ ap (refuse 28) steps.1
    ∙ fault-here known.1 28 it.1 (omega arith) (is-added _ _ (ap (λ (a : Node). added a.kind) (sym it.0 ∙ sym c.read_node.ensures) ∙ sym c.added.ensures ∙ c.if-added.true))

pub loop-i-preserved : goal.loop-i-preserved
loop-i-preserved c =
    let known = c.loop-i.invariant in
    let steps = c.in-Some.ensures.steps in
    let it = node-here known.0 c.next.new.self.iter c.in-Some.node steps.0 in
    rw steps.2 (
      node-next known.0 c.next.new.self.iter c.in-Some.node steps.0,
      fault-next known.1 it.1 (not-added _ _ (ap (λ (a : Node). added a.kind) (sym it.0 ∙ sym c.read_node.ensures) ∙ sym c.added.ensures ∙ c.if-added.false)),
    )

pub returns : goal.returns
returns c =
    let known = c.loop-i.invariant in
    faults-end known.1 (nodes-end known.0 c.next.new.self.iter c.in-None.ensures.steps.0)
