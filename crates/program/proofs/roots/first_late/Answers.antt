-- Refusal 24 in a root: the answer from its first node is the answer from node i + k.
use mathlib.Core.Path.{◌≡◌, refl, sym, ◌∙◌}
use Prim.Native.Nat.{◌+◌}
use native.Mathlib.Omega.{arith}
use Rattle.model.specs.Program.{node_count}
use Rattle.program.specs.Ends.{past, past-later}
use Rattle.program.specs.Uses.{side-within}
use Rattle.program.proofs.Late.{late-here, late-next, late-end, late-side}
use Rattle.word.proofs.Chunks.{cut-first}
use Rattle.program.proofs.Pieces.{node-long, node-next, part-here, part-end}
use Rattle.program.proofs.roots.first_late.Goals as goal

pub loop-k-init : goal.loop-k-init
loop-k-init c =
    let items = c.enumerate-k-items.ensures in
    let z : c.args.i + 0 ≡ c.args.i = omega arith in
    rw (c.into_iter-k-iterator.ensures.into_iter_gives, items.count, items.source) (
      cut-first 4 _ c.chunks_exact.ensures.size (c.chunks_exact.ensures.rest ∙ c.subtree.ensures),
      rw z refl,
    )

pub read_node-node-requires : goal.read_node-node-requires
read_node-node-requires c = omega (arith, node-long c.loop-k.invariant.0 c.next.new.self.iter c.in-Some.bytes c.in-Some.ensures.steps.0)

pub overflow_add-i : goal.overflow_add-i
overflow_add-i c =
    let pre = c.requires in
    let steps = c.in-Some.ensures.steps in
    let s = c.args.tree.now.program.now in
    let e = past c.args.tree.now.ends.now (node_count s) c.args.i in
    let w = side-within _ _ _ pre e refl in
    let it = part-here s c.args.i e (past-later s _ c.args.i (pre.laid.each c.args.i) e refl) w c.loop-k.invariant.0 c.next.new.self.iter c.in-Some.bytes steps.0 in
    omega (arith, it.1, w, pre.laid.short, steps.1)

pub returns-then-node-r : goal.returns-then-node-r
returns-then-node-r c =
    let pre = c.requires in
    let known = c.loop-k.invariant in
    let steps = c.in-Some.ensures.steps in
    let s = c.args.tree.now.program.now in
    let i = c.args.i in
    let e = past c.args.tree.now.ends.now (node_count s) i in
    let it = part-here s i e (past-later s _ i (pre.laid.each i) e refl) (side-within _ _ _ pre e refl) known.0 c.next.new.self.iter c.in-Some.bytes steps.0 in
    rw steps.1 at c.refuse.ensures
    ∙ late-here _ s e (i + c.loop-k.k-iterator.count) _ (c.read_node-node.ensures ∙ it.0) it.1 c.if-node-r.true
    ∙ sym known.1 ∙ late-side _ _ _ _ pre e refl

pub loop-k-preserved : goal.loop-k-preserved
loop-k-preserved c =
    let pre = c.requires in
    let known = c.loop-k.invariant in
    let steps = c.in-Some.ensures.steps in
    let s = c.args.tree.now.program.now in
    let i = c.args.i in
    let k = c.loop-k.k-iterator.count in
    let e = past c.args.tree.now.ends.now (node_count s) i in
    let it = part-here s i e (past-later s _ i (pre.laid.each i) e refl) (side-within _ _ _ pre e refl) known.0 c.next.new.self.iter c.in-Some.bytes steps.0 in
    let z : i + k + 1 ≡ i + (k + 1) = omega arith in
    rw steps.2 (
      node-next known.0 c.next.new.self.iter c.in-Some.bytes steps.0,
      known.1 ∙ rw z at (late-next _ s e (i + k) _ (c.read_node-node.ensures ∙ it.0) it.1 c.if-node-r.false),
    )

pub returns : goal.returns
returns c =
    let pre = c.requires in
    let known = c.loop-k.invariant in
    let s = c.args.tree.now.program.now in
    let i = c.args.i in
    let e = past c.args.tree.now.ends.now (node_count s) i in
    let end = part-end s i e (past-later s _ i (pre.laid.each i) e refl) (side-within _ _ _ pre e refl) known.0 c.next.new.self.iter c.in-None.ensures.steps.0 in
    late-end _ s e (i + c.loop-k.k-iterator.count) end ∙ sym known.1 ∙ late-side _ _ _ _ pre e refl
