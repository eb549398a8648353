-- What a statement does: whether its nodes do it is whether those from node k on do.
use mathlib.Core.Path.{refl, sym, ◌∙◌, ap}
use native.Mathlib.Omega.{arith}
use Rattle.model.specs.Program.{node_count}
use Rattle.program.specs.Ends.{past}
use Rattle.program.specs.Uses.{any_marked, marked-here, marked_next, marked-end, side-within, side-nodes}
use Rattle.program.proofs.clashes.uses.Goals as goal

pub next-k-end-requires : goal.next-k-end-requires
next-k-end-requires c = omega (arith, c.requires.laid.short)

pub read_node-requires : goal.read_node-requires
read_node-requires c = omega (arith, c.loop-k-test.true, side-within _ _ _ c.requires _ c.next-k-end.ensures)

pub returns-then-marked : goal.returns-then-marked
returns-then-marked c =
    let s = c.args.tree.now.program.now in
    let e = past c.args.tree.now.ends.now (node_count s) c.args.i in
    marked-here _ _ s e c.loop-k.k _ c.read_node.ensures (omega (arith, c.loop-k-test.true, c.next-k-end.ensures)) (sym c.marked.ensures ∙ c.if-marked.true)
    ∙ sym c.loop-k.invariant ∙ ap (any_marked _ _) (side-nodes _ _ _ c.requires e refl)

pub loop-k-preserved : goal.loop-k-preserved
loop-k-preserved c =
    let s = c.args.tree.now.program.now in
    let e = past c.args.tree.now.ends.now (node_count s) c.args.i in
    c.loop-k.invariant
    ∙ marked_next _ _ s e c.loop-k.k _ c.read_node.ensures (omega (arith, c.loop-k-test.true, c.next-k-end.ensures)) (sym c.marked.ensures ∙ c.if-marked.false)

pub returns : goal.returns
returns c =
    let s = c.args.tree.now.program.now in
    let e = past c.args.tree.now.ends.now (node_count s) c.args.i in
    marked-end _ _ s e c.loop-k.k (omega (arith, c.loop-k-test.false, c.next-k-end.ensures))
    ∙ sym c.loop-k.invariant ∙ ap (any_marked _ _) (side-nodes _ _ _ c.requires e refl)
