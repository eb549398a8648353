-- `walk::put_expr` meets its contract: the tree at its node, by the node's kind, tells its parts. The nodes that are left fall. Assumes nothing.
use mathlib.Core.Path.{◌≡◌}
use mathlib.Core.Logic.{inl}
use Prim.Native.Nat.{◌+◌}
use native.Mathlib.Omega.{arith}
use Rattle.model.specs.Program.{const, var, compl, op, elem, expr_at}
use Rattle.model.specs.Numbering.{expr_count}
use Rattle.laws.specs.Program.Trees.{at-var, at-compl, at-elem}
use Rattle.program.proofs.Children.{second-later, op-read}
use Rattle.compiler.proofs.Exprs.{last_fits, const-done, var-done, compl-done, elem-done, op-done, compl-ready, elem-ready, op-first, op-second, elem-words, first-words, second-words}
use Rattle.compiler.proofs.Reading.{inner-expr}
use Rattle.compiler.proofs.walk.+put_expr.Goals as goal

pub put_word-requires : goal.put_word-requires
unfolding expr_count
put_word-requires g t c =
    let const-of : expr_at c.args.tree.now.program.now c.args.i ≡ const c.expr_node-node.result.n = c.expr_node-node.ensures.constant c.if-kind-eq1.true in
    last_fits (rw const-of at c.requires.1) (omega arith)

pub returns-then-kind-eq1 : goal.returns-then-kind-eq1
returns-then-kind-eq1 g t c =
    let const-of : expr_at c.args.tree.now.program.now c.args.i ≡ const c.expr_node-node.result.n = c.expr_node-node.ensures.constant c.if-kind-eq1.true in
    λ ws come. rw (const-of, c.put_word.ensures.word) (const-done c.put_word.ensures.cells)

pub variable-requires : goal.variable-requires
variable-requires g t c =
    let here = c.expr_node-node.ensures.here c.if-kind-eq1.false in
    let var-of : expr_at c.args.tree.now.program.now c.args.i ≡ var c.expr_node-node.result.n = at-var _ _ here.0 _ here.2 c.if-kind-eq2.true in
    let ready = rw var-of at c.requires.1 in
    ready.formed

pub returns-then-kind-eq2 : goal.returns-then-kind-eq2
returns-then-kind-eq2 g t c =
    let here = c.expr_node-node.ensures.here c.if-kind-eq1.false in
    let var-of : expr_at c.args.tree.now.program.now c.args.i ≡ var c.expr_node-node.result.n = at-var _ _ here.0 _ here.2 c.if-kind-eq2.true in
    λ ws come. rw var-of (var-done (c.variable.ensures ws come))

pub overflow_add-first : goal.overflow_add-first
overflow_add-first g t c =
    let here = c.expr_node-node.ensures.here c.if-kind-eq1.false in
    omega (arith, here.0, c.requires.0.short)

pub put_expr-e-requires : goal.put_expr-e-requires
put_expr-e-requires g t c =
    let here = c.expr_node-node.ensures.here c.if-kind-eq1.false in
    let compl-of : expr_at c.args.tree.now.program.now c.args.i ≡ compl (expr_at c.args.tree.now.program.now (c.args.i + 1)) = at-compl _ _ here.0 _ here.2 c.if-kind-eq3.true in
    let pre = c.requires in
    λ κs live. (omega (arith, here.0), (live, (pre.0, compl-ready (rw compl-of at pre.1), rw compl-of at pre.2)))

pub put_word-requires-then-kind-eq3 : goal.put_word-requires-then-kind-eq3
unfolding expr_count
put_word-requires-then-kind-eq3 g t c =
    let here = c.expr_node-node.ensures.here c.if-kind-eq1.false in
    let compl-of : expr_at c.args.tree.now.program.now c.args.i ≡ compl (expr_at c.args.tree.now.program.now (c.args.i + 1)) = at-compl _ _ here.0 _ here.2 c.if-kind-eq3.true in
    let ready = rw compl-of at c.requires.1 in
    let some = g.met.W.Words.some_wires c.args.words.now in
    rw c.put_expr-e.auto.cells (last_fits ready (omega (arith, (c.put_expr-e.ensures some.0 some.1).cell)))

pub returns-then-kind-eq3 : goal.returns-then-kind-eq3
returns-then-kind-eq3 g t c =
    let here = c.expr_node-node.ensures.here c.if-kind-eq1.false in
    let compl-of : expr_at c.args.tree.now.program.now c.args.i ≡ compl (expr_at c.args.tree.now.program.now (c.args.i + 1)) = at-compl _ _ here.0 _ here.2 c.if-kind-eq3.true in
    λ ws come. rw (compl-of, c.put_word-then-kind-eq3.ensures.word) (compl-done (c.put_expr-e.ensures ws come) c.put_word-then-kind-eq3.ensures.cells)

pub put_expr-e-requires-then-kind-eq10 : goal.put_expr-e-requires-then-kind-eq10
put_expr-e-requires-then-kind-eq10 g t c =
    let here = c.expr_node-node.ensures.here c.if-kind-eq1.false in
    let elem_of : expr_at c.args.tree.now.program.now c.args.i ≡ elem c.expr_node-node.result.n (expr_at c.args.tree.now.program.now (c.args.i + 1)) = at-elem _ _ here.0 _ here.2 c.if-kind-eq10.true in
    let pre = c.requires in
    λ κs live. (omega (arith, here.0), (live, (pre.0, elem-ready (rw elem_of at pre.1), inl (elem-words pre.2 elem_of))))

pub array-requires : goal.array-requires
array-requires g t c =
    let here = c.expr_node-node.ensures.here c.if-kind-eq1.false in
    let elem_of : expr_at c.args.tree.now.program.now c.args.i ≡ elem c.expr_node-node.result.n (expr_at c.args.tree.now.program.now (c.args.i + 1)) = at-elem _ _ here.0 _ here.2 c.if-kind-eq10.true in
    let ready = rw elem_of at c.requires.1 in
    ready.formed.0

pub put_word-requires-then-kind-eq10 : goal.put_word-requires-then-kind-eq10
unfolding expr_count
put_word-requires-then-kind-eq10 g t c =
    let here = c.expr_node-node.ensures.here c.if-kind-eq1.false in
    let elem_of : expr_at c.args.tree.now.program.now c.args.i ≡ elem c.expr_node-node.result.n (expr_at c.args.tree.now.program.now (c.args.i + 1)) = at-elem _ _ here.0 _ here.2 c.if-kind-eq10.true in
    let ready = rw elem_of at c.requires.1 in
    let some = g.met.W.Words.some_wires c.args.words.now in
    rw c.put_expr-e-then-kind-eq10.auto.cells (last_fits ready (omega (arith, (c.put_expr-e-then-kind-eq10.ensures some.0 some.1).cell)))

pub returns-then-kind-eq10 : goal.returns-then-kind-eq10
returns-then-kind-eq10 g t c =
    let here = c.expr_node-node.ensures.here c.if-kind-eq1.false in
    let elem_of : expr_at c.args.tree.now.program.now c.args.i ≡ elem c.expr_node-node.result.n (expr_at c.args.tree.now.program.now (c.args.i + 1)) = at-elem _ _ here.0 _ here.2 c.if-kind-eq10.true in
    λ ws come. rw (elem_of, c.put_word-then-kind-eq10.ensures.word) (elem-done (c.put_expr-e-then-kind-eq10.ensures ws come) (c.array.ensures (elem-words c.requires.2 elem_of) ws come) c.put_word-then-kind-eq10.ensures.cells)

pub next-second-requires : goal.next-second-requires
next-second-requires g t c = omega (arith, c.requires.0.short)

pub put_expr-e-requires-2 : goal.put_expr-e-requires-2
put_expr-e-requires-2 g t c =
    let here = c.expr_node-node.ensures.here c.if-kind-eq1.false in
    let n = inner-expr c.requires.0 c.expr_node-node.ensures c.if-kind-eq1.false c.next-second.ensures in
    let op-of : expr_at c.args.tree.now.program.now c.args.i ≡ op c.expr_node-node.result.kind (expr_at c.args.tree.now.program.now (c.args.i + 1)) (expr_at c.args.tree.now.program.now c.next-second.result) = op-read n here.1 c.if-kind-eq1.false c.if-kind-eq2.false c.if-kind-eq3.false c.if-kind-eq10.false in
    let pre = c.requires in
    λ κs live. (omega (arith, here.0), (live, (pre.0, op-first (rw op-of at pre.1), first-words pre.2 op-of)))

pub put_expr-f-requires : goal.put_expr-f-requires
put_expr-f-requires g t c =
    let here = c.expr_node-node.ensures.here c.if-kind-eq1.false in
    let n = inner-expr c.requires.0 c.expr_node-node.ensures c.if-kind-eq1.false c.next-second.ensures in
    let op-of : expr_at c.args.tree.now.program.now c.args.i ≡ op c.expr_node-node.result.kind (expr_at c.args.tree.now.program.now (c.args.i + 1)) (expr_at c.args.tree.now.program.now c.next-second.result) = op-read n here.1 c.if-kind-eq1.false c.if-kind-eq2.false c.if-kind-eq3.false c.if-kind-eq10.false in
    let pre = c.requires in
    let some = g.met.W.Words.some_wires c.args.words.now in
    λ κs live.
    rw ((c.put_expr-e-2.ensures some.0 some.1).cell, c.put_expr-e-2.auto.cells)
    (omega (arith, n.here, second-later n), (live, (pre.0, op-second (rw op-of at pre.1), second-words pre.2 op-of)))

pub put_word-requires-2 : goal.put_word-requires-2
unfolding expr_count
put_word-requires-2 g t c =
    let here = c.expr_node-node.ensures.here c.if-kind-eq1.false in
    let n = inner-expr c.requires.0 c.expr_node-node.ensures c.if-kind-eq1.false c.next-second.ensures in
    let op-of : expr_at c.args.tree.now.program.now c.args.i ≡ op c.expr_node-node.result.kind (expr_at c.args.tree.now.program.now (c.args.i + 1)) (expr_at c.args.tree.now.program.now c.next-second.result) = op-read n here.1 c.if-kind-eq1.false c.if-kind-eq2.false c.if-kind-eq3.false c.if-kind-eq10.false in
    let ready = rw op-of at c.requires.1 in
    let some = g.met.W.Words.some_wires c.args.words.now in
    rw (c.put_expr-f.auto.cells, c.put_expr-e-2.auto.cells)
    (last_fits ready (omega (arith, (c.put_expr-e-2.ensures some.0 some.1).cell, (c.put_expr-f.ensures some.0 some.1).cell)))

pub returns : goal.returns
returns g t c =
    let here = c.expr_node-node.ensures.here c.if-kind-eq1.false in
    let n = inner-expr c.requires.0 c.expr_node-node.ensures c.if-kind-eq1.false c.next-second.ensures in
    let op-of : expr_at c.args.tree.now.program.now c.args.i ≡ op c.expr_node-node.result.kind (expr_at c.args.tree.now.program.now (c.args.i + 1)) (expr_at c.args.tree.now.program.now c.next-second.result) = op-read n here.1 c.if-kind-eq1.false c.if-kind-eq2.false c.if-kind-eq3.false c.if-kind-eq10.false in
    λ ws come. rw (op-of, c.put_word-2.ensures.word) (op-done (c.put_expr-e-2.ensures ws come) (c.put_expr-f.ensures ws come) c.put_word-2.ensures.cells)
