-- `counts::count_expr` meets its contract: the tree at its node, by the node's kind, tells its parts. The nodes that are left fall. Assumes nothing.
use mathlib.Core.Path.{◌≡◌, refl}
use Prim.Native.Nat.{◌+◌}
use native.Mathlib.Omega.{arith}
use Rattle.model.specs.Program.{const, var, compl, op, expr_at}
use Rattle.model.specs.Numbering.{expr_count}
use Rattle.laws.specs.Program.Trees.{at-var, at-compl}
use Rattle.program.proofs.Children.{second-later, op-read, elem-read}
use Rattle.compiler.proofs.Reading.{inner-expr}
use Rattle.functional.proofs.counts.+count_expr.Goals as goal

pub returns-then-kind-eq1 : goal.returns-then-kind-eq1
unfolding expr_count
returns-then-kind-eq1 t c =
    let const-of : expr_at c.args.tree.now.program.now c.args.i ≡ const c.expr_node-node.result.n = c.expr_node-node.ensures.constant c.if-kind-eq1.true in
    rw const-of refl

pub returns-then-kind-eq2 : goal.returns-then-kind-eq2
unfolding expr_count
returns-then-kind-eq2 t c =
    let here = c.expr_node-node.ensures.here c.if-kind-eq1.false in
    let var-of : expr_at c.args.tree.now.program.now c.args.i ≡ var c.expr_node-node.result.n = at-var _ _ here.0 _ here.2 c.if-kind-eq2.true in
    rw var-of refl

pub overflow_add-first : goal.overflow_add-first
overflow_add-first t c =
    let here = c.expr_node-node.ensures.here c.if-kind-eq1.false in
    omega (arith, here.0, c.requires.0.short)

pub count_expr-requires : goal.count_expr-requires
unfolding expr_count
count_expr-requires t c =
    let here = c.expr_node-node.ensures.here c.if-kind-eq1.false in
    let compl-of : expr_at c.args.tree.now.program.now c.args.i ≡ compl (expr_at c.args.tree.now.program.now (c.args.i + 1)) = at-compl _ _ here.0 _ here.2 c.if-kind-eq3.true in
    let pre = c.requires in
    let basic = rw compl-of at pre.1 in
    let bound = rw compl-of at pre.2 in
    (omega (arith, here.0), (pre.0, basic, omega (arith, bound)))

pub overflow_add-result : goal.overflow_add-result
unfolding expr_count
overflow_add-result t c =
    let here = c.expr_node-node.ensures.here c.if-kind-eq1.false in
    let compl-of : expr_at c.args.tree.now.program.now c.args.i ≡ compl (expr_at c.args.tree.now.program.now (c.args.i + 1)) = at-compl _ _ here.0 _ here.2 c.if-kind-eq3.true in
    let bound = rw compl-of at c.requires.2 in
    omega (arith, bound, c.count_expr.ensures)

pub returns-then-kind-eq3 : goal.returns-then-kind-eq3
unfolding expr_count
returns-then-kind-eq3 t c =
    let here = c.expr_node-node.ensures.here c.if-kind-eq1.false in
    let compl-of : expr_at c.args.tree.now.program.now c.args.i ≡ compl (expr_at c.args.tree.now.program.now (c.args.i + 1)) = at-compl _ _ here.0 _ here.2 c.if-kind-eq3.true in
    rw compl-of (omega (arith, c.count_expr.ensures))

pub next-second-requires : goal.next-second-requires
next-second-requires t c = omega (arith, c.requires.0.short)

pub count_expr-e-requires : goal.count_expr-e-requires
unfolding expr_count
count_expr-e-requires t c =
    let here = c.expr_node-node.ensures.here c.if-kind-eq1.false in
    let n = inner-expr c.requires.0 c.expr_node-node.ensures c.if-kind-eq1.false c.next-second.ensures in
    let op-of : expr_at c.args.tree.now.program.now c.args.i ≡ op c.expr_node-node.result.kind (expr_at c.args.tree.now.program.now (c.args.i + 1)) (expr_at c.args.tree.now.program.now c.next-second.result) = let basic = c.requires.1 in
    op-read n here.1 c.if-kind-eq1.false c.if-kind-eq2.false c.if-kind-eq3.false (λ e. rw (elem-read n e) at basic) in
    let pre = c.requires in
    let basic = rw op-of at pre.1 in
    let bound = rw op-of at pre.2 in
    (omega (arith, n.here), (pre.0, basic.0, omega (arith, bound)))

pub count_expr-f-requires : goal.count_expr-f-requires
unfolding expr_count
count_expr-f-requires t c =
    let here = c.expr_node-node.ensures.here c.if-kind-eq1.false in
    let n = inner-expr c.requires.0 c.expr_node-node.ensures c.if-kind-eq1.false c.next-second.ensures in
    let op-of : expr_at c.args.tree.now.program.now c.args.i ≡ op c.expr_node-node.result.kind (expr_at c.args.tree.now.program.now (c.args.i + 1)) (expr_at c.args.tree.now.program.now c.next-second.result) = let basic = c.requires.1 in
    op-read n here.1 c.if-kind-eq1.false c.if-kind-eq2.false c.if-kind-eq3.false (λ e. rw (elem-read n e) at basic) in
    let pre = c.requires in
    let basic = rw op-of at pre.1 in
    let bound = rw op-of at pre.2 in
    (omega (arith, n.here, second-later n), (pre.0, basic.1, omega (arith, bound)))

pub overflow_add-result-2 : goal.overflow_add-result-2
unfolding expr_count
overflow_add-result-2 t c =
    let here = c.expr_node-node.ensures.here c.if-kind-eq1.false in
    let n = inner-expr c.requires.0 c.expr_node-node.ensures c.if-kind-eq1.false c.next-second.ensures in
    let op-of : expr_at c.args.tree.now.program.now c.args.i ≡ op c.expr_node-node.result.kind (expr_at c.args.tree.now.program.now (c.args.i + 1)) (expr_at c.args.tree.now.program.now c.next-second.result) = let basic = c.requires.1 in
    op-read n here.1 c.if-kind-eq1.false c.if-kind-eq2.false c.if-kind-eq3.false (λ e. rw (elem-read n e) at basic) in
    let bound = rw op-of at c.requires.2 in
    omega (arith, bound, c.count_expr-e.ensures, c.count_expr-f.ensures)

pub overflow_add-result-3 : goal.overflow_add-result-3
unfolding expr_count
overflow_add-result-3 t c =
    let here = c.expr_node-node.ensures.here c.if-kind-eq1.false in
    let n = inner-expr c.requires.0 c.expr_node-node.ensures c.if-kind-eq1.false c.next-second.ensures in
    let op-of : expr_at c.args.tree.now.program.now c.args.i ≡ op c.expr_node-node.result.kind (expr_at c.args.tree.now.program.now (c.args.i + 1)) (expr_at c.args.tree.now.program.now c.next-second.result) = let basic = c.requires.1 in
    op-read n here.1 c.if-kind-eq1.false c.if-kind-eq2.false c.if-kind-eq3.false (λ e. rw (elem-read n e) at basic) in
    let bound = rw op-of at c.requires.2 in
    omega (arith, bound, c.count_expr-e.ensures, c.count_expr-f.ensures)

pub returns : goal.returns
unfolding expr_count
returns t c =
    let here = c.expr_node-node.ensures.here c.if-kind-eq1.false in
    let n = inner-expr c.requires.0 c.expr_node-node.ensures c.if-kind-eq1.false c.next-second.ensures in
    let op-of : expr_at c.args.tree.now.program.now c.args.i ≡ op c.expr_node-node.result.kind (expr_at c.args.tree.now.program.now (c.args.i + 1)) (expr_at c.args.tree.now.program.now c.next-second.result) = let basic = c.requires.1 in
    op-read n here.1 c.if-kind-eq1.false c.if-kind-eq2.false c.if-kind-eq3.false (λ e. rw (elem-read n e) at basic) in
    rw op-of (omega (arith, c.count_expr-e.ensures, c.count_expr-f.ensures))
