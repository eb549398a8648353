-- The goals of the functions that count a statement's cells, one function after another; what falls along their calls is in Invariants.antt.
-- Assumes nothing.
use Prim.Native.Nat.{◌+◌, ◌≤◌}
use Rattle.model.specs.Program.{tick, assign, expr_at, stmt_at}
use mathlib.Core.Path.{◌≡◌, ◌∙◌, refl}
use native.Mathlib.Omega.{arith}
use Rattle.model.specs.Procedures.{inline}
use Rattle.model.specs.Numbering.{if_delay_count}
use Rattle.model.specs.Functional.{many, branches, count}
use Rattle.functional.specs.Sets.{has}
use Rattle.functional.specs.Walk.{plain_at}
use Rattle.functional.proofs.Bits.{many-set}
use Rattle.functional.proofs.Branches.{no-delay, own-delay}
use Rattle.functional.proofs.Loops.{many-told}
use Rattle.laws.specs.Program.Trees.{at_tick, at-assign}
use Rattle.program.specs.Ends.{past-later}
use Rattle.program.proofs.Children.{second-later, seq-read, par-read, ite-read}
use Rattle.functional.proofs.Writing.{loop-basic, loop-count}
use Rattle.compiler.proofs.Reading.{inner-stmt}
use Rattle.functional.proofs.counts.+count_if_count_loop_count_stmt_count_two.Goals as goal
use Rattle.functional.proofs.counts.+count_if_count_loop_count_stmt_count_two.Goals.{count_if-then-delay-eq0, count_if-else-delay-eq0}

pub count_if-count_expr-e-requires : goal.count_if-count_expr-e-requires
unfolding inline count
count_if-count_expr-e-requires t c =
    (c.requires.0, c.requires.1.0, omega (arith, c.requires.2))

pub count_if-count_two-parts-requires : goal.count_if-count_two-parts-requires
unfolding inline count
count_if-count_two-parts-requires t c =
    (omega arith, (c.requires.0, (c.requires.1.1, c.requires.1.2), omega (arith, c.requires.2), c.requires.3))

pub count_if-both-set-requires : goal.count_if-both-set-requires
count_if-both-set-requires t c =
    (c.requires.0, c.requires.1.1, c.requires.1.2)

pub count_if-overflow_add-result : goal.count_if-overflow_add-result
unfolding inline count
count_if-overflow_add-result t c =
    let own_of : c.if-delay-eq0.own ≡ if_delay_count c.args.delay = elim c.if-delay-eq0.branch [ count_if-then-delay-eq0 v ↦ no-delay v.if-delay-eq0.true v.own-is | count_if-else-delay-eq0 v ↦ own-delay _ v.if-delay-eq0.false v.own-is ] in
    omega (arith, c.requires.2, c.count_expr-e.ensures, own_of, c.count_two-parts.ensures)

pub count_if-overflow_add-result-2 : goal.count_if-overflow_add-result-2
unfolding inline count
count_if-overflow_add-result-2 t c =
    let own_of : c.if-delay-eq0.own ≡ if_delay_count c.args.delay = elim c.if-delay-eq0.branch [ count_if-then-delay-eq0 v ↦ no-delay v.if-delay-eq0.true v.own-is | count_if-else-delay-eq0 v ↦ own-delay _ v.if-delay-eq0.false v.own-is ] in
    omega (arith, c.requires.2, c.count_expr-e.ensures, own_of, c.count_two-parts.ensures)

pub count_if-overflow_add-result-3 : goal.count_if-overflow_add-result-3
unfolding inline count
count_if-overflow_add-result-3 t c =
    let own_of : c.if-delay-eq0.own ≡ if_delay_count c.args.delay = elim c.if-delay-eq0.branch [ count_if-then-delay-eq0 v ↦ no-delay v.if-delay-eq0.true v.own-is | count_if-else-delay-eq0 v ↦ own-delay _ v.if-delay-eq0.false v.own-is ] in
    omega (arith, c.requires.2, c.count_expr-e.ensures, own_of, c.count_two-parts.ensures)

pub count_if-overflow_mul-result : goal.count_if-overflow_mul-result
unfolding inline count
count_if-overflow_mul-result t c =
    let many-of : c.many.result ≡ many (branches (plain_at c.args.tree.now.program.now c.args.second) (plain_at c.args.tree.now.program.now c.args.third)) = c.many.ensures ∙ many-set (has c.both-set.result) _ c.both-set.ensures in
    omega (arith, c.requires.2, many-of)

pub count_if-overflow_add-result-4 : goal.count_if-overflow_add-result-4
unfolding inline count
count_if-overflow_add-result-4 t c =
    let own_of : c.if-delay-eq0.own ≡ if_delay_count c.args.delay = elim c.if-delay-eq0.branch [ count_if-then-delay-eq0 v ↦ no-delay v.if-delay-eq0.true v.own-is | count_if-else-delay-eq0 v ↦ own-delay _ v.if-delay-eq0.false v.own-is ] in
    let many-of : c.many.result ≡ many (branches (plain_at c.args.tree.now.program.now c.args.second) (plain_at c.args.tree.now.program.now c.args.third)) = c.many.ensures ∙ many-set (has c.both-set.result) _ c.both-set.ensures in
    omega (arith, c.requires.2, c.count_expr-e.ensures, own_of, c.count_two-parts.ensures, many-of)

pub count_if-returns : goal.count_if-returns
unfolding inline count
count_if-returns t c =
    let own_of : c.if-delay-eq0.own ≡ if_delay_count c.args.delay = elim c.if-delay-eq0.branch [ count_if-then-delay-eq0 v ↦ no-delay v.if-delay-eq0.true v.own-is | count_if-else-delay-eq0 v ↦ own-delay _ v.if-delay-eq0.false v.own-is ] in
    let many-of : c.many.result ≡ many (branches (plain_at c.args.tree.now.program.now c.args.second) (plain_at c.args.tree.now.program.now c.args.third)) = c.many.ensures ∙ many-set (has c.both-set.result) _ c.both-set.ensures in
    omega (arith, c.count_expr-e.ensures, own_of, c.count_two-parts.ensures, many-of)

pub count_loop-count_expr-e-requires : goal.count_loop-count_expr-e-requires
unfolding inline count
count_loop-count_expr-e-requires t c =
    (c.requires.0, c.requires.1.0, omega (arith, c.requires.2))

pub count_loop-count_stmt-body-requires : goal.count_loop-count_stmt-body-requires
unfolding inline count
count_loop-count_stmt-body-requires t c =
    (omega arith, (c.requires.0, c.requires.1.1, omega (arith, c.requires.2)))

pub count_loop-written-set-requires : goal.count_loop-written-set-requires
count_loop-written-set-requires t c =
    (c.requires.0, c.requires.1.1)

pub count_loop-overflow_add-result : goal.count_loop-overflow_add-result
unfolding inline count
count_loop-overflow_add-result t c =
    omega (arith, c.requires.2, c.count_expr-e.ensures, c.count_stmt-body.ensures)

pub count_loop-overflow_add-result-2 : goal.count_loop-overflow_add-result-2
unfolding inline count
count_loop-overflow_add-result-2 t c =
    omega (arith, c.requires.2, c.count_expr-e.ensures, c.count_stmt-body.ensures)

pub count_loop-overflow_mul-result : goal.count_loop-overflow_mul-result
unfolding inline count
count_loop-overflow_mul-result t c =
    omega (arith, c.requires.2, c.count_expr-e.ensures, c.count_stmt-body.ensures, many-told _ _ c.written-set.ensures c.many.ensures)

pub count_loop-overflow_add-result-3 : goal.count_loop-overflow_add-result-3
unfolding inline count
count_loop-overflow_add-result-3 t c =
    omega (arith, c.requires.2, c.count_expr-e.ensures, c.count_stmt-body.ensures, many-told _ _ c.written-set.ensures c.many.ensures)

pub count_loop-returns : goal.count_loop-returns
unfolding inline count
count_loop-returns t c =
    omega (arith, c.count_expr-e.ensures, c.count_stmt-body.ensures, many-told _ _ c.written-set.ensures c.many.ensures)

pub count_stmt-returns-then-kind-eq16 : goal.count_stmt-returns-then-kind-eq16
unfolding inline count
count_stmt-returns-then-kind-eq16 t c = rw (c.stmt_node-node.ensures.nothing c.if-kind-eq16.true) refl

pub count_stmt-returns-then-kind-eq17 : goal.count_stmt-returns-then-kind-eq17
unfolding inline count
count_stmt-returns-then-kind-eq17 t c =
    let here = c.stmt_node-node.ensures.here c.if-kind-eq16.false in
    let tick-of : stmt_at c.args.tree.now.program.now c.args.i ≡ tick c.stmt_node-node.result.delay = at_tick _ _ here.0 _ here.2 c.if-kind-eq17.true in
    rw tick-of refl

pub count_stmt-overflow_add-i1 : goal.count_stmt-overflow_add-i1
count_stmt-overflow_add-i1 t c =
    let here = c.stmt_node-node.ensures.here c.if-kind-eq16.false in
    omega (arith, here.0, c.requires.0.short)

pub count_stmt-count_expr-requires : goal.count_stmt-count_expr-requires
unfolding inline count
count_stmt-count_expr-requires t c =
    let here = c.stmt_node-node.ensures.here c.if-kind-eq16.false in
    let assign-of : stmt_at c.args.tree.now.program.now c.args.i ≡ assign c.stmt_node-node.result.delay c.stmt_node-node.result.n (expr_at c.args.tree.now.program.now (c.args.i + 1)) = at-assign _ _ here.0 _ here.2 c.if-kind-eq18.true in
    let basic = rw assign-of at c.requires.1 in
    let bound = rw assign-of at c.requires.2 in
    (c.requires.0, basic, omega (arith, bound))

pub count_stmt-overflow_add-result : goal.count_stmt-overflow_add-result
unfolding inline count
count_stmt-overflow_add-result t c =
    let here = c.stmt_node-node.ensures.here c.if-kind-eq16.false in
    let assign-of : stmt_at c.args.tree.now.program.now c.args.i ≡ assign c.stmt_node-node.result.delay c.stmt_node-node.result.n (expr_at c.args.tree.now.program.now (c.args.i + 1)) = at-assign _ _ here.0 _ here.2 c.if-kind-eq18.true in
    let bound = rw assign-of at c.requires.2 in
    omega (arith, bound, c.count_expr.ensures)

pub count_stmt-returns-then-kind-eq18 : goal.count_stmt-returns-then-kind-eq18
unfolding inline count
count_stmt-returns-then-kind-eq18 t c =
    let here = c.stmt_node-node.ensures.here c.if-kind-eq16.false in
    let assign-of : stmt_at c.args.tree.now.program.now c.args.i ≡ assign c.stmt_node-node.result.delay c.stmt_node-node.result.n (expr_at c.args.tree.now.program.now (c.args.i + 1)) = at-assign _ _ here.0 _ here.2 c.if-kind-eq18.true in
    rw assign-of (omega (arith, c.count_expr.ensures))

pub count_stmt-next-i2-requires : goal.count_stmt-next-i2-requires
count_stmt-next-i2-requires t c = omega (arith, c.requires.0.short)

pub count_stmt-count_two-requires : goal.count_stmt-count_two-requires
count_stmt-count_two-requires t c =
    let n = inner-stmt c.requires.0 c.stmt_node-node.ensures c.if-kind-eq16.false c.next-i2.ensures in
    let is = seq-read n c.if-kind-eq19.true in
    (omega (arith, n.here), (c.requires.0, rw is at c.requires.1, rw is at c.requires.2, second-later n))

pub count_stmt-returns-then-kind-eq19 : goal.count_stmt-returns-then-kind-eq19
count_stmt-returns-then-kind-eq19 t c =
    let n = inner-stmt c.requires.0 c.stmt_node-node.ensures c.if-kind-eq16.false c.next-i2.ensures in
    rw (seq-read n c.if-kind-eq19.true) c.count_two.ensures

pub count_stmt-count_two-requires-then-kind-eq20 : goal.count_stmt-count_two-requires-then-kind-eq20
unfolding inline count
count_stmt-count_two-requires-then-kind-eq20 t c =
    let n = inner-stmt c.requires.0 c.stmt_node-node.ensures c.if-kind-eq16.false c.next-i2.ensures in
    let is = par-read n c.if-kind-eq20.true in
    let parts = rw is at c.requires.1 in
    let bound = rw is at c.requires.2 in
    (omega (arith, n.here), (c.requires.0, (parts.0, parts.1), omega (arith, bound), second-later n))

pub count_stmt-overflow_add-result-then-kind-eq20 : goal.count_stmt-overflow_add-result-then-kind-eq20
unfolding inline count
count_stmt-overflow_add-result-then-kind-eq20 t c =
    let n = inner-stmt c.requires.0 c.stmt_node-node.ensures c.if-kind-eq16.false c.next-i2.ensures in
    let bound = rw (par-read n c.if-kind-eq20.true) at c.requires.2 in
    omega (arith, bound, c.count_two-then-kind-eq20.ensures)

pub count_stmt-returns-then-kind-eq20 : goal.count_stmt-returns-then-kind-eq20
unfolding inline count
count_stmt-returns-then-kind-eq20 t c =
    let n = inner-stmt c.requires.0 c.stmt_node-node.ensures c.if-kind-eq16.false c.next-i2.ensures in
    rw (par-read n c.if-kind-eq20.true) (omega (arith, c.count_two-then-kind-eq20.ensures))

pub count_stmt-next-i3-requires : goal.count_stmt-next-i3-requires
count_stmt-next-i3-requires t c = omega (arith, c.requires.0.short)

pub count_stmt-count_if-requires : goal.count_stmt-count_if-requires
count_stmt-count_if-requires t c =
    let n = inner-stmt c.requires.0 c.stmt_node-node.ensures c.if-kind-eq16.false c.next-i2.ensures in
    let is = ite-read n _ c.next-i3.ensures c.if-kind-eq21.true in
    (omega (arith, n.here, second-later n), (c.requires.0, rw is at c.requires.1, rw is at c.requires.2, past-later _ _ _ (n.laid.each _) _ c.next-i3.ensures))

pub count_stmt-returns-then-kind-eq21 : goal.count_stmt-returns-then-kind-eq21
count_stmt-returns-then-kind-eq21 t c =
    let n = inner-stmt c.requires.0 c.stmt_node-node.ensures c.if-kind-eq16.false c.next-i2.ensures in
    rw (ite-read n _ c.next-i3.ensures c.if-kind-eq21.true) c.count_if.ensures

pub count_stmt-count_loop-requires : goal.count_stmt-count_loop-requires
count_stmt-count_loop-requires t c =
    let here = c.stmt_node-node.ensures.here c.if-kind-eq16.false in
    let n = inner-stmt c.requires.0 c.stmt_node-node.ensures c.if-kind-eq16.false c.next-i2.ensures in
    let loop-of : 22 ≤ c.stmt_node-node.result.kind = omega (arith, here.1, c.if-kind-eq17.false, c.if-kind-eq18.false, c.if-kind-eq19.false, c.if-kind-eq20.false, c.if-kind-eq21.false) in
    (omega (arith, n.here, second-later n), (c.requires.0, loop-basic n c.requires.1 loop-of, rw (loop-count n c.requires.1 loop-of) at c.requires.2))

pub count_stmt-returns : goal.count_stmt-returns
count_stmt-returns t c =
    let here = c.stmt_node-node.ensures.here c.if-kind-eq16.false in
    let n = inner-stmt c.requires.0 c.stmt_node-node.ensures c.if-kind-eq16.false c.next-i2.ensures in
    let loop-of : 22 ≤ c.stmt_node-node.result.kind = omega (arith, here.1, c.if-kind-eq17.false, c.if-kind-eq18.false, c.if-kind-eq19.false, c.if-kind-eq20.false, c.if-kind-eq21.false) in
    rw (loop-count n c.requires.1 loop-of) c.count_loop.ensures

pub count_two-count_stmt-p-requires : goal.count_two-count_stmt-p-requires
unfolding inline count
count_two-count_stmt-p-requires t c =
    (omega arith, (c.requires.0, c.requires.1.0, omega (arith, c.requires.2)))

pub count_two-count_stmt-q-requires : goal.count_two-count_stmt-q-requires
unfolding inline count
count_two-count_stmt-q-requires t c =
    (omega (arith, c.requires.3), (c.requires.0, c.requires.1.1, omega (arith, c.requires.2)))

pub count_two-overflow_add-result : goal.count_two-overflow_add-result
unfolding inline count
count_two-overflow_add-result t c =
    omega (arith, c.requires.2, c.count_stmt-p.ensures, c.count_stmt-q.ensures)

pub count_two-returns : goal.count_two-returns
unfolding inline count
count_two-returns t c = omega (arith, c.count_stmt-p.ensures, c.count_stmt-q.ensures)
