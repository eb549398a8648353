-- `counts::written` meets its contract: the tree at its node, by the node's kind, tells its parts. The nodes that are left fall. Assumes nothing.
use Prim.Native.Nat.{◌<◌}
use native.Mathlib.Omega.{arith}
use Rattle.program.proofs.Children.{second-later}
use Rattle.program.specs.Ends.{past-later}
use Rattle.functional.proofs.Writing.{none_written, one_written, loop-basic, loop-written, if-basic, if-written, two-basic, two-written}
use Rattle.compiler.proofs.Reading.{inner-stmt}
use Rattle.functional.proofs.counts.+written.Goals as goal

pub returns-then-kind-lt18 : goal.returns-then-kind-lt18
returns-then-kind-lt18 t c = none_written c.stmt_node-node.ensures c.if-kind-lt18.true

pub returns-then-kind-eq18 : goal.returns-then-kind-eq18
returns-then-kind-eq18 t c = one_written c.stmt_node-node.ensures _ c.if-kind-eq18.true c.single.ensures

pub overflow_add-i1 : goal.overflow_add-i1
overflow_add-i1 t c =
    let here = c.stmt_node-node.ensures.here (λ e. omega (arith, e, c.if-kind-lt18.false)) in
    omega (arith, here.0, c.requires.0.short)

pub next-i2-requires : goal.next-i2-requires
next-i2-requires t c = omega (arith, c.requires.0.short)

pub written-requires : goal.written-requires
written-requires t c =
    let n = inner-stmt c.requires.0 c.stmt_node-node.ensures (λ e. omega (arith, e, c.if-kind-lt18.false)) c.next-i2.ensures in
    let pre = c.requires in
    (omega (arith, n.here, second-later n), (pre.0, (loop-basic n pre.1 c.if-kind-ge22.true).1))

pub returns-then-kind-ge22 : goal.returns-then-kind-ge22
returns-then-kind-ge22 t c =
    let n = inner-stmt c.requires.0 c.stmt_node-node.ensures (λ e. omega (arith, e, c.if-kind-lt18.false)) c.next-i2.ensures in
    loop-written n c.requires.1 _ c.if-kind-ge22.true c.written.ensures

pub next-i3-requires : goal.next-i3-requires
next-i3-requires t c = omega (arith, c.requires.0.short)

pub written-then-requires : goal.written-then-requires
written-then-requires t c =
    let n = inner-stmt c.requires.0 c.stmt_node-node.ensures (λ e. omega (arith, e, c.if-kind-lt18.false)) c.next-i2.ensures in
    let pre = c.requires in
    (omega (arith, n.here, second-later n), (pre.0, (if-basic n pre.1 c.next-i3.ensures c.if-kind-eq21.true).0))

pub written-other-requires : goal.written-other-requires
written-other-requires t c =
    let n = inner-stmt c.requires.0 c.stmt_node-node.ensures (λ e. omega (arith, e, c.if-kind-lt18.false)) c.next-i2.ensures in
    let pre = c.requires in
    let third = past-later _ _ _ (n.laid.each _) _ c.next-i3.ensures in
    (omega (arith, n.here, second-later n, third), (pre.0, (if-basic n pre.1 c.next-i3.ensures c.if-kind-eq21.true).1))

pub returns-then-kind-eq21 : goal.returns-then-kind-eq21
returns-then-kind-eq21 t c =
    let n = inner-stmt c.requires.0 c.stmt_node-node.ensures (λ e. omega (arith, e, c.if-kind-lt18.false)) c.next-i2.ensures in
    if-written n c.requires.1 c.next-i3.ensures c.if-kind-eq21.true _ _ c.written-then.ensures c.written-other.ensures

pub written-p-requires : goal.written-p-requires
written-p-requires t c =
    let n = inner-stmt c.requires.0 c.stmt_node-node.ensures (λ e. omega (arith, e, c.if-kind-lt18.false)) c.next-i2.ensures in
    let low_of : 18 < c.stmt_node-node.result.kind = omega (arith, c.if-kind-lt18.false, c.if-kind-eq18.false) in
    let pre = c.requires in
    let high : c.stmt_node-node.result.kind < 21 = omega (arith, c.if-kind-ge22.false, c.if-kind-eq21.false) in
    (omega (arith, n.here), (pre.0, (two-basic n pre.1 low_of high).0))

pub written-q-requires : goal.written-q-requires
written-q-requires t c =
    let n = inner-stmt c.requires.0 c.stmt_node-node.ensures (λ e. omega (arith, e, c.if-kind-lt18.false)) c.next-i2.ensures in
    let low_of : 18 < c.stmt_node-node.result.kind = omega (arith, c.if-kind-lt18.false, c.if-kind-eq18.false) in
    let pre = c.requires in
    let high : c.stmt_node-node.result.kind < 21 = omega (arith, c.if-kind-ge22.false, c.if-kind-eq21.false) in
    (omega (arith, n.here, second-later n), (pre.0, (two-basic n pre.1 low_of high).1))

pub returns : goal.returns
returns t c =
    let n = inner-stmt c.requires.0 c.stmt_node-node.ensures (λ e. omega (arith, e, c.if-kind-lt18.false)) c.next-i2.ensures in
    let low_of : 18 < c.stmt_node-node.result.kind = omega (arith, c.if-kind-lt18.false, c.if-kind-eq18.false) in
    let high : c.stmt_node-node.result.kind < 21 = omega (arith, c.if-kind-ge22.false, c.if-kind-eq21.false) in
    two-written n c.requires.1 low_of high _ _ c.written-p.ensures c.written-q.ensures
