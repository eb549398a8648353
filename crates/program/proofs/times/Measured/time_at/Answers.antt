-- The time of a node's expression, by its kind; a time and an operator's fit sixteen bits.
use mathlib.Core.Path.{◌∙◌, ap}
use Prim.Native.Nat.{ℕ, ◌+◌, ◌≤◌}
use native.Mathlib.Omega.{arith}
use Rattle.model.specs.Program.{time_in}
use Rattle.program.specs.Ends.{past-trees, past-later}
use Rattle.program.specs.Times.{time-stmt, time-const, time-var, time-compl, time-elem, time-op, time-fits}
use Rattle.program.proofs.times.Measured.time_at.Goals as goal

pub returns-then-kind-ge16 : goal.returns-then-kind-ge16
returns-then-kind-ge16 c =
    let start = c in
    time-stmt (time_in start.args.self.now.operators.now) _ _ start.requires.0 _ c.read_node-node.ensures _ c.operator_time.ensures.time c.if-kind-ge16.true

pub returns-then-kind-eq1 : goal.returns-then-kind-eq1
returns-then-kind-eq1 c =
    let start = c in
    time-const (time_in start.args.self.now.operators.now) _ _ start.requires.0 _ c.read_node-node.ensures _ c.operator_time-operator.ensures.time c.if-kind-eq1.true

pub returns-then-kind-eq2 : goal.returns-then-kind-eq2
returns-then-kind-eq2 c =
    let start = c in
    time-var (time_in start.args.self.now.operators.now) _ _ start.requires.0 _ c.read_node-node.ensures _ c.operator_time-operator.ensures.time c.if-kind-eq2.true

pub known_time-first-requires : goal.known_time-first-requires
known_time-first-requires c =
    let pre = c.requires in
    λ l. (pre.1 _ (omega arith) l).timed

pub overflow_add-result : goal.overflow_add-result
overflow_add-result c =
    let start = c in
    let τ = time_in start.args.self.now.operators.now in
    let low : (k : ℕ) → τ k ≤ 255 = c.operator_time-operator.ensures.low in
    omega (arith, time-fits τ low _ start.args.self.now.short _ (omega arith) _ _ _ c.operator_time-operator.ensures.time c.known_time-first.ensures)

pub returns-then-kind-eq3 : goal.returns-then-kind-eq3
returns-then-kind-eq3 c =
    let start = c in
    time-compl (time_in start.args.self.now.operators.now) _ _ start.requires.0 _ c.read_node-node.ensures _ c.operator_time-operator.ensures.time _ c.known_time-first.ensures c.if-kind-eq3.true

pub overflow_add-result-then-kind-eq10 : goal.overflow_add-result-then-kind-eq10
overflow_add-result-then-kind-eq10 c =
    let start = c in
    let τ = time_in start.args.self.now.operators.now in
    let low : (k : ℕ) → τ k ≤ 255 = c.operator_time-operator.ensures.low in
    omega (arith, time-fits τ low _ start.args.self.now.short _ (omega arith) _ _ _ c.operator_time-operator.ensures.time c.known_time-first.ensures)

pub returns-then-kind-eq10 : goal.returns-then-kind-eq10
returns-then-kind-eq10 c =
    let start = c in
    time-elem (time_in start.args.self.now.operators.now) _ _ start.requires.0 _ c.read_node-node.ensures _ c.operator_time-operator.ensures.time _ c.known_time-first.ensures c.if-kind-eq10.true

pub known_time-second-requires : goal.known_time-second-requires
known_time-second-requires c =
    let start = c in
    let e = past-later start.args.self.now.tree.program.now start.args.self.now.tree.ends.now (start.args.i + 1) (λ l. (start.requires.1 _ (omega arith) l).end) _ c.next.ensures in
    λ l. (start.requires.1 _ (omega (arith, e)) l).timed

pub overflow_add-result-2 : goal.overflow_add-result-2
overflow_add-result-2 c =
    let start = c in
    let τ = time_in start.args.self.now.operators.now in
    let low : (k : ℕ) → τ k ≤ 255 = c.operator_time-operator.ensures.low in
    let o = c.operator_time-operator.ensures.time in
    let e = past-later start.args.self.now.tree.program.now start.args.self.now.tree.ends.now (start.args.i + 1) (λ l. (start.requires.1 _ (omega arith) l).end) _ c.next.ensures in
    let l : 1 ≤ c.next.result = omega (arith, e) in
    let x = time-fits τ low _ start.args.self.now.short _ (omega arith) _ _ _ o c.known_time-first.ensures in
    let y = time-fits τ low _ start.args.self.now.short _ l _ _ _ o c.known_time-second.ensures in
    omega (arith, x, y, c.max.ensures)

pub returns : goal.returns
returns c =
    let at-operator = c in
    let start = c in
    ap (λ (m : ℕ). at-operator.operator_time-operator.result + m) c.max.ensures
    ∙ time-op (time_in start.args.self.now.operators.now) _ _ start.requires.0 _ c.read_node-node.ensures _ at-operator.operator_time-operator.ensures.time _ c.known_time-first.ensures
    c.if-kind-ge16.false c.if-kind-eq1.false c.if-kind-eq2.false c.if-kind-eq3.false c.if-kind-eq10.false _
    (past-trees _ _ _ (λ l. (start.requires.1 _ (omega arith) l).end) _ c.next.ensures) _ c.known_time-second.ensures
