-- Refusal 8 or 25: the answer from node 0 is the answer from node i; at a parallel node, the sides cross on no number below x.
use mathlib.Core.Path.{◌≡◌, sym, ◌∙◌, ap, ap₂}
use mathlib.Core.Bool.{true, false, ◌||◌}
use Prim.Native.Nat.{ℕ}
use native.Mathlib.Omega.{arith}
use Rattle.model.specs.Word.{pick}
use Rattle.model.specs.Refusals.{refuse}
use Rattle.laws.specs.Refusals.Search.{searched-none, fault-here, fault-next, faults-end}
use Rattle.laws.specs.Program.Passed.{count-bodies}
use Rattle.program.specs.Ends.{past-trees}
use Rattle.program.specs.Uses.{sides}
use Rattle.program.proofs.Crossing.{few-x, some_number, none-start, none-next, crosses-none, crosses_some, clash-par, clash-other, clash-fault}
use Rattle.program.proofs.clashes.first_clash.Goals as goal
use Rattle.program.proofs.clashes.first_clash.Goals.{else-nodes-test, then-nodes-test+then-node-eq20+then-loop-x-test+then-crosses}

pub nodes-init : goal.nodes-init
nodes-init c = searched-none _ _

pub next-second-requires : goal.next-second-requires
next-second-requires c =
    let pre = c.requires in
    omega (arith, pre.readable.short)

pub loop-x-init : goal.loop-x-init
loop-x-init c = none-start _ _ _ _

pub overflow_cast-n : goal.overflow_cast-n
overflow_cast-n c =
    let start = c in
    let few = few-x start.args.shared start.requires.readable.few c.most_of-most.ensures in
    omega (arith, few, c.loop-x-test.true)

pub crosses-requires : goal.crosses-requires
crosses-requires c =
    let pre = c.requires in
    let two = sides _ _ _ pre.readable pre.laid _ c.nodes-test.true _ c.read_node-node.ensures c.if-node-eq20.true _ c.next-second.ensures in
    (pre, two.0, two.1)

pub crosses-requires-in-loop-x : goal.crosses-requires-in-loop-x
crosses-requires-in-loop-x c =
    let pre = c.requires in
    let two = sides _ _ _ pre.readable pre.laid _ c.nodes-test.true _ c.read_node-node.ensures c.if-node-eq20.true _ c.next-second.ensures in
    search (pre, two.0, two.1)

pub loop-x-preserved : goal.loop-x-preserved
loop-x-preserved c =
    none-next _ _ _ _ _ c.loop-x.invariant (sym (ap₂ ◌||◌ c.crosses.ensures c.crosses-in-loop-x.ensures) ∙ c.if-crosses.false)

pub nodes-preserved-then-node-eq20 : goal.nodes-preserved-then-node-eq20
nodes-preserved-then-node-eq20 c =
    let start = c in
    let pre = start.requires in
    let nodes = c.nodes in
    let nodes-test = c.nodes-test in
    let loop = c.loop-x in
    let most-of = c.most_of-most in
    let next = c.next-second in
    let e : loop.x ≡ most-of.result = omega (arith, c.loop-x-test.false) in
    let all = e ∙ most-of.ensures ∙ ap (λ (n : ℕ). pick start.args.shared n 20) (sym (count-bodies _ _ pre.readable 1)) in
    fault-next nodes.invariant nodes-test.true
    (clash-fault _ _ _ _ false
    (crosses-none _ _ _ _ _ all loop.invariant
    ∙ clash-par _ _ _ _ nodes-test.true _ c.read_node-node.ensures c.if-node-eq20.true _ (past-trees _ _ _ (pre.laid.each _) _ next.ensures)))

pub nodes-preserved : goal.nodes-preserved
nodes-preserved c =
    let nodes = c.nodes in
    let nodes-test = c.nodes-test in
    fault-next nodes.invariant nodes-test.true (clash-fault _ _ _ _ false (clash-other _ _ _ _ nodes-test.true _ c.read_node-node.ensures c.if-node-eq20.false))

pub returns-then-i-count : goal.returns-then-i-count
returns-then-i-count c =
    let start = c in
    let pre = start.requires in
    let nodes = c.nodes in
    let most-of = c.most_of-most in
    let clash-number = c.clash_number in
    let all = most-of.ensures ∙ ap (λ (n : ℕ). pick start.args.shared n 20) (sym (count-bodies _ _ pre.readable 1)) in
    elim c.nodes-test.branch [
      | else-nodes-test w ↦ absurd (omega (arith, w.nodes-test.false, c.if-i-count.true))
      | then-nodes-test+then-node-eq20+then-loop-x-test+then-crosses w ↦
          c.refuse.ensures
          ∙ ap (λ (n : ℕ). refuse n nodes.i) clash-number.ensures
          ∙ fault-here nodes.invariant (pick start.args.shared 25 8) w.nodes-test.true (some_number start.args.shared)
          (clash-fault _ _ _ _ true
          (crosses_some _ _ _ _ _ all _ w.loop-x-test.true (sym (ap₂ ◌||◌ w.crosses.ensures w.crosses-in-loop-x.ensures) ∙ w.if-crosses.true)
          ∙ clash-par _ _ _ _ w.nodes-test.true _ w.read_node-node.ensures w.if-node-eq20.true _ (past-trees _ _ _ (pre.laid.each _) _ w.next-second.ensures)))
    ]

pub returns : goal.returns
returns c =
    faults-end c.nodes.invariant c.if-i-count.false
