-- Refusal 22 by the node's kind; the nodes after it fall.
use mathlib.Core.Path.{refl, sym, ◌∙◌}
use mathlib.Core.Bool.{true, false, ◌&&◌, not}
use Prim.Native.Nat.{ℕ}
use native.Mathlib.Omega.{arith}
use lib.Dec.{eqb}
use Rattle.laws.specs.Refusals.Laws.{handed_on}
use Rattle.program.specs.Ends.{past-later}
use Rattle.program.specs.Uses.{side-below}
use Rattle.program.proofs.Loose.{Two, other-kinds, at_most, loose-exit, loose_none, loop-side, loose-loop, turns-side, loose-turns, if-two, pair-two, stops, passes}
use Rattle.program.proofs.roots.+first_loose.Goals as goal
use Rattle.program.proofs.roots.+first_loose.Goals.{Joined-kind-eq21, then-kind-eq21, else-kind-eq21}

pub read_node-node-requires : goal.read_node-node-requires
read_node-node-requires t c =
    let b = side-below _ _ _ c.requires in
    omega arith

pub returns-then-inside : goal.returns-then-inside
returns-then-inside t c = loose-exit c.requires c.read_node-node.ensures c.if-kind-eq26.true _ true c.if-inside.true

pub returns-else-inside : goal.returns-else-inside
returns-else-inside t c = c.refuse.ensures ∙ loose-exit c.requires c.read_node-node.ensures c.if-kind-eq26.true _ false c.if-inside.false

pub overflow_add-i : goal.overflow_add-i
overflow_add-i t c =
    let b = side-below _ _ _ c.requires in
    omega arith

pub first_loose-requires : goal.first_loose-requires
first_loose-requires t c =
    let pre = c.requires in
    let b = side-below _ _ _ pre in
    (omega arith, loop-side pre c.read_node-node.ensures c.if-kind-eq25.true)

pub returns-then-kind-eq25 : goal.returns-then-kind-eq25
returns-then-kind-eq25 t c = c.first_loose.ensures ∙ sym (loose-loop c.requires c.read_node-node.ensures c.if-kind-eq25.true _)

pub returns-then-kind : goal.returns-then-kind
returns-then-kind t c = loose_none c.requires c.read_node-node.ensures _ c.if-kind.true

pub overflow_add-i-2 : goal.overflow_add-i-2
overflow_add-i-2 t c =
    let b = side-below _ _ _ c.requires in
    omega arith

pub next-second-requires : goal.next-second-requires
next-second-requires t c =
    let pre = c.requires in
    omega (arith, pre.readable.short)

pub first_loose-requires-then-kind-gt21 : goal.first_loose-requires-then-kind-gt21
first_loose-requires-then-kind-gt21 t c =
    let S = c.requires in
    let b = side-below _ _ _ S in
    let l = past-later _ _ _ (S.laid.each _) _ c.next-second.ensures in
    (omega arith, turns-side S c.read_node-node.ensures _ c.next-second.ensures c.if-kind-gt21.true (other-kinds c.if-kind.false).1 c.if-kind-eq25.false c.if-kind-eq26.false (other-kinds c.if-kind.false).2)

pub returns-then-kind-gt21 : goal.returns-then-kind-gt21
returns-then-kind-gt21 t c =
    c.first_loose-then-kind-gt21.ensures
    ∙ sym (loose-turns c.requires c.read_node-node.ensures _ c.next-second.ensures c.if-kind-gt21.true (other-kinds c.if-kind.false).1 c.if-kind-eq25.false c.if-kind-eq26.false
    (other-kinds c.if-kind.false).2 _)

pub overflow_add-p : goal.overflow_add-p
overflow_add-p t c =
    let b = side-below _ _ _ c.requires in
    omega arith

two : (t : ℕ) (c : Joined-kind-eq21 t)
    → Two c.args.tree.now.program.now c.args.tree.now.ends.now c.args.i c.args.inside c.if-kind-eq21.p (c.args.inside && not (eqb c.read_node-node.result.kind 20))
two t c =
    let S = c.requires in
    let e = c.read_node-node.ensures in
    elim c.if-kind-eq21.branch [
      | then-kind-eq21 w ↦ if-two S e _ c.next-second.ensures _ _ refl w.if-kind-eq21.true _ w.p-is
      | else-kind-eq21 w ↦
          pair-two S e _ c.next-second.ensures _ _ refl (other-kinds c.if-kind.false).0 (at_most c.if-kind-gt21.false w.if-kind-eq21.false) _ w.p-is
    ]

pub first_loose-requires-2 : goal.first_loose-requires-2
first_loose-requires-2 t c =
    let h = two t (goal.at.first_loose-requires-2 t c).Joined-kind-eq21 in
    let b = side-below _ _ _ h.one in
    (omega (arith, h.after), h.one)

pub next-requires : goal.next-requires
next-requires t c =
    let pre = c.requires in
    omega (arith, pre.readable.short)

pub first_loose-requires-3 : goal.first_loose-requires-3
first_loose-requires-3 t c =
    let h = two t (goal.at.first_loose-requires-3 t c).Joined-kind-eq21 in
    let e = c.next.ensures in
    let b = side-below _ _ _ h.one in
    let l = past-later _ _ _ (h.one.laid.each _) _ e in
    (omega (arith, h.after), h.other _ e)

pub returns-in_err-first_loose : goal.returns-in_err-first_loose
returns-in_err-first_loose t c =
    handed_on _ c.from_residual.ensures.1
    ∙ sym (stops (two t (goal.at.returns-in_err-first_loose t c).Joined-kind-eq21) c.first_loose-2.ensures _ refl c.in_err-first_loose.was)

pub returns : goal.returns
returns t c =
    c.first_loose-3.ensures
    ∙ sym (passes (two t (goal.at.returns t c).Joined-kind-eq21) c.first_loose-2.ensures _ c.next.ensures c.in_ok-first_loose.was)
