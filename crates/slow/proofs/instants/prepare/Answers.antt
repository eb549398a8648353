-- `prepare` meets its contract. Assumes nothing.
use native.Mathlib.Omega.{arith}
use mathlib.Core.Path.{◌≡◌, sym, ◌∙◌}
use Rattle.laws.specs.Refusals.Laws.{not-both}
use Rattle.slow.specs.Ring.{held_ring, Beside, Owned}
use Rattle.slow.proofs.Cells.{merge-one, merge-array, merge-read}
use Rattle.slow.proofs.Rings.{put-leaves, put_same, leaves-more, leaves_none}
use Rattle.slow.proofs.instants.prepare.Goals as goal

pub take_in-requires : goal.take_in-requires
take_in-requires c =
    let pre = c.requires in
    let is = c.if-kind-eq42.true in
    let q = pre.2 is in
    (q.0, q.1, pre.1.a (λ e. omega (arith, is, e)), pre.1.b, q.2, pre.3)

pub returns-then-kind-eq42 : goal.returns-then-kind-eq42
returns-then-kind-eq42 c =
    let args = c.args in
    let is = c.if-kind-eq42.true in
    let r = c.take_in.ensures in
    record {
      leaves = leaves-more args.net.now.n args.t (λ j. ⊥) _ (Beside args.net.now.n args.k) (Owned args.c) _ _ (λ j x. absurd x) (λ e x. (is, x.0, x.1)) r.leaves;
      elements = λ q i l. r.elements i l;
      held = λ m. absurd (merge-array _ m is);
      read = λ q. absurd (omega (arith, is, q));
    }

pub read_in-requires : goal.read_in-requires
read_in-requires c =
    let pre = c.requires in
    let is = c.if-kind-eq44.true in
    (pre.0, pre.1.a (λ e. omega (arith, is, e)), pre.1.b, pre.1.array is, pre.3)

pub returns-then-kind-eq44 : goal.returns-then-kind-eq44
returns-then-kind-eq44 c =
    let args = c.args in
    let pre = c.requires in
    let is = c.if-kind-eq44.true in
    let j = held_ring args.net.now.n args.k in
    rw c.read_in.ensures
    (record {
      leaves =
          leaves-more args.net.now.n args.t (λ i. i ≡ j) (λ e. ⊥) (Beside args.net.now.n args.k) (Owned args.c) _ _ (λ i x. x) (λ e x. absurd x)
          (put-leaves args.net.now.n args.work.now j args.t _ (λ e. omega arith));
      elements = λ q. absurd (c.if-kind-eq42.false q);
      held = λ m. absurd (merge-read _ m is);
      read = λ q. put_same args.work.now j args.t _ (omega (arith, pre.0, pre.3));
    })

pub hold-requires : goal.hold-requires
hold-requires c =
    let pre = c.requires in
    let m = sym c.is_merge.ensures ∙ c.if-is_merge.true in
    (pre.0, pre.1.a (merge-one _ m), pre.1.b, pre.3)

pub returns-then-is_merge : goal.returns-then-is_merge
returns-then-is_merge c =
    let args = c.args in
    let pre = c.requires in
    let j = held_ring args.net.now.n args.k in
    rw c.hold.ensures
    (record {
      leaves =
          leaves-more args.net.now.n args.t (λ i. i ≡ j) (λ e. ⊥) (Beside args.net.now.n args.k) (Owned args.c) _ _ (λ i x. x) (λ e x. absurd x)
          (put-leaves args.net.now.n args.work.now j args.t _ (λ e. omega arith));
      elements = λ q. absurd (c.if-kind-eq42.false q);
      held = λ m. put_same args.work.now j args.t _ (omega (arith, pre.0, pre.3));
      read = λ q. absurd (c.if-kind-eq44.false q);
    })

pub returns-else-is_merge : goal.returns-else-is_merge
returns-else-is_merge c =
    let args = c.args in
    record {
      leaves = leaves_none args.net.now.n args.t (Beside args.net.now.n args.k) (Owned args.c) args.work.now;
      elements = λ q. absurd (c.if-kind-eq42.false q);
      held = λ m. not-both m (sym c.is_merge.ensures ∙ c.if-is_merge.false);
      read = λ q. absurd (c.if-kind-eq44.false q);
    }
