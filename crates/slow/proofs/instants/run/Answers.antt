-- `run` meets its contract: instant t has been evaluated, and the run has not ended before it. Assumes nothing.
use Prim.Native.Nat.{ℕ, ◌-◌}
use native.Mathlib.Omega.{arith}
use mathlib.Core.Bool.{true, false}
use mathlib.Core.Path.{◌≡◌, refl, sym, ap, subst, ◌∙◌}
use borrow.Author.Tests.{eq-eqb, ne_eqb}
use Rattle.model.specs.Circuit.{level}
use Rattle.model.specs.Gates.{end_at}
use Rattle.slow.specs.Ring.{values_of, KeptIn}
use Rattle.slow.proofs.Ends.{end-high, end_low, end-last, works-with, first-instant, next-instant}
use Rattle.slow.proofs.instants.run.Goals as goal

pub put_elements-requires : goal.put_elements-requires
put_elements-requires c =
    let w = c.requires.0 in
    (w.starts, w.room)

pub instant-requires : goal.instant-requires
instant-requires c =
    let args = c.args in
    let w = c.requires.0 in
    let put = c.put_elements in (
      works-with args.net.now.cells.now args.net.now.n args.net.now.words.now args.work.now _ w put.auto.work,
      first-instant args.net.now.cells.now args.net.now.n args.net.now.ors args.net.now.times.now args.net.now.words.now args.work.now _ w put.ensures,
    )

pub loop-t-init : goal.loop-t-init
loop-t-init c =
    let args = c.args in
    let e : args.budget - 0 ≡ args.budget = omega arith in
    (refl, c.instant.ensures, ap (end_at (level (values_of args.net.now.cells.now args.net.now.n args.net.now.ors args.net.now.times.now args.net.now.words.now) args.net.now.finish) 0) (sym e))

pub word_at-requires : goal.word_at-requires
word_at-requires c =
    let pre = c.requires in
    let loop = c.loop-t in
    (omega (arith, pre.1, pre.0.few), omega (arith, pre.1, pre.0.room, loop.invariant.0, c.instant.auto.work, c.put_elements.auto.work))

pub shape_of-work-then-word_at-eq1 : goal.shape_of-work-then-word_at-eq1
shape_of-work-then-word_at-eq1 c = c.loop-t.invariant.0 ∙ c.instant.auto.work ∙ c.put_elements.auto.work

pub returns-then-word_at-eq1 : goal.returns-then-word_at-eq1
returns-then-word_at-eq1 c =
    let args = c.args in
    let pre = c.requires in
    let loop = c.loop-t in
    let f = level (values_of args.net.now.cells.now args.net.now.n args.net.now.ors args.net.now.times.now args.net.now.words.now) args.net.now.finish in
    let up : f loop.t ≡ true = eq-eqb _ 1 (sym (loop.invariant.1.seen.cells-now args.net.now.finish pre.1) ∙ sym c.word_at.ensures ∙ c.if-word_at-eq1.true) in
    record { instant = sym (loop.invariant.2 ∙ end-high f loop.t _ up); kept = loop.invariant.1 }

pub instant-requires-in-loop-t : goal.instant-requires-in-loop-t
instant-requires-in-loop-t c =
    let args = c.args in
    let pre = c.requires in
    let loop = c.loop-t in (
      works-with args.net.now.cells.now args.net.now.n args.net.now.words.now args.work.now loop.work pre.0 (loop.invariant.0 ∙ c.instant.auto.work ∙ c.put_elements.auto.work),
      next-instant args.net.now.cells.now args.net.now.n args.net.now.ors args.net.now.times.now args.net.now.words.now args.work.now loop.work loop.t pre.0 loop.invariant.1,
    )

pub loop-t-preserved : goal.loop-t-preserved
loop-t-preserved c =
    let args = c.args in
    let pre = c.requires in
    let loop = c.loop-t in
    let r = c.instant-in-loop-t in
    let f = level (values_of args.net.now.cells.now args.net.now.n args.net.now.ors args.net.now.times.now args.net.now.words.now) args.net.now.finish in
    let down : f loop.t ≡ false = ne_eqb _ 1 (λ e. c.if-word_at-eq1.false (c.word_at.ensures ∙ loop.invariant.1.seen.cells-now args.net.now.finish pre.1 ∙ e)) in (
      r.auto.work ∙ loop.invariant.0,
      r.ensures,
      loop.invariant.2 ∙ end_low f loop.t args.budget (omega arith) down,
    )

pub shape_of-work : goal.shape_of-work
shape_of-work c = c.loop-t.invariant.0 ∙ c.instant.auto.work ∙ c.put_elements.auto.work

pub returns : goal.returns
returns c =
    let args = c.args in
    let loop = c.loop-t in
    let f = level (values_of args.net.now.cells.now args.net.now.n args.net.now.ors args.net.now.times.now args.net.now.words.now) args.net.now.finish in
    let e : loop.t ≡ args.budget = omega arith in
    record {
      instant = sym (loop.invariant.2 ∙ end-last f loop.t args.budget (omega arith) ∙ e);
      kept = subst (λ (t : ℕ). KeptIn args.net.now.cells.now args.net.now.n args.net.now.ors args.net.now.times.now args.net.now.words.now t args.net.now.n loop.work) e loop.invariant.1;
    }
