-- `put_values` meets its contract: those from cell k on are to come. Assumes nothing.
use Prim.Native.Nat.{◌-◌}
use native.Mathlib.Omega.{arith}
use mathlib.Core.Path.{◌≡◌, refl, sym, ◌∙◌}
use Rattle.slow.specs.Ring.{word_in}
use Rattle.slow.proofs.Collecting.{value-more, value-done}
use Rattle.slow.proofs.answers.put_values.Goals as goal

pub loop-k-init : goal.loop-k-init
loop-k-init c =
    let n = c.args.n in
    let e : n - 0 ≡ n = omega arith in
    (refl, rw e refl)

pub word_at-v-requires : goal.word_at-v-requires
word_at-v-requires c =
    let pre = c.requires in
    (omega (arith, pre.0), omega (arith, pre.2))

pub put16-requires : goal.put16-requires
put16-requires c =
    omega (arith, c.requires.1, c.loop-k.invariant.0)

pub loop-k-preserved : goal.loop-k-preserved
loop-k-preserved c =
    let args = c.args in
    let loop = c.loop-k in
    let e = c.word_at-v.ensures in (
      c.put16.auto.s ∙ loop.invariant.0,
      rw (c.put16.ensures, e) (sym (value-more (λ j. word_in args.work.now j args.t) loop.values args.n loop.k (omega arith)) ∙ loop.invariant.1),
    )

pub shape_of-values : goal.shape_of-values
shape_of-values c = c.loop-k.invariant.0

pub returns : goal.returns
returns c =
    let args = c.args in
    let loop = c.loop-k in
    sym (value-done (λ j. word_in args.work.now j args.t) loop.values args.n loop.k (omega arith)) ∙ loop.invariant.1
