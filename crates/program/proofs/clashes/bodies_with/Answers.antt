-- Which bodies do it: the array has it of the first p.
use mathlib.Core.Path.{refl, sym, ◌∙◌}
use native.Mathlib.Omega.{arith}
use lib.ListN.{length-set}
use Rattle.laws.specs.Program.Passed.{count-bodies}
use Rattle.program.specs.Uses.{side-known}
use Rattle.program.specs.Roots.{root-side, body_is}
use Rattle.program.proofs.Bodies.{staged-none, staged-more, stage-all}
use Rattle.program.proofs.clashes.bodies_with.Goals as goal

pub loop-p-init : goal.loop-p-init
loop-p-init c = (omega arith, refl, staged-none _ _)

pub skip-at-requires : goal.skip-at-requires
skip-at-requires c = omega (arith, c.requires.laid.short)

pub uses-requires : goal.uses-requires
uses-requires c =
    let loop-test = c.loop-p-test in
    root-side c.requires _ _ (omega (arith, loop-test.true)) c.skip-at.ensures

pub bounds-bodies-p : goal.bounds-bodies-p
bounds-bodies-p c =
    let loop-test = c.loop-p-test in
    omega (arith, loop-test.true, c.requires.readable.few)

pub loop-p-preserved : goal.loop-p-preserved
loop-p-preserved c =
    let pre = c.requires in
    let loop = c.loop-p in
    let loop-test = c.loop-p-test in
    let at = c.skip-at.ensures in
    let few = pre.readable.few in (
      omega (arith, loop-test.true),
      simp length-set loop.invariant.1,
      staged-more _ _ _ loop.bodies loop.invariant.2 (omega (arith, loop.invariant.1, loop-test.true, few)) _ (body_is pre _ _ loop-test.true at)
          (side-known _ _ _ (root-side pre _ _ (omega (arith, loop-test.true)) at)) _ c.uses.ensures,
    )

pub returns : goal.returns
returns c = λ p.
    let pre = c.requires in
    let loop = c.loop-p in
    loop.invariant.2 p ∙ stage-all _ _ _ (omega (arith, loop.invariant.0, c.loop-p-test.false, count-bodies _ _ pre.readable 1)) p

pub slice_bounds-uses-end : goal.slice_bounds-uses-end
slice_bounds-uses-end c = sym c.loop-p.invariant.1
