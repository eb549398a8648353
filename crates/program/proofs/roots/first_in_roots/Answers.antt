-- Refusal 22 or 24: the answer from root 0 is the answer from root r.
use mathlib.Core.Path.{sym, ◌∙◌}
use native.Mathlib.Omega.{arith}
use Rattle.laws.specs.Refusals.Laws.{handed_on}
use Rattle.program.specs.Roots.{root-side}
use Rattle.program.proofs.InRoots.{root-start, root-end, root-here, root-next}
use Rattle.program.proofs.roots.first_in_roots.Goals as goal

pub loop-r-init : goal.loop-r-init
loop-r-init c = root-start _ _ _ _

pub skip-requires : goal.skip-requires
skip-requires c = omega (arith, c.requires.laid.short)

pub root_fault-requires : goal.root_fault-requires
root_fault-requires c =
    let pre = c.requires in
    root-side pre _ _ (omega (arith, c.loop-r-test.true)) c.skip.ensures

pub returns-in_err-root_fault : goal.returns-in_err-root_fault
returns-in_err-root_fault c =
    let pre = c.requires in
    let loop = c.loop-r in
    handed_on _ c.from_residual.ensures.1
    ∙ sym (loop.invariant ∙ root-here _ pre _ _ (omega (arith, c.loop-r-test.true)) c.skip.ensures c.root_fault.ensures c.in_err-root_fault.was)

pub loop-r-preserved : goal.loop-r-preserved
loop-r-preserved c =
    let pre = c.requires in
    let loop = c.loop-r in
    let loop-test = c.loop-r-test in
    let skip = c.skip in
    let root-fault = c.root_fault in
    loop.invariant ∙ root-next _ pre _ _ (omega (arith, loop-test.true)) skip.ensures root-fault.ensures c.in_ok-root_fault.was

pub returns : goal.returns
returns c =
    let pre = c.requires in
    root-end _ pre _ (omega (arith, c.loop-r-test.false)) ∙ sym c.loop-r.invariant
