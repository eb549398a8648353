-- The checks of a slow run, in the published order. Assumes nothing.
use mathlib.Core.Path.{sym, ◌∙◌}
use native.Mathlib.Omega.{arith}
use Rattle.laws.specs.Refusals.Laws.{handed_on}
use Rattle.slow.proofs.Calling.{few-cells, passed, at-program, at-asked, at-values, at-work, at_none}
use Rattle.slow.proofs.calls.check.Goals as goal

pub returns-in_err-check : goal.returns-in_err-check
returns-in_err-check c =
    let args = c.args in
    let e = sym c.check.ensures ∙ c.in_err-check.was in
    rw (handed_on _ c.from_residual.ensures.1) (at-program args.options args.program.now args.words.now args.budget args.values.now args.work.now c.single-one.result c.single-one.ensures e)

pub returns-in_err-check_asked : goal.returns-in_err-check_asked
returns-in_err-check_asked c =
    let args = c.args in
    let e = passed args.options args.program.now args.words.now args.budget args.values.now args.work.now c.single-one.result c.single-one.ensures (sym c.check.ensures ∙ c.in_ok-check.was) in
    rw (handed_on _ c.from_residual-in_err-check_asked.ensures.1) (at-asked args.options args.program.now args.words.now args.budget args.values.now args.work.now e (sym c.check_asked.ensures.checks ∙ c.in_err-check_asked.was))

pub count_cells-n-requires : goal.count_cells-n-requires
count_cells-n-requires c = sym c.check.ensures ∙ c.in_ok-check.was

pub overflow_mul-n : goal.overflow_mul-n
overflow_mul-n c = omega (arith, c.count_cells-n.ensures, few-cells c.single-one.result _ (sym c.check.ensures ∙ c.in_ok-check.was))

pub returns-then-values-n : goal.returns-then-values-n
returns-then-values-n c =
    let args = c.args in
    let e = passed args.options args.program.now args.words.now args.budget args.values.now args.work.now c.single-one.result c.single-one.ensures (sym c.check.ensures ∙ c.in_ok-check.was) in
    let a = sym c.check_asked.ensures.checks ∙ c.in_ok-check_asked.was in
    c.refuse.ensures
    ∙ at-values args.options args.program.now args.words.now args.budget args.values.now args.work.now e a (rw c.single-one.ensures at c.count_cells-n.ensures) c.if-values-n.true

pub size-requires : goal.size-requires
size-requires c = omega (arith, c.count_cells-n.ensures, few-cells c.single-one.result _ (sym c.check.ensures ∙ c.in_ok-check.was))

pub returns-then-work-size : goal.returns-then-work-size
returns-then-work-size c =
    let args = c.args in
    let e = passed args.options args.program.now args.words.now args.budget args.values.now args.work.now c.single-one.result c.single-one.ensures (sym c.check.ensures ∙ c.in_ok-check.was) in
    let a = sym c.check_asked.ensures.checks ∙ c.in_ok-check_asked.was in
    c.refuse-then-work-size.ensures
    ∙ at-work args.options args.program.now args.words.now args.budget args.values.now args.work.now e a (rw c.single-one.ensures at c.count_cells-n.ensures) c.if-values-n.false (omega (arith, c.size.ensures, c.if-work-size.true))

pub returns : goal.returns
returns c =
    let args = c.args in
    let e = passed args.options args.program.now args.words.now args.budget args.values.now args.work.now c.single-one.result c.single-one.ensures (sym c.check.ensures ∙ c.in_ok-check.was) in
    let a = sym c.check_asked.ensures.checks ∙ c.in_ok-check_asked.was in
    at_none args.options args.program.now args.words.now args.budget args.values.now args.work.now e a (rw c.single-one.ensures at c.count_cells-n.ensures) c.if-values-n.false (omega (arith, c.size.ensures, c.if-work-size.false))
