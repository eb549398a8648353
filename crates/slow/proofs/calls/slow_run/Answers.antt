-- A slow run of a program: its checks, and then the run. Assumes nothing.
use mathlib.Core.Path.{sym, ◌∙◌, ap}
use Rattle.model.specs.Gates.{ReturnedSlow}
use Rattle.slow.proofs.Calling.{refused-call, accepted-call}
use Rattle.slow.proofs.calls.slow_run.Goals as goal

pub returns-in-Err : goal.returns-in-Err
returns-in-Err c =
    let args = c.args in
    let e = refused-call args.options args.program.now args.words.now args.budget args.values.now args.work.now (sym c.check.ensures ∙ c.in-Err.is) in
    record { answer = c.refused.ensures ∙ sym (ap (λ (t : ReturnedSlow). t.answer) e); values = sym (ap (λ (t : ReturnedSlow). t.values) e); work = sym (ap (λ (t : ReturnedSlow). t.work) e) }

pub run_accepted-requires : goal.run_accepted-requires
run_accepted-requires c = sym c.check.ensures ∙ c.in_default.is

pub returns : goal.returns
returns c =
    let args = c.args in
    let run = c.run_accepted.ensures in
    let e = accepted-call args.options args.program.now args.words.now args.budget args.values.now args.work.now (sym c.check.ensures ∙ c.in_default.is) in
    record { answer = run.answer ∙ sym (ap (λ (t : ReturnedSlow). t.answer) e); values = run.values ∙ sym (ap (λ (t : ReturnedSlow). t.values) e); work = run.work ∙ sym (ap (λ (t : ReturnedSlow). t.work) e) }
