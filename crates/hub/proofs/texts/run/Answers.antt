-- The full run of a text: its table, and its program run. Assumes nothing.
use mathlib.Core.Path.{sym, ◌∙◌, ap}
use native.Mathlib.Omega.{arith}
use lib.ListN.{length-take}
use Rattle.model.specs.Calls.{ReturnedBoth, run_program_call}
use Rattle.text.proofs.Giving.{told-refused, told-accepted, told-fits, told-program}
use Rattle.hub.proofs.OnTexts.{run-unloaded, run-refused, run-given}
use Rattle.hub.proofs.texts.run.Goals as goal

pub returns-in-Err : goal.returns-in-Err
returns-in-Err c =
    let args = c.args in
    let r = run-unloaded args.options args.source.now args.words.now args.budget args.netlist.now args.state.now _ (sym c.check_given.ensures ∙ c.in-Err.is) in
    record { answer = c.refused.ensures ∙ sym (ap (λ (t : ReturnedBoth). t.answer) r); netlist = sym (ap (λ (t : ReturnedBoth). t.netlist) r); state = sym (ap (λ (t : ReturnedBoth). t.state) r) }

pub slice_bounds-program-end : goal.slice_bounds-program-end
slice_bounds-program-end c =
    omega (arith, told-fits c.args.source.now _ _ (sym c.program_of.ensures.answer ∙ c.in-Ok.is), c.program_of.auto.program)

pub slice_bounds-run-end : goal.slice_bounds-run-end
slice_bounds-run-end c =
    simp length-take (omega (arith, told-fits c.args.source.now _ _ (sym c.program_of.ensures.answer ∙ c.in-Ok.is), c.program_of.auto.program))

pub returns-in-Err-program_of : goal.returns-in-Err-program_of
returns-in-Err-program_of c =
    let args = c.args in
    let e = sym c.program_of.ensures.answer ∙ c.in-Err-program_of.is in
    let r = run-refused args.options args.source.now args.words.now args.budget args.netlist.now args.state.now (sym c.check_given.ensures ∙ c.in_default.is) _ (told-refused args.source.now _ e) in
    record { answer = c.refused-in-Err-program_of.ensures ∙ sym (ap (λ (t : ReturnedBoth). t.answer) r); netlist = sym (ap (λ (t : ReturnedBoth). t.netlist) r); state = sym (ap (λ (t : ReturnedBoth). t.state) r) }

pub returns-in-Ok : goal.returns-in-Ok
returns-in-Ok c =
    let args = c.args in
    let text = args.source.now in
    let e = sym c.program_of.ensures.answer ∙ c.in-Ok.is in
    let run = c.run.ensures in
    let p = told-program text _ _ e _ c.program_of.ensures.program in
    let call = run_program_call args.options in
    let g = ap (λ l. call l args.words.now args.budget args.netlist.now args.state.now) p ∙ sym (run-given args.options text args.words.now args.budget args.netlist.now args.state.now (told-accepted text _ _ e)) in
    record { answer = run.answer ∙ ap (λ (t : ReturnedBoth). t.answer) g; netlist = run.netlist ∙ ap (λ (t : ReturnedBoth). t.netlist) g; state = run.state ∙ ap (λ (t : ReturnedBoth). t.state) g }
