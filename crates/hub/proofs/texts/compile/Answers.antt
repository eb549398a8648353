-- The compiling of a text: its table, and its program compiled. Assumes nothing.
use Rattle.std.specs.Prelude.{Result}
use mathlib.Core.Path.{sym, ◌∙◌, ap}
use native.Mathlib.Omega.{arith}
use lib.ListN.{length-take}
use Rattle.model.specs.declared.Refusal.{Refusal}
use Rattle.model.specs.declared.Written.{Written}
use Rattle.model.specs.Calls.{Returned, compile_call}
use Rattle.laws.specs.Refusals.Laws.{handed_on}
use Rattle.text.proofs.Giving.{told-refused, told-accepted, told-fits, told-program}
use Rattle.hub.proofs.OnTexts.{compile-unloaded, compile-refused, compile-given}
use Rattle.hub.proofs.texts.compile.Goals as goal

pub returns-in_err-check_given : goal.returns-in_err-check_given
returns-in_err-check_given c =
    let args = c.args in
    let r = compile-unloaded args.options args.source.now args.file.now _ (sym c.check_given.ensures ∙ c.in_err-check_given.was) in
    record { answer = handed_on _ c.from_residual.ensures.1 ∙ sym (ap (λ (t : Returned (Result Written Refusal)). t.answer) r); lent = sym (ap (λ (t : Returned (Result Written Refusal)). t.lent) r) }

pub slice_bounds-program-end : goal.slice_bounds-program-end
slice_bounds-program-end c =
    omega (arith, told-fits c.args.source.now _ _ (sym c.program_of.ensures.answer ∙ c.in_ok-told.was), c.program_of.auto.program)

pub slice_bounds-compile-end : goal.slice_bounds-compile-end
slice_bounds-compile-end c =
    simp length-take (omega (arith, told-fits c.args.source.now _ _ (sym c.program_of.ensures.answer ∙ c.in_ok-told.was), c.program_of.auto.program))

pub returns-in_err-told : goal.returns-in_err-told
returns-in_err-told c =
    let args = c.args in
    let e = sym c.program_of.ensures.answer ∙ c.in_err-told.was in
    let r = compile-refused args.options args.source.now args.file.now (sym c.check_given.ensures ∙ c.in_ok-check_given.was) _ (told-refused args.source.now _ e) in
    record { answer = handed_on _ c.from_residual-in_err-told.ensures.1 ∙ sym (ap (λ (t : Returned (Result Written Refusal)). t.answer) r); lent = sym (ap (λ (t : Returned (Result Written Refusal)). t.lent) r) }

pub returns : goal.returns
returns c =
    let args = c.args in
    let text = args.source.now in
    let e = sym c.program_of.ensures.answer ∙ c.in_ok-told.was in
    let compiled = c.compile.ensures in
    let p = told-program text _ _ e _ c.program_of.ensures.program in
    let g = ap (λ l. compile_call args.options l args.file.now) p ∙ sym (compile-given args.options text args.file.now (told-accepted text _ _ e)) in
    record { answer = compiled.answer ∙ ap (λ (t : Returned (Result Written Refusal)). t.answer) g; lent = compiled.lent ∙ ap (λ (t : Returned (Result Written Refusal)). t.lent) g }
