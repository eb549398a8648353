-- `read_accepted` meets its contract: the program of the text, given to the lent list. Assumes nothing.
use Rattle.std.proofs.Common.{sym, ap, ◌∙◌, arith, length-take, Result}
use Rattle.model.specs.declared.Refusal.{Refusal}
use Rattle.model.specs.declared.Written.{Written}
use Rattle.model.specs.Calls.{Returned, writing}
use Rattle.text.specs.Parsing.{give_call}
use Rattle.laws.specs.Refusals.Laws.{handed_on}
use Rattle.text.proofs.Giving.{told-refused, told-accepted, told-fits, told-program, read-refused, read-given}
use Rattle.text.proofs.read_accepted.Goals as goal

pub slice_bounds-program-end : goal.slice_bounds-program-end
slice_bounds-program-end c =
    omega (arith, told-fits c.args.text.now _ _ (sym c.program_of.ensures.answer ∙ c.in_ok-told.was), c.program_of.auto.program)

pub slice_bounds-give-end : goal.slice_bounds-give-end
slice_bounds-give-end c =
    simp length-take (omega (arith, told-fits c.args.text.now _ _ (sym c.program_of.ensures.answer ∙ c.in_ok-told.was), c.program_of.auto.program))

pub returns-in_err-told : goal.returns-in_err-told
unfolding writing
returns-in_err-told c =
    let args = c.args in
    let e = sym c.program_of.ensures.answer ∙ c.in_err-told.was in
    let r = read-refused args.options args.text.now args.lent.now c.requires _ (told-refused args.text.now _ e) in
    record { answer = handed_on _ c.from_residual.ensures.1 ∙ sym (ap (λ (t : Returned (Result Written Refusal)). t.answer) r); lent = sym (ap (λ (t : Returned (Result Written Refusal)). t.lent) r) }

pub returns : goal.returns
returns c =
    let args = c.args in
    let text = args.text.now in
    let e = sym c.program_of.ensures.answer ∙ c.in_ok-told.was in
    let give = c.give.ensures in
    let r = read-given args.options text args.lent.now c.requires (told-accepted text _ _ e) in
    let p = told-program text _ _ e _ c.program_of.ensures.program in
    let g = ap (λ l. give_call args.options l args.lent.now) p ∙ sym r in
    record { answer = give.answer ∙ ap (λ (t : Returned (Result Written Refusal)). t.answer) g; lent = give.lent ∙ ap (λ (t : Returned (Result Written Refusal)). t.lent) g }
