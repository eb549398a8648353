-- The refusal of what is given beside it, and then those of the text. Assumes nothing.
use Rattle.std.proofs.Common.{sym, ap, ◌∙◌, Result}
use Rattle.model.specs.declared.Refusal.{Refusal}
use Rattle.model.specs.declared.Written.{Written}
use Rattle.model.specs.Calls.{Returned, writing}
use Rattle.laws.specs.Refusals.Laws.{handed_on}
use Rattle.text.proofs.Giving.{read-no-table}
use Rattle.text.proofs.read_text.Goals as goal

pub returns-in_err-check_given : goal.returns-in_err-check_given
unfolding writing
returns-in_err-check_given c =
    let args = c.args in
    let e = read-no-table args.options args.text.now args.lent.now _ (sym c.check_given.ensures ∙ c.in_err-check_given.was) in
    record { answer = handed_on _ c.from_residual.ensures.1 ∙ sym (ap (λ (t : Returned (Result Written Refusal)). t.answer) e); lent = sym (ap (λ (t : Returned (Result Written Refusal)). t.lent) e) }

pub read_accepted-requires : goal.read_accepted-requires
read_accepted-requires c = sym c.check_given.ensures ∙ c.in_ok-check_given.was
