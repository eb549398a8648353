-- `give` meets its contract, check by check. Assumes nothing.
use Rattle.model.specs.Refusals.{Done}
use Rattle.std.proofs.Common.{◌≡◌, length, sym, ap, ◌∙◌, arith, Result}
use Rattle.model.specs.declared.Refusal.{Refusal}
use Rattle.model.specs.declared.Written.{Written}
use Rattle.model.specs.Calls.{Returned, writing}
use Rattle.word.proofs.Puts.{overwrite-sets}
use Rattle.laws.specs.Refusals.Laws.{handed_on}
use Rattle.text.proofs.Giving.{give-refused, give-short, give-done}
use Rattle.text.proofs.give.Goals as goal

-- an answer and a list, from what a call is
abbrev answer-is : {a b : Returned (Result Written Refusal)} → a ≡ b → b.answer ≡ a.answer
answer-is e = sym (ap (λ (t : Returned (Result Written Refusal)). t.answer) e)

abbrev lent_is : {a b : Returned (Result Written Refusal)} → a ≡ b → b.lent ≡ a.lent
lent_is e = sym (ap (λ (t : Returned (Result Written Refusal)). t.lent) e)

pub returns-in_err-check : goal.returns-in_err-check
unfolding writing
returns-in_err-check c =
    let args = c.args in
    let e = give-refused args.options args.program.now args.lent.now _ (sym c.check.ensures ∙ c.in_err-check.was) in
    record { answer = handed_on _ c.from_residual.ensures.1 ∙ answer-is e; lent = lent_is e }

pub returns-then-lent-program : goal.returns-then-lent-program
unfolding writing
returns-then-lent-program c =
    let args = c.args in
    let accepted = sym c.check.ensures ∙ c.in_ok-check.was in
    let e = give-short args.options args.program.now args.lent.now accepted c.if-lent-program.true in
    record { answer = c.refuse.ensures ∙ answer-is e; lent = lent_is e }

pub returns : goal.returns
unfolding writing
returns c =
    let args = c.args in
    let program = args.program.now in
    let accepted = sym c.check.ensures ∙ c.in_ok-check.was in
    let room = c.if-lent-program.false in
    let put = c.put_bytes-count.ensures in
    let e = give-done args.options program args.lent.now accepted room in
    let n : c.put_bytes-count.result ≡ length program = omega (arith, put.next) in
    record { answer = ap (λ k. Done k 0) n ∙ answer-is e; lent = put.out ∙ sym (overwrite-sets program args.lent.now room) ∙ lent_is e }
