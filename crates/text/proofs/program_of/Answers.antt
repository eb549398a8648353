-- `program_of` meets its contract, check by check. Assumes nothing.
use Rattle.std.proofs.Common.{[], sym, ◌∙◌, subst}
use Rattle.laws.specs.Refusals.Laws.{handed_on}
use Rattle.text.specs.Parsing.{Parses}
use Rattle.text.proofs.Giving.{refused-told, refused-given, too_long, word-outside, grammar-broken, good-told, good-given}
use Rattle.text.proofs.program_of.Goals as goal

pub returns-then-text-gt-TEXT_MOST : goal.returns-then-text-gt-TEXT_MOST
returns-then-text-gt-TEXT_MOST c =
    let args = c.args in
    let e = too_long args.text.now c.if-text-gt-TEXT_MOST.true in
    record { answer = c.refuse.ensures ∙ sym (refused-told args.text.now args.program.now _ e); program = refused-given args.text.now args.program.now _ e }

pub returns-in_err-check_words : goal.returns-in_err-check_words
returns-in_err-check_words c =
    let args = c.args in
    let e = word-outside args.text.now c.if-text-gt-TEXT_MOST.false _ (sym c.check_words.ensures ∙ c.in_err-check_words.was) in
    record { answer = handed_on _ c.from_residual.ensures.1 ∙ sym (refused-told args.text.now args.program.now _ e); program = refused-given args.text.now args.program.now _ e }

pub parse-requires : goal.parse-requires
parse-requires c = (c.if-text-gt-TEXT_MOST.false, c.requires)

pub returns-in-Err : goal.returns-in-Err
unfolding Parses
returns-in-Err c =
    let args = c.args in
    let text = args.text.now in
    let accepted = sym c.check_words.ensures ∙ c.in_ok-check_words.was in
    let p = subst (Parses text _) c.in-Err.is c.parse.ensures in
    let e = grammar-broken text c.if-text-gt-TEXT_MOST.false accepted _ p in
    record { answer = c.refuse-in-Err.ensures ∙ sym (refused-told text [] _ e); program = refused-given text _ _ e }

pub returns-in-Ok : goal.returns-in-Ok
unfolding Parses
returns-in-Ok c =
    let args = c.args in
    let text = args.text.now in
    let accepted = sym c.check_words.ensures ∙ c.in_ok-check_words.was in
    let p = subst (Parses text _) c.in-Ok.is c.parse.ensures in
    let h = c.if-text-gt-TEXT_MOST.false in
    record { answer = c.sized.ensures ∙ sym (good-told text h accepted p.0 p.1 _ p.2); program = good-given text h accepted p.0 p.1 _ p.2 _ p.3 }
