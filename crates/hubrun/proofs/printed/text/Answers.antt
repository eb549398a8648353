-- `printed::text` meets its contract: too short an input, or a run. Assumes nothing.
use Rattle.hubrun.proofs.Texts.{short-text, long-text}
use Rattle.hubrun.proofs.printed.text.Goals as goal

pub returns-then-input-lt36 : goal.returns-then-input-lt36
returns-then-input-lt36 c =
    let input = c.args.input.now in
    rw (short-text input c.if-input-lt36.true) (record { length = c.put_refusal.ensures.next; out = c.put_refusal.ensures.out })

pub returns : goal.returns
returns c =
    let input = c.args.input.now in
    rw (long-text input c.if-input-lt36.false, ← c.run.ensures) c.answer_text.ensures
