-- check_words: the first word outside the language is that of the words which are left. Assumes nothing.
use Rattle.std.proofs.Common.{sym, ◌∙◌}
use Rattle.scanner.specs.ScanningLaws.{steps-next}
use Rattle.scanner.proofs.WordLaws.{outside-none, outside-here, outside-next}
use Rattle.scanner.proofs.check_words.Goals as goal

pub returns-then-next-eq0 : goal.returns-then-next-eq0
returns-then-next-eq0 c =
    let text = c.args.text.now in
    let ws = c.loop-next.next-iterator in
    let i = c.loop-next.invariant in
    let n = steps-next text ws i.0 c.in-Some.ensures.steps in
    c.refuse.ensures ∙ sym (i.1 ∙ outside-here text ws.at ws.previous n c.if-next-eq0.true)

pub loop-next-preserved : goal.loop-next-preserved
loop-next-preserved c =
    let text = c.args.text.now in
    let ws = c.loop-next.next-iterator in
    let i = c.loop-next.invariant in
    let s = c.in-Some.ensures.steps in
    rw (s.behind.0, s.behind.1) (s.text ∙ i.0, i.1 ∙ outside-next text ws.at ws.previous (steps-next text ws i.0 s) c.if-next-eq0.false)

pub returns : goal.returns
returns c =
    let text = c.args.text.now in
    let ws = c.loop-next.next-iterator in
    let i = c.loop-next.invariant in
    sym (i.1 ∙ outside-none text ws.at ws.previous (steps-next text ws i.0 c.in-None.ensures.steps))
