-- The next word begins at or behind the place, and ends behind it and in the text. Assumes nothing.
use Rattle.std.proofs.Common.{sym, ◌∙◌, rules}
use Rattle.scanner.specs.ScanningLaws.{next}
use Rattle.scanner.proofs.WordsIterator.next.Goals as goal

pub returns-clause-goes : goal.returns-clause-goes
returns-clause-goes c =
    let ws = c.args.self.now in
    let h = (next ws.text.now ws.at ws.previous (sym c.in_ok-word.was ∙ c.next_word.ensures)).stands in
    search rules
