-- check_words: the first word outside the language is that of the words which are left. Assumes nothing.
use Rattle.std.proofs.Common.{◌≡◌, drop}
use Rattle.model.specs.Text.{words_of, words_from, outside}
use Rattle.scanner.proofs.check_words.Given as goal

abbrev pub invariant-loop-next : goal.invariant-loop-next
invariant-loop-next l =
    let ws = l.next-iterator in
    (ws.text.now ≡ l.text) × (outside (words_of l.text) ≡ outside (words_from 0 ws.previous ws.at (drop ws.at l.text)))
