-- The first x words are read.
use Rattle.model.specs.Calls.{word_at}
use Rattle.rules.proofs.Stores.{Filled}
use Rattle.rules.proofs.words.start_words.Given as goal

abbrev pub invariant-loop-x : goal.invariant-loop-x
invariant-loop-x l = Filled 272 l.held-items (word_at l.bytes) l.x
