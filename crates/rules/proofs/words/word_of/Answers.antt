-- A word by its variable; past the last there is none.
use Rattle.std.proofs.Common.{rules}
use Rattle.rules.specs.Ran.{store_of}
use Rattle.rules.proofs.words.word_of.Goals as goal

pub returns : goal.returns
unfolding store_of
returns c = search rules
