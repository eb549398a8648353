-- The word of an element, by computation.
use mathlib.Core.Path.{refl}
use Rattle.model.specs.Word.{element_word}
use Rattle.rules.proofs.words.element_word.Goals as goal

pub returns : goal.returns
unfolding element_word
returns c = refl
