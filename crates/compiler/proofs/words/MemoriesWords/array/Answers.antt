-- `Memories::array` meets its contract. Assumes nothing.
use mathlib.Core.Path.{sym}
use Rattle.laws.specs.Numbering.Valid.{array-wire}
use Rattle.compiler.proofs.words.MemoriesWords.array.Goals as goal

pub returns : goal.returns
returns c = λ has ws e. rw e (sym (array-wire _ _))
