-- `Memories::variable` meets its contract. Assumes nothing.
use mathlib.Core.Path.{sym}
use Rattle.laws.specs.Numbering.Valid.{memory-wire}
use Rattle.compiler.proofs.words.MemoriesWords.variable.Goals as goal

pub returns : goal.returns
returns c = λ ws e. rw e (sym (memory-wire _ _ c.requires))
