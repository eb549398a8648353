-- The regions of a compiled netlist, told by the kinds of its cells. Assumes nothing: definitions.
use Rattle.std.specs.Prelude.{◌&&◌, List, [], ◌∷◌, ℕ, suc, eqb}
use Rattle.model.specs.declared.Cell.{Cell}
use Rattle.model.specs.Word.{pick}

-- how many cells of a kind a list begins with
unfoldable pub kind_run : ℕ → List Cell → ℕ
kind_run kind [] = 0
kind_run kind (c ∷ cs) = pick (eqb c.kind kind) (suc (kind_run kind cs)) 0

-- how many cells there are without those of kind 7 at the end, which are the data ors and the address ors
unfoldable pub trimmed : List Cell → ℕ
trimmed [] = 0
trimmed (c ∷ cs) = pick (eqb c.kind 7 && eqb (trimmed cs) 0) 0 (suc (trimmed cs))
