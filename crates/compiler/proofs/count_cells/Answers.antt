-- `count_cells` meets its contract. Assumes nothing.
use mathlib.Core.Path.{◌∙◌}
use Rattle.compiler.proofs.count_cells.Goals as goal

pub returns : goal.returns
returns c = c.from.ensures ∙ c.list_accepted-made.ensures.count
