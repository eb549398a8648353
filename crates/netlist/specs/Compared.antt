-- Whether cells are the same, as it is tested. Assumes nothing: definitions.
use Rattle.std.specs.Prelude.{Bool, true, false, ◌&&◌, List, [], ◌∷◌, ◌==◌}
use Rattle.model.specs.declared.Cell.{Cell}

abbrev pub same_cell : Cell → Cell → Bool
same_cell c d = (c.kind == d.kind && c.delay == d.delay) && (c.a == d.a && c.b == d.b)

unfoldable pub same_cells : List Cell → List Cell → Bool
same_cells [] [] = true
same_cells [] (d ∷ ds) = false
same_cells (c ∷ cs) [] = false
same_cells (c ∷ cs) (d ∷ ds) = same_cell c d && same_cells cs ds
