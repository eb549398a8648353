-- `count_cells` meets its contract. Assumes nothing.
use mathlib.Core.Path.{sym, ◌∙◌}
use Rattle.program.specs.Shape.{told-ok, told-shaped}
use Rattle.functional.proofs.Call.{same_count, scanned-main}
use Rattle.functional.proofs.count_cells.Goals as goal

pub unwrap-told-requires : goal.unwrap-told-requires
unwrap-told-requires c = told-ok _ _ _ _ c.scan_functional.ensures c.requires

pub count_main-requires : goal.count_main-requires
count_main-requires c = scanned-main c.args.options _ c.requires (told-shaped _ _ _ _ c.unwrap-told.ensures c.scan_functional.ensures)

pub returns : goal.returns
returns c =
    c.count_main.ensures.cells ∙ sym (same_count c.args.options _ c.requires)
