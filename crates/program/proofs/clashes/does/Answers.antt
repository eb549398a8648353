-- A statement does it if its nodes do, where the array tells of the bodies.
use mathlib.Core.Path.{◌∙◌}
use Rattle.program.specs.Uses.{marked-has, side-known}
use Rattle.program.proofs.clashes.does.Goals as goal

pub returns : goal.returns
returns c =
    let start = c in
    c.uses.ensures
    ∙ marked-has start.args.mark _ _ _ c.bodies_with-bodies.ensures _ (side-known _ _ _ start.requires.1)
