-- `sets::replaced` meets its contract. Assumes nothing.
use Rattle.functional.proofs.sets.replaced.Goals as goal

pub returns : goal.returns
returns c y h =
    let chosen = c.chosen in
    rw (← c.single.ensures y h) (rw (c.same.ensures y h) at (chosen.ensures y h))
