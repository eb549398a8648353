-- `check_functional` meets its contract. Assumes nothing.
use Rattle.hub.proofs.check_functional.Goals as goal

pub returns : goal.returns
returns c = c.check_functional.ensures
