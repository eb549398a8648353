-- `reference_functional` meets its contract. Assumes nothing.
use Rattle.hub.proofs.reference_functional.Goals as goal

pub returns : goal.returns
returns c = c.reference_functional.ensures
