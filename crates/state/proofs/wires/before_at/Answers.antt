-- `before_at` meets its contract: what it reads is the value an instant ago. Assumes nothing.
use Rattle.state.proofs.wires.before_at.Goals as goal

pub returns : goal.returns
returns c = rw c.base-at.ensures at c.get16.ensures
