-- `is_sound` meets its contract. Assumes nothing.
use Rattle.model.specs.State.{sound}
use Rattle.state.proofs.sound.is_sound.Goals as goal

pub returns : goal.returns
unfolding sound
returns c = cc
