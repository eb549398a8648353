-- `most_left` meets its contract. Assumes nothing.
use Rattle.state.proofs.sound.most_left.Goals as goal

pub returns-then-c-eq32 : goal.returns-then-c-eq32
returns-then-c-eq32 c = rw c.if-c-eq32.true c.saturating_sub.ensures
