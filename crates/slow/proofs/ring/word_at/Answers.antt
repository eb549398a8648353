-- `word_at` meets its contract. Assumes nothing.
use Rattle.slow.proofs.ring.word_at.Goals as goal

pub returns : goal.returns
returns c = cc
