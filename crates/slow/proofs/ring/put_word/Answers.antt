-- `put_word` meets its contract. Assumes nothing.
use Rattle.slow.proofs.ring.put_word.Goals as goal

pub returns : goal.returns
returns c = cc
