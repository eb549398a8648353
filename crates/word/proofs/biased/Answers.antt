-- biased: the top bit turned over. Assumes nothing.
use Rattle.std.proofs.Common.{refl}
use Rattle.model.specs.Word.{biased}
use Rattle.word.proofs.biased.Goals as goal

pub returns : goal.returns
unfolding biased
returns c = refl
