-- `last_words` meets its contract: the words before x are in place. Assumes nothing.
use Rattle.model.specs.NetlistFile.{cells_of}
use Rattle.model.specs.State.{now_at}
use Rattle.functional_runs.proofs.Words.{Shown}
use Rattle.functional_runs.proofs.last_words.Given as goal

abbrev pub invariant-loop-x : goal.invariant-loop-x
invariant-loop-x l = Shown (cells_of l.netlist) (now_at l.format l.state) 16 l.word-items l.x
