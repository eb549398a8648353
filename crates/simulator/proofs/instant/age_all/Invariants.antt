-- `age_all` meets its contract: the state so far is the pass up to cell k. Assumes nothing.
use Rattle.model.specs.State.{aged}
use Rattle.simulator.proofs.Passes.{Passed}
use Rattle.simulator.proofs.instant.age_all.Given as goal

abbrev pub invariant-loop-k : goal.invariant-loop-k
invariant-loop-k l = Passed (aged l.format) l.n l.initial.state l.state l.k
