-- `take_values_back` meets its contract: the state so far is the pass up to cell k. Assumes nothing.
use Rattle.simulator.specs.Keeping.{taken_back}
use Rattle.simulator.proofs.Passes.{Passed}
use Rattle.simulator.proofs.keeping.take_values_back.Given as goal

abbrev pub invariant-loop-k : goal.invariant-loop-k
invariant-loop-k l = Passed (taken_back l.format l.kept) l.n l.initial.state l.state l.k
