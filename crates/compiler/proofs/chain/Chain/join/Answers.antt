-- `Chain::join` meets its contract. Assumes nothing.
use Rattle.compiler.proofs.Chains.{chain_first, chain_more}
use Rattle.compiler.proofs.chain.Chain.join.Goals as goal

pub returns-in-None : goal.returns-in-None
returns-in-None c = λ kind none n ws left before C. chain_first C c.in-None.is

pub returns-in-Some : goal.returns-in-Some
returns-in-Some c = λ kind none n ws left before C. chain_more C c.in-Some.is c.put.ensures
