-- What is asked of compiling is what the trait asks. Assumes nothing.
use Rattle.hub.proofs.kinds.ImperativeCircuit.compile.Goals as goal

pub compile_accepted-requires : goal.compile_accepted-requires
compile_accepted-requires c = c.requires
