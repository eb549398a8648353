-- `rules::past_memories` meets its contract. Assumes nothing.
use Rattle.std.proofs.Common.{refl, le-ltb}
use Rattle.netlist.proofs.rules.past_memories.Goals as goal

pub returns-else-memories-lt16 : goal.returns-else-memories-lt16
returns-else-memories-lt16 c = rw (le-ltb c.args.memories 16 c.if-memories-lt16.false) refl
