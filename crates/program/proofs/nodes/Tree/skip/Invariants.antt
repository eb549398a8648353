-- The loop's invariant: so many subtrees from the first node end where those that are left do.
use Rattle.std.proofs.Common.{◌≡◌, ◌-◌}
use Rattle.model.specs.Program.{node_count}
use Rattle.program.specs.Ends.{skips}
use Rattle.program.proofs.nodes.Tree.skip.Given as goal

abbrev pub invariant-loop : goal.invariant-loop
invariant-loop l = skips l.self.ends.now (node_count l.self.program.now) l.trees l.from ≡ skips l.self.ends.now (node_count l.self.program.now) (l.trees - l.counter) l.at
