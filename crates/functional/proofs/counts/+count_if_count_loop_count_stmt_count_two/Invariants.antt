-- What falls along the calls from statement to statement: the nodes from a child on. A node's own call stands above its kind's, and an if above its
-- two branches. Assumes nothing.
use Prim.Native.Nat.{◌+◌, ◌-◌, ◌*◌}
use Rattle.model.specs.Program.{node_count}
use Rattle.functional.proofs.counts.+count_if_count_loop_count_stmt_count_two.Given as goal

abbrev pub decreases-count_two : goal.decreases-count_two
decreases-count_two l = 3 * (node_count l.tree.now.program.now - l.first) + 2

abbrev pub decreases-count_if : goal.decreases-count_if
decreases-count_if l = 3 * (node_count l.tree.now.program.now - l.second) + 3

abbrev pub decreases-count_loop : goal.decreases-count_loop
decreases-count_loop l = 3 * (node_count l.tree.now.program.now - l.second) + 2

abbrev pub decreases-count_stmt : goal.decreases-count_stmt
decreases-count_stmt l = 3 * (node_count l.tree.now.program.now - l.i) + 1
