-- What falls along the calls from statement to statement: the nodes from a child on. A node's own call stands above its kind's. Assumes nothing.
use Prim.Native.Nat.{◌+◌, ◌-◌, ◌*◌}
use Rattle.model.specs.Program.{node_count}
use Rattle.functional.proofs.walk.+put_if_put_par_put_repeat_put_seq_put_stmt_put_while.Given as goal

abbrev pub decreases-put_seq : goal.decreases-put_seq
decreases-put_seq l = 2 * (node_count l.tree.now.program.now - l.parent.first) + 2

abbrev pub decreases-put_par : goal.decreases-put_par
decreases-put_par l = 2 * (node_count l.tree.now.program.now - l.parent.first) + 2

abbrev pub decreases-put_if : goal.decreases-put_if
decreases-put_if l = 2 * (node_count l.tree.now.program.now - l.parent.second) + 2

abbrev pub decreases-put_while : goal.decreases-put_while
decreases-put_while l = 2 * (node_count l.tree.now.program.now - l.parent.second) + 2

abbrev pub decreases-put_repeat : goal.decreases-put_repeat
decreases-put_repeat l = 2 * (node_count l.tree.now.program.now - l.parent.second) + 2

abbrev pub decreases-put_stmt : goal.decreases-put_stmt
decreases-put_stmt l = 2 * (node_count l.tree.now.program.now - l.i) + 1
