-- The value of an expression by its node's kind; the nodes after it fall.
use Prim.Native.Nat.{◌-◌}
use Rattle.model.specs.Program.{node_count}
use Rattle.rules.proofs.statements.Interpreter.+eval_at.Given as goal

abbrev pub decreases-eval_at : goal.decreases-eval_at
decreases-eval_at l = node_count l.self.now.tree.program.now - l.i
