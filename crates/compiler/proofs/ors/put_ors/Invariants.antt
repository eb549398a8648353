-- `ors::put_ors` meets its contract: joining the wires of the variables that are left comes out as at the start. Assumes nothing.
use Rattle.compiler.specs.Ors.{sources_in}
use Rattle.compiler.proofs.Joining.{Joining}
use Rattle.compiler.proofs.ors.put_ors.Given as goal

abbrev pub invariant-loop-x : goal.invariant-loop-x
invariant-loop-x l = Joining l.joint (sources_in l.joint.mark l.marks) l.n l.initial.cells l.cells l.wires l.next l.x
