-- `walk::put_exits` meets its contract: joining the starts that are left comes out as at the start. Assumes nothing.
use Prim.Native.Nat.{◌+◌}
use Rattle.compiler.specs.Walk.{waiting}
use Rattle.compiler.specs.Ors.{Chaining}
use Rattle.compiler.proofs.walk.put_exits.Given as goal

abbrev pub invariant-loop-start : goal.invariant-loop-start
invariant-loop-start l =
    Chaining 35 1 l.n (waiting l.outs l.first l.end) (waiting l.outs (l.first + l.start-index) l.end) l.initial.cells l.cells l.chain
