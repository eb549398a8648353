-- `ors::put_chain` meets its contract: joining the wires that are left comes out as at the start. Assumes nothing.
use mathlib.Core.Path.{◌≡◌}
use Rattle.std.specs.Slice.Iter.{chunks_exact_rest, chunks_exact_size}
use Rattle.model.specs.Numbering.{wires_of}
use Rattle.compiler.specs.Ors.{sources_in, Chaining}
use Rattle.compiler.proofs.ors.put_chain.Given as goal

abbrev pub invariant-loop-own : goal.invariant-loop-own
invariant-loop-own l =
    (chunks_exact_size l.own-iterator ≡ 4)
    × Chaining l.joint.kind l.joint.none l.n (wires_of l.x (sources_in l.joint.mark l.marks)) (wires_of l.x (sources_in l.joint.mark (chunks_exact_rest l.own-iterator))) l.initial.cells l.cells l.chain
