-- Refusals 5 and 6: the answer from node 0 is the answer from node i, with so many expressions and statements still to be read, and the nodes from there
-- on are left.
use mathlib.Core.Path.{◌≡◌}
use Prim.Native.Nat.{◌+◌, ◌*◌, ◌≤◌}
use Rattle.model.specs.Program.{node_count, nodes_at}
use Rattle.model.specs.ProgramChecks.{reading, root_sorts}
use Rattle.program.proofs.Misread.{wanted}
use Rattle.word.proofs.Chunks.{Cut}
use Rattle.program.proofs.reading.first_misread.Given as goal

abbrev pub invariant-loop-i : goal.invariant-loop-i
invariant-loop-i l =
    let at = l.i-iterator in
    (l.exprs + l.stmts ≤ 510 * at.count + 9)
    × (reading (root_sorts l.procedures) 0 (nodes_at l.program 0) ≡ reading (wanted l.exprs l.stmts) at.count (nodes_at l.program at.count))
    × Cut 4 l.program at.count at.iter
    × (at.count ≤ node_count l.program)
