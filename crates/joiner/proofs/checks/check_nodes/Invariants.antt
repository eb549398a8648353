-- `checks::check_nodes` meets its contract. The invariant: the search from part 0 goes on at part i, and so many nodes are before it. Assumes nothing.
use Rattle.std.proofs.Common.{◌≤◌, length}
use Rattle.model.specs.PartCalls.{nodes_fault}
use Rattle.laws.specs.Refusals.Search.{Searched}
use Rattle.joiner.specs.Lent.{parts_left}
use Rattle.joiner.proofs.Refusing.{Standing, NodesBefore}
use Rattle.joiner.proofs.checks.check_nodes.Given as goal

abbrev pub invariant-loop-i : goal.invariant-loop-i
invariant-loop-i l =
    let ps = parts_left l.fn.parts in
    let at = l.i-iterator in
    Standing ps at.count (parts_left at.iter) × Searched (nodes_fault ps) (length ps) at.count × (l.before ≤ 201) × NodesBefore ps at.count (parts_left at.iter) l.before
