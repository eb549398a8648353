-- The nodes of a statement: its end is behind it, and no node is behind the program's end.
use Rattle.std.proofs.Common.{◌≤◌, arith}
use Rattle.model.specs.Program.{node_count}
use Rattle.program.specs.Ends.{past-later}
use Rattle.program.specs.Uses.{side-below, side-within}
use Rattle.program.proofs.nodes.Tree.subtree.Goals as goal
use Rattle.program.proofs.nodes.Tree.subtree.Goals.{After-next}

pub next-requires : goal.next-requires
next-requires c = omega (arith, c.requires.laid.short)

-- where it ends
ended : (c : After-next) → (c.args.i ≤ c.next.result) × (c.next.result ≤ node_count c.args.self.now.program.now)
ended c =
    let S = c.requires in (
      past-later c.args.self.now.program.now c.args.self.now.ends.now c.args.i (S.laid.each c.args.i) c.next.result c.next.ensures,
      side-within c.args.self.now.program.now c.args.self.now.ends.now c.args.i S c.next.result c.next.ensures,
    )

pub overflow_mul-result : goal.overflow_mul-result
overflow_mul-result c = omega (arith, side-below c.args.self.now.program.now c.args.self.now.ends.now c.args.i c.requires, c.requires.laid.short)

pub overflow_mul-result-2 : goal.overflow_mul-result-2
overflow_mul-result-2 c = omega (arith, ended (goal.at.overflow_mul-result-2 c).After-next, c.requires.laid.short)

pub slice_bounds-result-count : goal.slice_bounds-result-count
slice_bounds-result-count c = omega (arith, ended (goal.at.slice_bounds-result-count c).After-next)

pub slice_bounds-result-start : goal.slice_bounds-result-start
slice_bounds-result-start c = omega (arith, ended (goal.at.slice_bounds-result-start c).After-next)

pub slice_bounds-result-end : goal.slice_bounds-result-end
slice_bounds-result-end c = omega (arith, ended (goal.at.slice_bounds-result-end c).After-next)
