-- `nodes::shift` meets its contract. The invariant: what stands from i on has moved. Assumes nothing.
use Rattle.std.proofs.Common.{◌≡◌, ◌+◌, ◌≤◌}
use Rattle.std.specs.List.{copy_within}
use Rattle.text.proofs.nodes.shift.Given as goal

abbrev pub invariant-loop-i : goal.invariant-loop-i
invariant-loop-i l = (l.a ≤ l.i) × (l.nodes ≡ copy_within l.initial.nodes l.i l.e (l.i + 4))
