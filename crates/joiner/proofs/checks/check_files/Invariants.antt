-- `checks::check_files` meets its contract. The invariant: the search from part 0 goes on at part i, and the parts that are left pass their own checks. Assumes nothing.
use Rattle.std.proofs.Common.{◌≡◌, length}
use Rattle.model.specs.Refusals.{first, Accepted}
use Rattle.model.specs.PartCalls.{own_checks, other_fault}
use Rattle.laws.specs.Refusals.Search.{Searched}
use Rattle.joiner.specs.Lent.{parts_left}
use Rattle.joiner.proofs.Refusing.{Standing}
use Rattle.joiner.proofs.checks.check_files.Given as goal

abbrev pub invariant-loop-i : goal.invariant-loop-i
invariant-loop-i l =
    let ps = parts_left l.fn.parts in
    let at = l.i-iterator in
    Standing ps at.count (parts_left at.iter) × Searched (other_fault l.options ps) (length ps) at.count × (first (own_checks l.options (parts_left at.iter)) ≡ Accepted)
