-- `checks::check_own` meets its contract. The invariant: what is found first of all parts is found first of those that are left. Assumes nothing.
use Rattle.std.proofs.Common.{◌≡◌}
use Rattle.model.specs.Refusals.{first}
use Rattle.model.specs.PartCalls.{own_checks}
use Rattle.joiner.specs.Lent.{parts_left}
use Rattle.joiner.proofs.checks.check_own.Given as goal

abbrev pub invariant-loop-part : goal.invariant-loop-part
invariant-loop-part l = first (own_checks l.options (parts_left l.parts)) ≡ first (own_checks l.options (parts_left l.part-iterator))
