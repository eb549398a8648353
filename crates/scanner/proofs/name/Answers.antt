-- `name` meets its contract: the first byte, and the rest. Assumes nothing.
use Rattle.std.proofs.Common.{◌≤◌, length, rules, arith}
use lib.ListN.{get_or-eq_default}
use Rattle.scanner.proofs.Numbers.{name-none, name-number, after_first}
use Rattle.scanner.proofs.name.Goals as goal

pub returns-in-120 : goal.returns-in-120
returns-in-120 c = name-number c.args.w.now (search rules) (rw (after_first c.args.w.now) at c.number.ensures)

pub returns-in_default : goal.returns-in_default
returns-in_default c =
    let w = c.args.w.now in
    let h : length w ≤ 0 = omega arith in
    name-none w (λ e. omega (arith, get_or-eq_default w 0 h))

pub returns-in_default-2 : goal.returns-in_default-2
returns-in_default-2 c = name-none c.args.w.now (search rules)
