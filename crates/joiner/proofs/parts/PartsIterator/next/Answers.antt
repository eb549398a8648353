-- The first of the parts that are left, and those behind it. Assumes nothing.
use Rattle.std.proofs.Common.{◌≡◌, ◌∷◌, ap, length, rules}
use Rattle.joiner.specs.Lent.{part_of, parts_left}
use Rattle.joiner.proofs.Lent.{parts-first, parts-none}
use Rattle.joiner.proofs.parts.PartsIterator.next.Goals as goal
use Rattle.joiner.proofs.parts.PartsIterator.next.Goals.{After-first_or-pulse}

pub returns-in_err-n-clause-steps : goal.returns-in_err-n-clause-steps
returns-in_err-n-clause-steps c =
    let old = c.args.self.now in
    let none = parts-none old.lengths.now old.pulses.now old.bytes.now c.in_err-n.ensures.cases in
    rw c.from_residual.ensures (none, none)

-- what is given stands first, before what is left
first-given : (c : After-first_or-pulse)
    → parts_left c.args.self.now
    ≡ part_of (record { program = c.split_within.result.0; file = c.split_within-2.result.0; pulse = c.first_or-pulse.result.0 })
    ∷ parts_left (record { lengths = c.first_or-m.result.1; pulses = c.first_or-pulse.result.1; bytes = c.split_within-2.result.1 })
first-given c =
    let old = c.args.self.now in
    let lengths = c.first_or-m.ensures in
    let program = c.split_within.ensures in
    let file = c.split_within-2.ensures in
    let pulses = c.first_or-pulse.ensures in
    rw (c.in_ok-n.ensures.cases.0, file.front, file.back, program.front, program.back, lengths.first, lengths.behind, pulses.first, pulses.behind)
    (parts-first c.in_ok-n.n.now c.in_ok-n.lengths.now old.pulses.now old.bytes.now)

pub returns-clause-steps : goal.returns-clause-steps
returns-clause-steps c = first-given (goal.at.returns-clause-steps c).After-first_or-pulse

pub returns-clause-goes : goal.returns-clause-goes
returns-clause-goes c =
    let shorter = ap length (first-given (goal.at.returns-clause-goes c).After-first_or-pulse) in search rules
