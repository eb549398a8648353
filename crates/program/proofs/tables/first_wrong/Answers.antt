-- Refusal 21: the answer from byte 0 is the answer from byte i.
use mathlib.Core.Path.{sym, ◌∙◌}
use native.Mathlib.Omega.{arith}
use Rattle.laws.specs.Refusals.Search.{searched-none, fault-here, fault-next, faults-end}
use Rattle.program.proofs.TimeTables.{wrong_byte, right-byte}
use Rattle.program.proofs.tables.first_wrong.Goals as goal

pub loop-i-init : goal.loop-i-init
loop-i-init c = searched-none _ _

pub returns-then-byte_wrong : goal.returns-then-byte_wrong
returns-then-byte_wrong c =
    let loop = c.loop-i in
    c.refuse.ensures ∙ fault-here loop.invariant 21 (omega (arith, c.requires, c.loop-i-test.true)) (omega arith) (wrong_byte _ _ (sym c.byte_wrong.ensures ∙ c.if-byte_wrong.true))

pub loop-i-preserved : goal.loop-i-preserved
loop-i-preserved c =
    let loop = c.loop-i in
    fault-next loop.invariant (omega (arith, c.requires, c.loop-i-test.true)) (right-byte _ _ (sym c.byte_wrong.ensures ∙ c.if-byte_wrong.false))

pub returns : goal.returns
returns c = faults-end c.loop-i.invariant (omega (arith, c.requires, c.loop-i-test.false))
