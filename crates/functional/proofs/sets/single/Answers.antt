-- `sets::single` meets its contract. Assumes nothing.
use mathlib.Core.Path.{sym, ◌∙◌}
use borrow.Author.Tests.{ne_eqb}
use native.Mathlib.Omega.{arith}
use Rattle.functional.proofs.Bits.{has-none, has-single}
use Rattle.functional.proofs.sets.single.Goals as goal

pub returns-then-x-lt16 : goal.returns-then-x-lt16
returns-then-x-lt16 c y h = has-single c.args.x y c.if-x-lt16.true

pub returns : goal.returns
returns c y h = has-none y ∙ sym (ne_eqb y c.args.x (λ e. omega (arith, e, h, c.if-x-lt16.false)))
