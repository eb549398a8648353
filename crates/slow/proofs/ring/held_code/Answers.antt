-- `held_code` meets its contract. Assumes nothing.
use native.Mathlib.Omega.{arith}
use Rattle.laws.specs.Circuit.Shapes.{bit_le}
use Rattle.slow.specs.Ring.{held_code}
use Rattle.slow.proofs.ring.held_code.Goals as goal

pub overflow_mul-result : goal.overflow_mul-result
overflow_mul-result c = omega (arith, c.bit-2.ensures, bit_le c.args.m.b)

pub overflow_add-result : goal.overflow_add-result
overflow_add-result c = omega (arith, c.bit-2.ensures, c.bit.ensures, bit_le c.args.m.a, bit_le c.args.m.b)

pub returns : goal.returns
unfolding held_code
returns c = omega (arith, c.bit-2.ensures, c.bit.ensures)
