-- `put` meets its contract. Assumes nothing.
use Rattle.std.proofs.Common.{ℕ, ◌/◌, ◌%◌, ap, arith, get_or, set, bit_or}
use Rattle.engine_laws.specs.Sets.{inserted, one_bit}
use Rattle.engine.proofs.sets.put.Goals as goal

pub returns : goal.returns
unfolding inserted
returns c =
    let a = c.args in
    ap (λ (x : ℕ). set a.set.now (a.i / 64) (bit_or (get_or a.set.now (a.i / 64) 0) x)) (one_bit (a.i % 64) (omega arith))
