-- The first x words are read.
use Rattle.std.proofs.Common.{◌≡◌, refl, arith}
use Rattle.rules.proofs.Stores.{filled_more, filled-listed}
use Rattle.rules.proofs.words.start_words.Goals as goal

pub loop-x-init : goal.loop-x-init
loop-x-init c = (refl, omega arith, λ x l. absurd (omega arith))

pub loop-x-preserved : goal.loop-x-preserved
loop-x-preserved c = filled_more 272 c.loop-x.held-items _ _ _ c.loop-x.invariant c.loop-x-test.true c.get16.ensures

pub returns : goal.returns
returns c =
    let e : c.loop-x.x ≡ 272 = omega arith in
    filled-listed 272 _ _ (rw e at c.loop-x.invariant)
