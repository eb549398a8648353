-- `copy` meets its contract. The invariant: putting the rest in comes out as the other list. Assumes nothing.
use Rattle.std.proofs.Common.{◌∙◌, sym, arith, length-set}
use Rattle.word.proofs.Puts.{put-whole, next-put, put-done}
use Rattle.word.proofs.copy.Goals as goal

pub loop-k-init : goal.loop-k-init
loop-k-init c = (c.requires, put-whole c.args.to.now c.args.from.now c.requires)

pub loop-k-preserved : goal.loop-k-preserved
loop-k-preserved c =
    let loop = c.loop-k in
    (simp length-set loop.invariant.0, sym (next-put loop.to c.args.from.now loop.k c.loop-k-test.true) ∙ loop.invariant.1)

pub returns : goal.returns
returns c =
    let loop = c.loop-k in
    sym (put-done loop.to c.args.from.now loop.k loop.k (omega arith)) ∙ loop.invariant.1
