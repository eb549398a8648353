-- `walk::put_own` meets its contract. Assumes nothing.
use Rattle.compiler.proofs.Exprs.{own-none, own-some}
use Rattle.compiler.proofs.walk.put_own.Goals as goal

pub returns-then-delay-eq0 : goal.returns-then-delay-eq0
returns-then-delay-eq0 c = own-none c.if-delay-eq0.true

pub returns : goal.returns
returns c =
    let if1 = c.if-delay-eq0 in
    let put = c.put in
    own-some _ if1.false put.ensures
