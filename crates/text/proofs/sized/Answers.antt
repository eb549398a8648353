-- `sized` meets its contract. Assumes nothing.
use Rattle.std.proofs.Common.{◌*◌, refl, arith, le-ltb, lt-ltb}
use Rattle.model.specs.Calls.{writing}
use Rattle.text.proofs.sized.Goals as goal

pub returns-then-n-gt-MOST_NODES : goal.returns-then-n-gt-MOST_NODES
unfolding writing
returns-then-n-gt-MOST_NODES c = rw (lt-ltb 800 (4 * c.args.n) (omega (arith, c.if-n-gt-MOST_NODES.true))) c.refuse.ensures

pub returns : goal.returns
unfolding writing
returns c = rw (le-ltb 800 (4 * c.args.n) (omega (arith, c.if-n-gt-MOST_NODES.false))) refl
