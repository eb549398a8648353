-- `check_followed` meets its contract: the cells below k pass. Assumes nothing.
use Rattle.std.proofs.Common.{List, ℕ, get_or, arith}
use Rattle.engine_laws.specs.Tables.{all-follow}
use Rattle.engine_tables.proofs.cells.Circuit.check_followed.Goals as goal

abbrev at : List ℕ → ℕ → ℕ
at s k = get_or s k 0

pub returns : goal.returns
returns c =
    let args = c.args in
    let net = args.self.now in
    λ h. all-follow (at args.sets.now) (at args.rank.now) net.kind.now net.delay.now net.a.now net.b.now net.n (omega (arith, net.few)) (λ k l. c.loop-k.invariant k (omega arith))
