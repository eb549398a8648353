-- `check_cleared` meets its contract: the cells below k pass. Assumes nothing.
use Rattle.std.proofs.Common.{Bool, List, ℕ, eqb, get_or, arith}
use Rattle.engine_laws.specs.Tables.{all-clear}
use Rattle.engine_tables.proofs.cells.Circuit.check_cleared.Goals as goal

abbrev marked : List ℕ → ℕ → Bool
marked s k = eqb (get_or s k 0) 1

pub returns : goal.returns
returns c =
    let net = c.args.self.now in
    λ h delays. all-clear (marked c.args.cleared.now) net.kind.now delays net.a.now net.b.now net.n (omega (arith, net.few)) (λ k l. c.loop-k.invariant k (omega arith))
