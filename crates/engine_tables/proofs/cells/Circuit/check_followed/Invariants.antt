-- `check_followed` meets its contract: the cells below k pass. Assumes nothing.
use Rattle.std.proofs.Common.{ℕ, ◌<◌, get_or}
use Rattle.engine_laws.specs.Tables.{Passes, follows_at}
use Rattle.engine_tables.proofs.cells.Circuit.check_followed.Given as goal

abbrev pub invariant-loop-k : goal.invariant-loop-k
invariant-loop-k l =
    let net = l.self in
    (j : ℕ) → j < l.k
    → Passes (follows_at (λ (k : ℕ). get_or l.sets k 0) (λ (k : ℕ). get_or l.rank k 0) (λ (k : ℕ). get_or net.delay.now k 0)) net.kind.now net.delay.now net.a.now net.b.now j
