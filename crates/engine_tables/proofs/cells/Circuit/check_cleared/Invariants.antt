-- `check_cleared` meets its contract: the cells below k pass. Assumes nothing.
use Rattle.std.proofs.Common.{[], ℕ, ◌<◌, eqb, get_or}
use Rattle.engine_laws.specs.Tables.{Passes, clears_at}
use Rattle.engine_tables.proofs.cells.Circuit.check_cleared.Given as goal

abbrev pub invariant-loop-k : goal.invariant-loop-k
invariant-loop-k l =
    (j : ℕ) → j < l.k → Passes (clears_at (λ (k : ℕ). eqb (get_or l.cleared k 0) 1)) l.self.kind.now [] l.self.a.now l.self.b.now j
