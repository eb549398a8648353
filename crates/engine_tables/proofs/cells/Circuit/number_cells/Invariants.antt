-- `number_cells` meets its contract: the cells below k are numbered. Assumes nothing.
use Rattle.std.proofs.Common.{◌≡◌, ℕ, ◌≤◌, get_or}
use Rattle.engine_laws.specs.Decoded.{below, Ranks, Delays}
use Rattle.engine_tables.proofs.cells.Circuit.number_cells.Given as goal

abbrev pub invariant-loop-k : goal.invariant-loop-k
invariant-loop-k l =
    let kind = λ (k : ℕ). get_or l.self.kind.now k 0 in
    Ranks kind (λ (k : ℕ). get_or l.self.delay.now k 0) l.rank l.k × Delays kind l.k l.delays l.count × (l.memories ≡ below 40 kind l.k) × (l.count ≤ 256) × (l.memories ≤ l.k)
