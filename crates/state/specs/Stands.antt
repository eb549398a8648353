-- What looking at a state asks of its bytes, that the cells looked at stand in it; and what refusal 15 leaves: its number and its lines are right.
-- Assumes nothing: definitions.
use Rattle.model.specs.Refusals.{Accepted}
use Rattle.std.specs.Prelude.{List, ◌≡◌, ℕ, ◌+◌, ◌<◌, ◌≤◌, length}
use Rattle.model.specs.declared.Cell.{Cell}
use Rattle.model.specs.declared.Format.{Format}
use Rattle.model.specs.declared.Format.TheVariants.{Full, Compact}
use Rattle.model.specs.Circuit.{cell_at, Netlist}
use Rattle.model.specs.NetlistFile.{cell_limit, file_check, net_of}
use Rattle.model.specs.State.{cell_size, base, state_size, left_at, flight_of, flight}

-- the bytes of cell k lie in state s; the first eight are there in either format
pub record Stands (F : Format) (s : List ℕ) (k : ℕ) : Type 0 where
  pub few : k < cell_limit
  pub front : base F k + 8 ≤ length s
  pub room : base F k + cell_size F ≤ length s

-- so do those of the cells that c looks at, and a delay is no shorter than 1
pub record Sees (F : Format) (s : List ℕ) (c : Cell) : Type 0 where
  pub a : (c.kind ≡ 1 → ⊥) → Stands F s c.a
  pub b : Stands F s c.b
  pub delay : c.kind ≡ 34 → 1 ≤ c.delay

-- a file that is accepted, and a state of its size
pub record Runs (F : Format) (file s : List ℕ) : Type 0 where
  pub accepted : file_check file ≡ Accepted
  pub room : state_size F (net_of file) ≤ length s

-- a line's number is at most the delay; a full line may hold any bytes
unfoldable pub Lined : Format → Netlist → List ℕ → Type 0
Lined Full net s = Unit {0}
Lined Compact net s = (k : ℕ) → k < length net.cells → (cell_at net.cells k).kind ≡ 34 → left_at Compact s k ≤ (cell_at net.cells k).delay

-- the state's header tells its number in flight, and its lines are in range
pub record Ready (F : Format) (net : Netlist) (s : List ℕ) : Type 0 where
  pub number : flight_of s ≡ flight F net s
  pub lines : Lined F net s
