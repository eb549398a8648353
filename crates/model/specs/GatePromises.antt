-- What is promised of gates that take their time, as a type: the values that a slow run works out obey the equations and are the only ones, they agree
-- with the ideal ones wherever the paper says, and so a slow run answers as a full run does. What it refuses is in model/RefusalPromises: `slowRuns`.
-- The proof is in crate theory, file Promises/Gates: gates.
-- Assumes nothing: definitions.
use Rattle.model.specs.Refusals.{Accepted}
use Rattle.std.specs.Prelude.{◌≡◌, Bool, true, ◌||◌, List, ℕ, ◌<◌, eqb, length}
use Rattle.model.specs.Program.{Program, program_of, time_in}
use Rattle.model.specs.Rules.{Store}
use Rattle.model.specs.Circuit.{cell_at, Values, control, element, array_at, Obeys}
use Rattle.model.specs.Numbering.{netlist, circuit_of}
use Rattle.model.specs.TimeTables.{TimeTable, times_of, beside, load}
use Rattle.model.specs.Calls.{verdict, check_call, run_program_call}
use Rattle.model.specs.Gates.{first_start, ObeysSlowly, slowly, slow_run_call}
use Rattle.model.specs.Word.{Bytes}

-- "control wires, memories": the kinds of cells on which the two runs agree
unfoldable pub seen : ℕ → Bool
unfolding control
seen k = control k || eqb k 40

-- "it agrees with the ideal one on control wires, memories and elements at every instant"
pub record Agrees (S : Program) (words : Store) (W U : Values) : Type 0 where
  pub cells : (k : ℕ) → k < length (netlist S) → seen (cell_at (netlist S) k).kind ≡ true → (t : ℕ) → U k t ≡ W k t
  pub elements : (j i t : ℕ) → j < 4 → element (netlist S) words U (array_at (netlist S) j) i t ≡ element (netlist S) words W (array_at (netlist S) j) i t

-- "For every accepted program, under any loaded times": T is its table, k the number of its procedures
pub record Gates : Type 0 where
  -- there is one such run
  pub obeys : (T : TimeTable) (k : ℕ) (program : List ℕ) (words : Store) → Bytes program → check_call (load (beside T k 1)) program ≡ Accepted →
      let S = program_of 1 k program in
      let τ = time_in (times_of T) in
      ObeysSlowly τ S words (slowly τ S words)
  pub only : (T : TimeTable) (k : ℕ) (program : List ℕ) (words : Store) → Bytes program → check_call (load (beside T k 1)) program ≡ Accepted →
      let S = program_of 1 k program in
      let τ = time_in (times_of T) in
      (U : Values) → ObeysSlowly τ S words U → (j : ℕ) → j < length (netlist S) → (t : ℕ) → U j t ≡ slowly τ S words j t
  -- and it agrees
  pub agree : (T : TimeTable) (k : ℕ) (program : List ℕ) (words : Store) → Bytes program → check_call (load (beside T k 1)) program ≡ Accepted →
      let S = program_of 1 k program in
      (W U : Values) → Obeys (circuit_of S) first_start words W → ObeysSlowly (time_in (times_of T)) S words U → Agrees S words W U
  -- "It answers as a full run does": as one with pulses of 1, whatever pulse length is given
  pub answers : (T : TimeTable) (k w : ℕ) (program words : List ℕ) (n : ℕ) (for_file for_state for_values for_work : List ℕ) → Bytes program →
      let full = (run_program_call (load (beside T k 1)) program words n for_file for_state).answer in
      let slow = (slow_run_call (load (beside T k w)) program words n for_values for_work).answer in
      verdict full.outcome ≡ Accepted → verdict slow.outcome ≡ Accepted → slow ≡ full
