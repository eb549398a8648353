-- Continuing with a start level: `continued` of model/State, where each instant has a start pulse or each has none; and the first passes of an instant.
-- A continuing is the case of none, a start the case of one instant with a pulse.
-- Assumes nothing: definitions.
use Rattle.model.specs.Refusals.{Accepted}
use Rattle.std.specs.Prelude.{Bool, true, false, List, ℕ, zero, suc, length, Ok, Err}
use Rattle.model.specs.declared.Format.{Format}
use Rattle.model.specs.declared.Answer.{Answer}
use Rattle.model.specs.Circuit.{Netlist, high}
use Rattle.model.specs.State.{Course, course, longer, now_at, value, step_state, crowding}
use Rattle.model.specs.Calls.{running}
use Rattle.laws.specs.State.Passes.{one, two}

-- an instant's values, before any line takes its input in
abbrev pub valued : Format → Netlist → Bool → List ℕ → List ℕ
valued F net starts s = two F net (value F net starts) (one F s (length net.cells)) (length net.cells)

unfoldable pub continued_with : Format → Netlist → Bool → ℕ → ℕ → List ℕ → Course
continued_with F net starts f zero s = course Accepted s 0
continued_with F net starts f (suc n) s =
    let t = step_state F net starts s in
    elim (crowding F net s t) [
      | Ok _ ↦ elim (high (now_at F t f)) [ true ↦ course Accepted t 1 | false ↦ longer (continued_with F net starts f n t) ]
      | Err r ↦ course (Err r) s 0
    ]

-- what a call answers of it
abbrev pub told : Format → List ℕ → Course → Answer
told F file c = (running F c.check file c.state c.count c.state).answer
