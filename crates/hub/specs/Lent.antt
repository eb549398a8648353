-- A full run of a program: what it asks of its budget and of what is lent, and what its call tells. Assumes nothing: definitions.
use Rattle.std.specs.Prelude.{◌≡◌, List, [], ◌∷◌, ℕ, ◌+◌, ◌*◌, ◌≤◌, length, Err}
use Rattle.model.specs.declared.Refusal.{Refusal}
use Rattle.model.specs.declared.Answer.{Answer}
use Rattle.model.specs.declared.Format.TheVariants.{Full}
use Rattle.model.specs.Refusals.{Checked, Accepted}
use Rattle.model.specs.NetlistFile.{blocks_for, cell_limit, net_of}
use Rattle.model.specs.State.{state_size}
use Rattle.model.specs.Calls.{ReturnedBoth, short, over_budget, overwrite, refused_answer, shows, full_state, full_count}

-- where the netlist has n cells
abbrev pub lent_checks : ℕ → List ℕ → ℕ → List ℕ → List ℕ → List Checked
lent_checks n words budget netlist state =
    over_budget budget
    ∷ short (length words) 544
    ∷ short (length netlist) (512 * blocks_for n)
    ∷ short (length state) (8 + 40 * n + 512)
    ∷ []

-- where it has this file
abbrev pub asked : List ℕ → List ℕ → ℕ → List ℕ → List ℕ → List Checked
asked made words budget netlist state =
    over_budget budget
    ∷ short (length words) 544
    ∷ short (length netlist) (length made)
    ∷ short (length state) (state_size Full (net_of made))
    ∷ []

-- and that file has n cells
pub record HasCells (made : List ℕ) (n : ℕ) : Type 0 where
  pub few : n ≤ cell_limit
  pub size : 512 * blocks_for n ≡ length made
  pub state : 8 + 40 * n + 512 ≡ state_size Full (net_of made)

-- what a call tells, where c is what its checks found and `told` what is told of an answer
pub record Tells (c : Checked) (told : List ℕ → Answer → List ℕ → Answer) (made words : List ℕ) (budget : ℕ) (netlist state : List ℕ) (r : ReturnedBoth) : Type 0 where
  pub refused : {q : Refusal} → c ≡ Err q → r ≡ record { answer = refused_answer q; netlist = netlist; state = state }
  pub accepted : c ≡ Accepted →
      let s = full_state made words budget state in
      r ≡ record { answer = told made (shows Full made s (full_count made words budget state)) s; netlist = overwrite made netlist; state = s }
