-- What is promised of a program without its circuit, as a type: its tree is its nodes, the reference run tells the end that the rules give, and a
-- full run on the circuit answers as the reference run does.
-- Assumes nothing: definitions.
use Rattle.model.specs.Refusals.{Accepted}
use Rattle.std.specs.Prelude.{◌≡◌, ◌↔◌, List, ℕ, ◌+◌, ◌≤◌, replicate}
use Rattle.model.specs.declared.Options.{Options}
use Rattle.model.specs.declared.Outcome.TheVariants.{Ended, Open}
use Rattle.model.specs.declared.Answer.{Answer}
use Rattle.model.specs.Program.{nodes_at, roots, preorders}
use Rattle.model.specs.ProgramChecks.{program_with}
use Rattle.model.specs.Procedures.{meaning}
use Rattle.model.specs.Calling.{EndsIn, Obeying}
use Rattle.model.specs.Rules.{imperative, Store, Course, Ends, Leaves}
use Rattle.model.specs.Calls.{verdict, check_call, run_program_call, word_at, listed, reference_call}
use Rattle.model.specs.Word.{Bytes}
use Rattle.model.specs.RunPromises.{seen_in}

-- the answers of a run that ended at t with the words σ, and of one that is open after n instants: the rules have no words to show of it
abbrev pub ended_answer : ℕ → Store → Answer
ended_answer t σ = record { outcome = Ended; instant = t; count = t + 1; words = listed σ 0 16 }

abbrev pub open_answer : ℕ → Answer
open_answer n = record { outcome = Open; instant = n; count = n + 1; words = replicate 16 0 }

pub record Programs : Type 1 where
  -- "Each node is followed by its children in the order named; node 0 is the root": an accepted program's nodes are those of its tree
  pub tree : (options : Options) (program : List ℕ) → check_call options program ≡ Accepted → nodes_at program 0 ≡ preorders (roots (program_with options program))
  -- "The program's end is the instant at which its root ends": the reference run answers an end within its budget
  pub ends : (options : Options) (program words : List ℕ) (n t : ℕ) (σ' : Store) → verdict (reference_call options program words n).outcome ≡ Accepted
      → Ends (imperative options.pulse) (meaning (program_with options program)) (word_at words) t σ' → t ≤ n → reference_call options program words n ≡ ended_answer t σ'
  -- and no other: what it answers is an end, or there is none within the budget
  pub ended : (options : Options) (program words : List ℕ) (n : ℕ) → (reference_call options program words n).outcome ≡ Ended
      → (t : ℕ) × (σ' : Store) × (t ≤ n) × Ends (imperative options.pulse) (meaning (program_with options program)) (word_at words) t σ'
  pub still_open : (options : Options) (program words : List ℕ) (n : ℕ) → (reference_call options program words n).outcome ≡ Open
      → (reference_call options program words n ≡ open_answer n)
      × ((t : ℕ) (σ' : Store) → Ends (imperative options.pulse) (meaning (program_with options program)) (word_at words) t σ' → t ≤ n → ⊥)
  -- "Its rule: the delay, then the body.", and of an assignment "it takes d + w": there is a table of the bodies' ends that obeys the rules with calls
  pub obeyed : (options : Options) (program : List ℕ) → check_call options program ≡ Accepted
      → (C : ℕ → Course) × Obeying (imperative options.pulse) (program_with options program).bodies C
  -- and with any such table they say of the main program what the rules say of the statement without calls
  pub calling : (options : Options) (program : List ℕ) → check_call options program ≡ Accepted →
      let S = program_with options program in
      (C : ℕ → Course) → Obeying (imperative options.pulse) S.bodies C → (σ : Store) (t : ℕ) (σ' : Store) → EndsIn (imperative options.pulse) S.bodies C S.main σ t σ' ↔ Ends (imperative options.pulse) (meaning S) σ t σ'
  -- refusal 22: it never comes to an exit that ends no loop of its own
  pub never_left : (options : Options) (program : List ℕ) → check_call options program ≡ Accepted
      → (σ : Store) (t : ℕ) (σ' : Store) → Leaves (imperative options.pulse) (meaning (program_with options program)) σ t σ' → ⊥
  -- a full run that is not refused answers what the reference run does; the words of one that is open are the memories'
  pub agree : (options : Options) (program words : List ℕ) (n : ℕ) (for_file lent : List ℕ) → Bytes program →
      let full = (run_program_call options program words n for_file lent).answer in
      let reference = reference_call options program words n in
      verdict full.outcome ≡ Accepted → (seen_in full ≡ seen_in reference) × (full.outcome ≡ Ended → full ≡ reference)
