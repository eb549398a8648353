-- What is promised of functional circuits, as a type: demand 3 with the times of S-11, as one statement about a beginning and a whole list of calls.
-- "Last words are the program's, right at the finish pulse and held until the next start". Before a run's end the words are free: the call tells what the
-- last sixteen cells show, by the equations of its netlist, and nothing here tells more of it.
-- The proof is in crate theory, file Functional/FullRuns: functional-demand.
-- Assumes nothing: definitions.
use Rattle.model.specs.Refusals.{Accepted, Done}
use Rattle.std.specs.Prelude.{◌≡◌, ◌↔◌, List, [], ◌∷◌, ◌++◌, map, ℕ, suc, ◌+◌, ◌≤◌, length, take}
use Rattle.model.specs.declared.Options.{Options}
use Rattle.model.specs.declared.Cell.{Cell}
use Rattle.model.specs.declared.Format.{Format}
use Rattle.model.specs.declared.Format.TheVariants.{Full}
use Rattle.model.specs.declared.Outcome.TheVariants.{Ended, Open}
use Rattle.model.specs.declared.Answer.{Answer}
use Rattle.model.specs.Word.{Bytes}
use Rattle.model.specs.Program.{Stmt, time_in}
use Rattle.model.specs.ProgramChecks.{functional_checks}
use Rattle.model.specs.Rules.{functional, Store, Ends, ended}
use Rattle.model.specs.Circuit.{Sig, Values, level, memory_words, Obeys}
use Rattle.model.specs.NetlistFile.{file_check, cells_of, net_of, finish_of, pulse_of, last_check, last_words}
use Rattle.model.specs.Functional.{netlist_of}
use Rattle.model.specs.Functional as circuit
use Rattle.model.specs.TimeTables.{Given, load}
use Rattle.model.specs.State.{flight_of, state_size, now_at, continued}
use Rattle.model.specs.Calls.{Returned, ReturnedBoth, overwrite, verdict, written_verdict, word_at, begin_checks, continue_checks, start_checks, run_netlist_checks, listed}
use Rattle.model.specs.CircuitPromises.{Holds, NoStart, ended_if, whole_of}
use Rattle.model.specs.RunPromises.{Request, continuing, start, Call, replay_by, seen, seen_in, seen_of, Stand, stand, Runs, due_at, expected, stands, starts_of, Along, Unchanged}
use Rattle.model.specs.RefusalPromises.{Refuses, table_numbers, file_numbers, long_numbers, just, Leaves, crowd_numbers, LeavesBut}
use Rattle.model.specs.ProgramPromises.{ended_answer, open_answer}
use Rattle.model.specs.FunctionalCalls.{check_functional_call, statement_of, compile_functional_checks, compile_functional_call, reference_functional_checks, reference_functional_call, last_checks, begin_functional_call, continue_functional_call, start_functional_call, run_functional_call, run_functional_program_checks, run_functional_program_call}

unfoldable pub respond_functional : Format → List ℕ → Request → List ℕ → Returned Answer
respond_functional F file (continuing n) s = continue_functional_call F file n s
respond_functional F file start s = start_functional_call F file s

abbrev pub replay_functional : Format → List ℕ → List ℕ → List Call → List (Returned Answer)
replay_functional F file s calls = replay_by (respond_functional F file) s calls

-- the last sixteen cells show these words, in values and in a buffer
abbrev pub LastWords : List Cell → (ℕ → ℕ) → Store → Type 0
LastWords net v σ = last_words net v 0 16 ≡ listed σ 0 16

-- the circuit's values W, where the list stands at st, as long as no other start pulse comes; and the buffer that a call has left there
pub record FunctionalBehaves (F : Format) (P : Stmt) (σ : Store) (file : List ℕ) (rules : Runs) (starts : Sig) (W : Values) (st : Stand) (r : Returned Answer)
    : Type 0 where
  -- the finish wire is high exactly when a finish is due
  pub finishes : (t : ℕ) → st.begun ≤ t → NoStart starts st.begun t → level W (finish_of file) t ≡ due_at 1 rules st t
  -- "right at the finish pulse and held until the next start", and in that instant still
  pub lasts : (t₀ : ℕ) (σ' : Store) → Ends functional P σ t₀ σ' → (t : ℕ) → st.begun + t₀ ≤ t → NoStart starts st.begun t
      → LastWords (cells_of file) (λ k. W k t) σ' × LastWords (cells_of file) (λ k. W k (suc t)) σ'
  -- "Memories keep the start words"
  pub keeps : (t : ℕ) → memory_words (cells_of file) 0 (λ k. W k t) ≡ listed σ 0 16
  -- the buffer holds the values of the instant at which it stands
  pub buffer : Holds F (net_of file) σ W st.now r.lent

-- what a call's answer and the buffer tell of the run
pub record FunctionalTells (F : Format) (P : Stmt) (σ : Store) (file : List ℕ) (st : Stand) (r : Returned Answer) : Type 0 where
  -- every start runs from the start words
  pub from : st.from ≡ σ
  -- the number is 0 exactly from the run's end on
  pub number : (flight_of r.lent ≡ 0) ↔ ((t₀ : ℕ) × (σ' : Store) × Ends functional P σ t₀ σ' × (st.begun + t₀ ≤ st.now))
  -- and from then on the words are its last ones, in the buffer and in the answer of a call that was not refused
  pub words : (t₀ : ℕ) (σ' : Store) → Ends functional P σ t₀ σ' → st.begun + t₀ ≤ st.now
      → LastWords (cells_of file) (now_at F r.lent) σ' × (verdict r.answer.outcome ≡ Accepted → r.answer.words ≡ listed σ' 0 16)
  -- where it has no end up to now the answer doesn't say ended
  pub endless : ((t₀ : ℕ) (σ' : Store) → Ends functional P σ t₀ σ' → st.begun + t₀ ≤ st.now → ⊥) → r.answer.outcome ≡ Ended → ⊥

-- One statement about a beginning and a whole list of continuings and starts: P is the statement that the program means, σ its start words.
pub record FunctionalKeeps (F : Format) (P : Stmt) (σ : Store) (file : List ℕ) (begun : Returned Answer) (calls : List Call) : Type 0 where
  pub rules : Runs
  pub decides : (τ : Store) (k t : ℕ) (τ' : Store) → (rules.within τ k ≡ ended t τ') ↔ ((t ≤ k) × Ends functional P τ t τ')
  -- "the start words, from which every start runs"
  pub anew : (τ : Store) → rules.anew τ ≡ σ
  pub once : (t₁ t₂ : ℕ) (σ₁ σ₂ : Store) → Ends functional P σ t₁ σ₁ → Ends functional P σ t₂ σ₂ → (t₁ ≡ t₂) × (σ₁ ≡ σ₂)
  -- each answer follows from the ends of these runs and the numbers asked for
  pub outcomes :
      map seen_of (begun ∷ replay_functional F file begun.lent calls)
      ≡ seen (ended_if (due_at 1 rules (stand 0 σ 0) 0)) 0 1 ∷ expected 1 rules (state_size F (net_of file)) (stand 0 σ 0) calls
  pub tells :
      let sts = stand 0 σ 0 ∷ stands 1 rules (state_size F (net_of file)) (stand 0 σ 0) calls in
      Along (FunctionalTells F P σ file) sts (begun ∷ replay_functional F file begun.lent calls)
  pub circuit :
      let sts = stand 0 σ 0 ∷ stands 1 rules (state_size F (net_of file)) (stand 0 σ 0) calls in
      (W : Values) → Obeys (net_of file) (starts_of sts) σ W
      → Along (FunctionalBehaves F P σ file rules (starts_of sts) W) sts (begun ∷ replay_functional F file begun.lent calls)
  pub unchanged : Unchanged begun.lent (replay_functional F file begun.lent calls)

-- what compiling wrote is a file that is accepted, also for a functional run; its cells are those of the wiring, and they fit: "every program that passes
-- the checks fits"
pub record FunctionalFile (P : Stmt) (file : List ℕ) (f : ℕ) : Type 0 where
  pub accepted : file_check file ≡ Accepted
  pub lasts : last_check (cells_of file) ≡ Accepted
  pub cells : cells_of file ≡ netlist_of P
  pub finishes : (f ≡ circuit.finish_of P) × (finish_of file ≡ f)
  -- "Pulse length is 1."
  pub pulse : pulse_of file ≡ 1
  pub fits : length (cells_of file) ≤ 7043

-- full runs, on a full state: "A full run answers as its last call does, its calls' counts added", and as a reference run does; the words of one that is open
-- are those that its cells show
pub record FunctionalRuns (P : Stmt) (σ : Store) (file for_file : List ℕ) (begun : Returned Answer) (program_run : ℕ → ReturnedBoth) (whole : ℕ → Returned Answer)
    : Type 0 where
  pub alike : (n : ℕ) → n ≤ 1000000 → program_run n ≡ record { answer = (whole n).answer; netlist = overwrite file for_file; state = (whole n).lent }
  pub runs : (n : ℕ) → n ≤ 1000000 → whole n ≡ whole_of begun.answer.outcome begun (continue_functional_call Full file n begun.lent)
  pub ends : (n t : ℕ) (σ' : Store) → n ≤ 1000000 → Ends functional P σ t σ' → t ≤ n → (whole n).answer ≡ ended_answer t σ'
  pub goes_on : (n : ℕ) → n ≤ 1000000 → ((t : ℕ) (σ' : Store) → Ends functional P σ t σ' → t ≤ n → ⊥) → seen_in (whole n).answer ≡ seen Open n (n + 1)

-- Demand 1 of the calls of functional circuits: the refusals in the published order, and what a refusal leaves. A functional run has the file's
-- refusals, then the rule of the last sixteen cells, then those of the run that it is.
abbrev pub functional_numbers : List ℕ
functional_numbers = 1 ∷ 2 ∷ 3 ∷ 4 ∷ 5 ∷ 6 ∷ 28 ∷ 22 ∷ 24 ∷ 7 ∷ 25 ∷ 8 ∷ []

pub record FunctionalRefusals : Type 0 where
  pub programs : (G : Given) (program : List ℕ)
      → Refuses (table_numbers ∷ just 1 ∷ (2 ∷ 3 ∷ 4 ∷ []) ∷ (5 ∷ 6 ∷ []) ∷ just 28 ∷ just 22 ∷ just 24 ∷ just 7 ∷ just 25 ∷ just 8 ∷ [])
      ((load G).checked ∷ functional_checks (time_in (load G).times) program) (check_functional_call (load G) program)
  pub compiling : (G : Given) (program lent : List ℕ) →
      let c = written_verdict (compile_functional_call (load G) program lent).answer in
      Refuses (table_numbers ∷ functional_numbers ∷ just 14 ∷ []) (compile_functional_checks (load G) program lent) c
      × Leaves c lent (compile_functional_call (load G) program lent).lent
  pub references : (G : Given) (program words : List ℕ) (n : ℕ)
      → Refuses (table_numbers ∷ functional_numbers ∷ just 13 ∷ just 14 ∷ []) (reference_functional_checks (load G) program words n)
      (verdict (reference_functional_call (load G) program words n).outcome)
  pub beginning : (F : Format) (file words lent : List ℕ) →
      let c = verdict (begin_functional_call F file words lent).answer.outcome in
      Refuses (file_numbers ∷ just 12 ∷ file_numbers ∷ long_numbers F ∷ just 14 ∷ just 14 ∷ []) (last_checks file ++ begin_checks F file words lent) c
      × Leaves c lent (begin_functional_call F file words lent).lent
  pub continuing : (F : Format) (file : List ℕ) (n : ℕ) (lent : List ℕ) →
      let c = verdict (continue_functional_call F file n lent).answer.outcome in
      let on = continued F (net_of file) (finish_of file) n lent in
      Refuses (file_numbers ∷ just 12 ∷ file_numbers ∷ long_numbers F ∷ just 14 ∷ just 15 ∷ just 16 ∷ crowd_numbers F ∷ [])
      (last_checks file ++ (continue_checks F file n lent ++ (on.check ∷ []))) c
      × LeavesBut 26 c lent (continue_functional_call F file n lent).lent
  pub starting : (F : Format) (file lent : List ℕ) →
      let c = verdict (start_functional_call F file lent).answer.outcome in
      Refuses (file_numbers ∷ just 12 ∷ file_numbers ∷ long_numbers F ∷ just 14 ∷ just 15 ∷ just 16 ∷ just 23 ∷ []) (last_checks file ++ start_checks F file lent) c
      × Leaves c lent (start_functional_call F file lent).lent
  pub netlist_runs : (file words : List ℕ) (n : ℕ) (lent : List ℕ) →
      let c = verdict (run_functional_call file words n lent).answer.outcome in
      Refuses (file_numbers ∷ just 12 ∷ file_numbers ∷ just 13 ∷ just 14 ∷ just 14 ∷ []) (last_checks file ++ run_netlist_checks file words n lent) c
      × Leaves c lent (run_functional_call file words n lent).lent
  pub program_runs : (G : Given) (program words : List ℕ) (n : ℕ) (for_file lent : List ℕ) →
      let r = run_functional_program_call (load G) program words n for_file lent in
      let c = verdict r.answer.outcome in
      Refuses (table_numbers ∷ functional_numbers ∷ just 13 ∷ just 14 ∷ just 14 ∷ just 14 ∷ []) (run_functional_program_checks (load G) program words n for_file lent) c
      × Leaves c for_file r.netlist × Leaves c lent r.state

pub record Functional : Type 0 where
  pub compiled : (options : Options) (program for_file : List ℕ) (n f : ℕ) → Bytes program → (compile_functional_call options program for_file).answer ≡ Done n f
      → FunctionalFile (statement_of program) (take n (compile_functional_call options program for_file).lent) f
  pub lists : (F : Format) (options : Options) (program for_file words for_state : List ℕ) (calls : List Call) (n f : ℕ)
      → (compile_functional_call options program for_file).answer ≡ Done n f →
      let file = take n (compile_functional_call options program for_file).lent in
      let begun = begin_functional_call F file words for_state in
      Bytes file → Bytes words → verdict begun.answer.outcome ≡ Accepted
      → FunctionalKeeps F (statement_of program) (word_at words) file begun calls
  pub full_runs : (options : Options) (program for_file words for_state : List ℕ) (n f : ℕ)
      → (compile_functional_call options program for_file).answer ≡ Done n f →
      let file = take n (compile_functional_call options program for_file).lent in
      let begun = begin_functional_call Full file words for_state in
      Bytes file → Bytes words → verdict begun.answer.outcome ≡ Accepted
      → FunctionalRuns (statement_of program) (word_at words) file for_file begun
      (λ k. run_functional_program_call options program words k for_file for_state) (λ k. run_functional_call file words k for_state)
  -- the reference run answers an end within its budget, and no other
  pub ends : (options : Options) (program words : List ℕ) (n t : ℕ) (σ' : Store) → verdict (reference_functional_call options program words n).outcome ≡ Accepted
      → Ends functional (statement_of program) (word_at words) t σ' → t ≤ n → reference_functional_call options program words n ≡ ended_answer t σ'
  pub ended : (options : Options) (program words : List ℕ) (n : ℕ) → (reference_functional_call options program words n).outcome ≡ Ended
      → (t : ℕ) × (σ' : Store) × (t ≤ n) × Ends functional (statement_of program) (word_at words) t σ'
  pub still_open : (options : Options) (program words : List ℕ) (n : ℕ) → (reference_functional_call options program words n).outcome ≡ Open
      → (reference_functional_call options program words n ≡ open_answer n)
      × ((t : ℕ) (σ' : Store) → Ends functional (statement_of program) (word_at words) t σ' → t ≤ n → ⊥)
