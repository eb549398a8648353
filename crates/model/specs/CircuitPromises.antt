-- The user's second demand as a type: the published netlist, its files, and the one set of values that its equations allow, in every state.
-- The proof is in crate theory, file Promises/Demands: demand2.
-- Assumes nothing: definitions.
use Rattle.model.specs.Refusals.{Accepted, Done}
use Rattle.std.specs.Prelude.{◌≡◌, ◌↔◌, Bool, true, false, List, ℕ, zero, suc, ◌+◌, ◌-◌, ◌*◌, ◌/◌, ◌≤◌, ◌<◌, length, take, drop}
use Rattle.model.specs.declared.Merge.{Merge}
use Rattle.model.specs.declared.Format.{Format}
use Rattle.model.specs.declared.Format.TheVariants.{Full, Compact}
use Rattle.model.specs.declared.Options.{Options}
use Rattle.model.specs.declared.Answer.{Answer}
use Rattle.model.specs.declared.Outcome.{Outcome}
use Rattle.model.specs.declared.Outcome.TheVariants.{Ended, Open}
use Rattle.model.specs.Word.{pick, bit}
use Rattle.model.specs.Program.{Program}
use Rattle.model.specs.ProgramChecks.{program_with}
use Rattle.model.specs.Rules.{Store}
use Rattle.model.specs.Circuit.{cell_at, Netlist, control, memory_words, Sig, Values, level, element, array_at, Obeys, delayed, remaining_before, held_before, merges, step_of, shape, k_start, k_delay}
use Rattle.model.specs.Numbering.{netlist, finish}
use Rattle.model.specs.NetlistFile.{file_check, cells_of, net_of, finish_of, pulse_of}
use Rattle.model.specs.State.{instant_of, flight_of, flight_in, course, state_size, element_now, now_at, before_at, held_at, line_at, remaining_at, flight, begin_state, step_state, crowded, continued, sound}
use Rattle.model.specs.Calls.{Returned, verdict, overwrite, compile_call, write_call, read_call, word_at, begin_call, continue_call, start_call, run_netlist_call}
use Rattle.model.specs.Word.{Bytes}

-- "The netlist is, cell for cell, the published circuit; the simulator's wires at each instant are the only ones the circuit's equations
-- allow; a netlist file read back is the netlist that was written, and no other file is accepted."

-- what compiling wrote is a file that is accepted, and its cells are the published ones
pub record Published (S : Program) (file : List ℕ) (f : ℕ) : Type 0 where
  pub accepted : file_check file ≡ Accepted
  pub cells : cells_of file ≡ netlist S
  pub pulse : pulse_of file ≡ S.pulse
  pub finishes : (f ≡ finish S) × (finish_of file ≡ f)

-- Reading what was written gives the cells, the finish and the pulse length; writing what was read gives the file.
pub record SameFile : Type 0 where
  pub read : (w : ℕ) (cells for_file for_cells : List ℕ) (f n g : ℕ) → Bytes cells → (write_call w cells f for_file).answer ≡ Done n g →
      let file = take n (write_call w cells f for_file).lent in
      length cells ≤ length for_cells
      → (read_call file for_cells ≡ record { answer = Done (length cells / 6) f; lent = overwrite cells for_cells }) × (pulse_of file ≡ w)
  pub written : (file for_cells for_file : List ℕ) (n f : ℕ) → Bytes file → (read_call file for_cells).answer ≡ Done n f →
      let cells = take (6 * n) (read_call file for_cells).lent in
      length file ≤ length for_file → write_call (pulse_of file) cells f for_file ≡ record { answer = Done (length file) f; lent = overwrite file for_file }

-- the states of a run: begun, then stepped, with a start pulse at each of these instants
unfoldable pub state_at : Format → Netlist → Sig → Store → List ℕ → ℕ → List ℕ
state_at F net starts words lent zero = begin_state F net words lent
state_at F net starts words lent (suc t) = step_state F net (starts (suc t)) (state_at F net starts words lent t)

-- the value of cell k an instant before t
unfoldable pub earlier : Values → ℕ → ℕ → ℕ
earlier W k zero = 0
earlier W k (suc t) = W k t

-- the input of delay k i instants before t, and what merge k holds after t
abbrev pub line_of : Netlist → Values → ℕ → ℕ → ℕ → ℕ
line_of net W t k i = bit (delayed i (level W (cell_at net.cells k).a) t)

abbrev pub held_of : Netlist → Values → ℕ → ℕ → Merge
held_of net W t k =
    let c = cell_at net.cells k in
    held_before (step_of net.pulse c.kind) (level W c.a) (level W c.b) (suc t)

-- how many high instants of start k remain after t, by its own level
abbrev pub remaining_of : Netlist → Values → ℕ → ℕ → ℕ
remaining_of net W t k = remaining_before net.pulse (level W k) (suc t)

-- how many of its last inputs a line of a delay of d tells
abbrev pub kept : Format → ℕ → ℕ
kept Full d = 256
kept Compact d = d

-- state s holds, of the values W from these start words, those of instant t
pub record Holds (F : Format) (net : Netlist) (words : Store) (W : Values) (t : ℕ) (s : List ℕ) : Type 0 where
  pub instant : t ≤ 1000000 → instant_of s ≡ t
  pub number : flight_of s ≡ flight_in (line_of net W t) (held_of net W t) (remaining_of net W t) net.cells 0
  pub present : (k : ℕ) → k < length net.cells → now_at F s k ≡ W k t
  pub past : (k : ℕ) → k < length net.cells → before_at F s k ≡ earlier W k t
  pub held : (k : ℕ) → k < length net.cells → merges (cell_at net.cells k).kind ≡ true → held_at F s k ≡ held_of net W t k
  pub lines : (k : ℕ) → k < length net.cells → shape (cell_at net.cells k).kind ≡ k_delay
      → (i : ℕ) → i < kept F (cell_at net.cells k).delay → line_at F net s k i ≡ line_of net W t k i
  pub remaining : (k : ℕ) → k < length net.cells → shape (cell_at net.cells k).kind ≡ k_start → remaining_at F s k ≡ remaining_of net W t k
  pub elements : (k i : ℕ) → k < 4 → i < 64 → element_now F net s (64 * k + i) ≡ element net.cells words W (array_at net.cells k) i t
  pub proper : sound F net s ≡ true

-- a pulse that enters a delay of d at instant t finds none that hasn't come out
abbrev pub Free : ℕ → Sig → ℕ → Type 0
Free d x t = (u : ℕ) → u < t → x u ≡ true → x t ≡ true → u + d ≤ t

-- up to instant t none has found one, where a state has room for one alone
abbrev pub Apart : Format → Netlist → Values → ℕ → Type 0
Apart Full net W t = Unit {0}
Apart Compact net W t =
    (k : ℕ) → k < length net.cells → shape (cell_at net.cells k).kind ≡ k_delay → (v : ℕ) → v ≤ t → Free (cell_at net.cells k).delay (level W (cell_at net.cells k).a) v

-- after instant t nothing is in flight: no input of a delay of d has been high in the last d instants, no merge holds a bit, and the start has no more
-- high instants
pub record Idle (net : Netlist) (W : Values) (t : ℕ) : Type 0 where
  pub delays : (k : ℕ) → k < length net.cells → shape (cell_at net.cells k).kind ≡ k_delay
      → (i : ℕ) → i < (cell_at net.cells k).delay → delayed i (level W (cell_at net.cells k).a) t ≡ false
  pub held : (k : ℕ) → k < length net.cells → merges (cell_at net.cells k).kind ≡ true → held_of net W t k ≡ record { a = false; b = false }
  pub start : (k : ℕ) → k < length net.cells → shape (cell_at net.cells k).kind ≡ k_start → remaining_of net W t k ≡ 0

-- "A continuing by N from instant t stops at s, the first instant after t and not above t + N where a finish is due, or at t + N if there
-- is none"
unfoldable pub stops_at : (ℕ → Bool) → ℕ → ℕ → ℕ
stops_at finishes t zero = t
stops_at finishes t (suc n) = elim (finishes (suc t)) [ true ↦ suc t | false ↦ stops_at finishes (suc t) n ]

-- no start pulse comes after instant a and up to b
abbrev pub NoStart : Sig → ℕ → ℕ → Type 0
NoStart starts a b = (u : ℕ) → a < u → u ≤ b → starts u ≡ false

-- For any start instants, that of beginning among them, a netlist has one set of values that obeys its equations; every state of a run holds it, a
-- compact one until a pulse enters a line whose pulse hasn't come out; and continuing goes along the run up to the next start.
pub record OneRun (net : Netlist) (starts : Sig) (words : Store) : Type 0 where
  pub values : Values
  pub obeys : Obeys net starts words values
  pub only : (W : Values) → Obeys net starts words W → (k : ℕ) → k < length net.cells → (t : ℕ) → W k t ≡ values k t
  pub states : (F : Format) (lent : List ℕ) → state_size F net ≤ length lent → (t : ℕ) → Apart F net values t
      → Holds F net words values t (state_at F net starts words lent t)
  -- "If the number is 0": nothing is in flight then, and only then
  pub idle : (F : Format) (t : ℕ) (s : List ℕ) → Holds F net words values t s → (flight_of s ≡ 0) ↔ Idle net values t
  -- "Lent bytes past a result keep their values."
  pub past : (F : Format) (lent : List ℕ) (t : ℕ) → drop (state_size F net) (state_at F net starts words lent t) ≡ drop (state_size F net) lent
  pub continuing : (F : Format) (lent : List ℕ) → state_size F net ≤ length lent → (f : ℕ) → f < length net.cells → (n t : ℕ) →
      let t' = stops_at (level values f) t n in
      NoStart starts t t' → Apart F net values t'
      → continued F net f n (state_at F net starts words lent t) ≡ course Accepted (state_at F net starts words lent t') (t' - t)
  -- 26 is met where a pulse enters a line whose pulse hasn't come out, and only there
  pub crowds : (lent : List ℕ) → state_size Compact net ≤ length lent → (t : ℕ) → Apart Compact net values t
      → (k : ℕ) → k < length net.cells → shape (cell_at net.cells k).kind ≡ k_delay →
      let s = state_at Compact net starts words lent t in
      (crowded Compact net s (step_state Compact net (starts (suc t)) s) k ≡ 0) ↔ Free (cell_at net.cells k).delay (level values (cell_at net.cells k).a) (suc t)
  pub controls : (k : ℕ) → k < length net.cells → control (cell_at net.cells k).kind ≡ true → (t : ℕ) → values k t ≤ 1

-- "ended exactly when a finish is due"
abbrev pub ended_if : Bool → Outcome
ended_if b = pick b Ended Open

-- "The answer is ended or open, the instant, the sixteen words and the number of instants evaluated by that call": by the values at instant t.
-- "Ended means that the finish wire is high at that instant, also for N of 0"; "The words at an instant, as an answer shows them, are the memories'"
abbrev pub answer_at : List ℕ → Values → ℕ → ℕ → Answer
answer_at file W t n =
    record { outcome = ended_if (level W (finish_of file) t); instant = t; count = n; words = memory_words (cells_of file) 0 (λ k. W k t) }

-- what calls that are not refused answer and leave, on the states of a run, by its values W
pub record Answers (F : Format) (file words lent : List ℕ) (starts : Sig) (W : Values) : Type 0 where
  pub begun : verdict (begin_call F file words lent).answer.outcome ≡ Accepted
      → begin_call F file words lent ≡ record { answer = answer_at file W 0 1; lent = state_at F (net_of file) starts (word_at words) lent 0 }
  pub continued : (n t : ℕ) →
      let state = state_at F (net_of file) starts (word_at words) lent in
      let t' = stops_at (level W (finish_of file)) t n in
      t ≤ 1000000 → NoStart starts t t' → Apart F (net_of file) W t' → verdict (continue_call F file n (state t)).answer.outcome ≡ Accepted
      → continue_call F file n (state t) ≡ record { answer = answer_at file W t' (t' - t); lent = state t' }
  pub started : (t : ℕ) →
      let state = state_at F (net_of file) starts (word_at words) lent in
      t ≤ 1000000 → starts (suc t) ≡ true → Apart F (net_of file) W (suc t) → verdict (start_call F file (state t)).answer.outcome ≡ Accepted
      → start_call F file (state t) ≡ record { answer = answer_at file W (suc t) 1; lent = state (suc t) }

-- "A full run answers as its last call does, its calls' counts added.": from a beginning and a continuing, with what they leave
unfoldable pub whole_of : Outcome → Returned Answer → Returned Answer → Returned Answer
whole_of Ended begun on = begun
whole_of Open begun on =
    record {
      answer = record { outcome = on.answer.outcome; instant = on.answer.instant; count = begun.answer.count + on.answer.count; words = on.answer.words };
      lent = on.lent;
    }
whole_of (Outcome.Refused r) begun on = begun

pub record Demand2 : Type 0 where
  pub compiled : (options : Options) (program lent : List ℕ) (n f : ℕ) → Bytes program → (compile_call options program lent).answer ≡ Done n f
      → Published (program_with options program) (take n (compile_call options program lent).lent) f
  pub files : SameFile
  pub runs : (file : List ℕ) (starts : Sig) (words : Store) → starts 0 ≡ true → file_check file ≡ Accepted → OneRun (net_of file) starts words
  -- "each call keeps it true", from whatever state
  pub numbers : (F : Format) (file lent : List ℕ) (starts : Bool) → file_check file ≡ Accepted → state_size F (net_of file) ≤ length lent →
      let s = step_state F (net_of file) starts lent in
      flight_of s ≡ flight F (net_of file) s
  pub bounded : (file words : List ℕ) → Bytes file → Bytes words → file_check file ≡ Accepted
      → (starts : Sig) (W : Values) → Obeys (net_of file) starts (word_at words) W
      → (k : ℕ) → k < length (cells_of file) → (t : ℕ) → W k t < 65536
  -- what calls answer
  pub answers : (F : Format) (file words lent : List ℕ) (starts : Sig) (W : Values) → starts 0 ≡ true → file_check file ≡ Accepted
      → state_size F (net_of file) ≤ length lent → Obeys (net_of file) starts (word_at words) W → Answers F file words lent starts W
  -- "A full run of budget N is a beginning, and a continuing by N unless the finish was high."
  pub full_runs : (file words lent : List ℕ) (n : ℕ) → verdict (run_netlist_call file words n lent).answer.outcome ≡ Accepted →
      let begun = begin_call Full file words lent in
      run_netlist_call file words n lent ≡ whole_of begun.answer.outcome begun (continue_call Full file n begun.lent)
