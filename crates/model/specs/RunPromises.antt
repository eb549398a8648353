-- The user's third demand as a type: one statement about a beginning and a whole list of continuings and starts.
-- The proof is in crate theory, file Promises/Demands: demand3.
-- Assumes nothing: definitions.
use Rattle.model.specs.Refusals.{Accepted, Done}
use Rattle.std.specs.Prelude.{◌≡◌, ◌↔◌, Bool, true, false, ◌&&◌, ◌||◌, List, [], ◌∷◌, ◌++◌, map, ℕ, suc, ◌+◌, ◌-◌, ◌≤◌, ◌<◌, eqb, ltb, take, drop}
use Rattle.model.specs.declared.Cell.{Cell}
use Rattle.model.specs.declared.Format.{Format}
use Rattle.model.specs.declared.Format.TheVariants.{Full}
use Rattle.model.specs.declared.Options.{Options}
use Rattle.model.specs.declared.Outcome.{Outcome}
use Rattle.model.specs.declared.Outcome.TheVariants.{Ended}
use Rattle.model.specs.declared.Answer.{Answer}
use Rattle.model.specs.Word.{element_word}
use Rattle.model.specs.Program.{Stmt, gap}
use Rattle.model.specs.ProgramChecks.{program_with}
use Rattle.model.specs.Procedures.{meaning}
use Rattle.model.specs.Rules.{imperative, Store, Ends, Run, at_end, at_exit, done, still, ended, shows_at}
use Rattle.model.specs.Circuit.{memory_words, Sig, Values, level, element, array_at, Obeys}
use Rattle.model.specs.NetlistFile.{cells_of, net_of, finish_of}
use Rattle.model.specs.State.{flight_of, state_size, element_now, words_in}
use Rattle.model.specs.Calls.{Returned, ReturnedBoth, verdict, overwrite, compile_call, word_at, begin_call, continue_call, start_call, run_netlist_call, run_program_call, listed}
use Rattle.model.specs.RefusalPromises.{Leaves}
use Rattle.model.specs.CircuitPromises.{Holds, stops_at, NoStart, ended_if, whole_of}

-- "each call is a continuing by any N", or a start, given "by a call of its own"
pub data Request : Type 0 where
  continuing : ℕ → Request
  start : Request

-- the caller lends the first bytes of the state's buffer
pub record Call : Type 0 where
  pub request : Request
  pub lent : ℕ

unfoldable pub respond : Format → List ℕ → Request → List ℕ → Returned Answer
respond F file (continuing n) s = continue_call F file n s
respond F file start s = start_call F file s

-- calls that are answered so, "with that netlist and the state as the last call returned or left it": each answer, with the buffer afterwards
unfoldable pub replay_by : (Request → List ℕ → Returned Answer) → List ℕ → List Call → List (Returned Answer)
replay_by reply s [] = []
replay_by reply s (c ∷ cs) =
    let r = reply c.request (take c.lent s) in
    let s' = r.lent ++ drop c.lent s in
    record { answer = r.answer; lent = s' } ∷ replay_by reply s' cs

-- the calls on a netlist
abbrev pub replay : Format → List ℕ → List ℕ → List Call → List (Returned Answer)
replay F file s calls = replay_by (respond F file) s calls

-- what demand 3 tells of an answer
pub record Seen : Type 0 where
  pub outcome : Outcome
  pub instant : ℕ
  pub count : ℕ

abbrev pub seen : Outcome → ℕ → ℕ → Seen
seen o t n = record { outcome = o; instant = t; count = n }

abbrev pub seen_in : Answer → Seen
seen_in a = seen a.outcome a.instant a.count

abbrev pub seen_of : Returned Answer → Seen
seen_of r = seen_in r.answer

-- "a refused one evaluates and changes nothing"
abbrev pub refused_seen : ℕ → Seen
refused_seen k = seen (Outcome.Refused (record { number = k; place = 0 })) 0 0

-- where a list of calls stands: the last start pulse came at instant begun, the program has run from the words `from` since then, and the state is at
-- instant now
pub record Stand : Type 0 where
  pub begun : ℕ
  pub from : Store
  pub now : ℕ

abbrev pub stand : ℕ → Store → ℕ → Stand
stand a σ t = record { begun = a; from = σ; now = t }

-- runs of the program by its own rules: how one stands, from these words and within so many instants; and the words that a new run begins with, where
-- the last one ended with these: "the present words", or, of a functional circuit, "the start words, from which every start runs"
pub record Runs : Type 0 where
  pub within : Store → ℕ → Run
  pub anew : Store → Store

-- the run of a stand, "counted from that pulse": how it is at instant t, and whether a finish is due then
abbrev pub run_at : Runs → Stand → ℕ → Run
run_at rules st t = rules.within st.from (t - st.begun)

-- "at each of which a finish is due": with pulses of w
unfoldable pub due_at : ℕ → Runs → Stand → ℕ → Bool
due_at w rules st t = shows_at w (t - st.begun) (run_at rules st t)

-- what a call tells, and where the list stands after it
pub record Next : Type 0 where
  pub tells : Seen
  pub after : Stand

-- "a refused one evaluates and changes nothing"
abbrev pub refuses : ℕ → Stand → Next
refuses k st = record { tells = refused_seen k; after = st }

-- a continuing by n: "it answers s, the count s − t, and ended exactly when a finish is due at s"
unfoldable pub after_continuing : ℕ → Runs → Stand → ℕ → Next
after_continuing w rules st n =
    let s = stops_at (due_at w rules st) st.now n in
    elim (ltb 1000000 (st.now + n)) [
      | true ↦ refuses 16 st
      | false ↦ record { tells = seen (ended_if (due_at w rules st s)) s (s - st.now); after = stand st.begun st.from s }
    ]

-- a start, by how the run stands: "23: start given while the number isn't 0", and "for w above 1 a second start waits for a low finish too"; else the
-- program "ends as a new run from the present words would, counted from that pulse", or as one from the words that `anew` tells. No accepted program
-- comes to an exit of a loop around it.
unfoldable pub pulsed : ℕ → Runs → Stand → Run → Next
pulsed w rules st (done at_end t σ) =
    let s = suc st.now in
    let fresh = stand s (rules.anew σ) s in
    elim (ltb 1 w && due_at w rules st st.now) [
      | true ↦ refuses 23 st
      | false ↦ record { tells = seen (ended_if (due_at w rules fresh s)) s 1; after = fresh }
    ]
pulsed w rules st (done at_exit t σ) = refuses 23 st
pulsed w rules st still = refuses 23 st

-- "refusal 16 counts its instant"
unfoldable pub after_start : ℕ → Runs → Stand → Next
after_start w rules st =
    elim (ltb 1000000 (st.now + 1)) [ true ↦ refuses 16 st | false ↦ pulsed w rules st (run_at rules st st.now) ]

unfoldable pub after_request : ℕ → Runs → Stand → Request → Next
after_request w rules st (continuing n) = after_continuing w rules st n
after_request w rules st start = after_start w rules st

-- a call on a state of so many bytes: only 14, 16 and 23 can refuse it
unfoldable pub next : ℕ → Runs → ℕ → Stand → Call → Next
next w rules size st c = elim (ltb c.lent size) [ true ↦ refuses 14 st | false ↦ after_request w rules st c.request ]

-- what calls tell, from the ends of the runs and the numbers asked for alone, and where the list stands after each
unfoldable pub expected : ℕ → Runs → ℕ → Stand → List Call → List Seen
expected w rules size st [] = []
expected w rules size st (c ∷ cs) = (next w rules size st c).tells ∷ expected w rules size (next w rules size st c).after cs

unfoldable pub stands : ℕ → Runs → ℕ → Stand → List Call → List Stand
stands w rules size st [] = []
stands w rules size st (c ∷ cs) = (next w rules size st c).after ∷ stands w rules size (next w rules size st c).after cs

-- the instants of the start pulses
unfoldable pub starts_of : List Stand → Sig
starts_of [] t = false
starts_of (st ∷ sts) t = eqb st.begun t || starts_of sts t

-- R holds of every call of a list, with where the list stands after it
abbrev pub Along : (Stand → Returned Answer → Type 0) → List Stand → List (Returned Answer) → Type 0
Along R [] [] = Unit {0}
Along R [] (r ∷ rs) = ⊥
Along R (st ∷ sts) [] = ⊥
Along R (st ∷ sts) (r ∷ rs) = R st r × Along R sts rs

-- the memories of a buffer show these words, and so do its elements: "last contents, in demand 3 too, include them, as the state shows them"
abbrev pub ShowsWords : Format → List ℕ → List ℕ → Store → Type 0
ShowsWords F file s σ = (words_in F (cells_of file) 0 s ≡ listed σ 0 16) × (listed (element_now F (net_of file) s) 0 256 ≡ listed σ 16 256)

-- the values W of memories and elements at instant t are these words
pub record HasWords (net : List Cell) (words : Store) (W : Values) (t : ℕ) (σ : Store) : Type 0 where
  pub memories : memory_words net 0 (λ k. W k t) ≡ listed σ 0 16
  pub elements : (k i : ℕ) → k < 4 → i < 64 → element net words W (array_at net k) i t ≡ σ (element_word k i)

-- the circuit's values W, where the list stands at st, as long as no other start pulse comes; and the buffer that a call has left there
pub record Behaves (F : Format) (w : ℕ) (P : Stmt) (σ : Store) (file : List ℕ) (rules : Runs) (starts : Sig) (W : Values) (st : Stand) (r : Returned Answer)
    : Type 0 where
  -- the run is "from the present words"
  pub begins : HasWords (cells_of file) σ W st.begun st.from
  -- the finish wire "rises once, at the program's end, and stays up w instants": it is high exactly when a finish is due
  pub finishes : (t : ℕ) → st.begun ≤ t → NoStart starts st.begun t → level W (finish_of file) t ≡ due_at w rules st t
  -- from then on the words are its last ones
  pub lasts : (t₀ : ℕ) (σ' : Store) → Ends (imperative w) P st.from t₀ σ' → (t : ℕ) → st.begun + t₀ ≤ t → NoStart starts st.begun t
      → HasWords (cells_of file) σ W t σ'
  -- where the run has no end up to an instant, nobody has seen a finish of it by then
  pub endless : (t : ℕ) → st.begun ≤ t → ((t₀ : ℕ) (σ' : Store) → Ends (imperative w) P st.from t₀ σ' → st.begun + t₀ ≤ t → ⊥)
      → level W (finish_of file) t ≡ false
  -- the buffer holds the values of the instant at which it stands
  pub buffer : Holds F (net_of file) σ W st.now r.lent
  -- "The words at an instant, as an answer shows them, are the memories'", before the end too
  pub answered : verdict r.answer.outcome ≡ Accepted → r.answer.words ≡ memory_words (cells_of file) 0 (λ k. W k st.now)

-- what a call's answer and the buffer tell of the run
pub record Tells (F : Format) (w : ℕ) (P : Stmt) (file : List ℕ) (st : Stand) (r : Returned Answer) : Type 0 where
  -- the number is not 0 before the run's end, and it is 0 from where a start may be given on
  pub number : flight_of r.lent ≡ 0 → (t₀ : ℕ) × (σ' : Store) × Ends (imperative w) P st.from t₀ σ' × (st.begun + t₀ ≤ st.now)
  pub idle : (t₀ : ℕ) (σ' : Store) → Ends (imperative w) P st.from t₀ σ' → st.begun + t₀ + gap w ≤ suc st.now → flight_of r.lent ≡ 0
  -- with w of 1 that is the end itself: the number is 0 exactly from the run's end on
  pub exact : w ≡ 1
      → (flight_of r.lent ≡ 0) ↔ ((t₀ : ℕ) × (σ' : Store) × Ends (imperative w) P st.from t₀ σ' × (st.begun + t₀ ≤ st.now))
  -- and from then on the words are its last ones, in the buffer and in the answer of a call that was not refused
  pub words : (t₀ : ℕ) (σ' : Store) → Ends (imperative w) P st.from t₀ σ' → st.begun + t₀ ≤ st.now
      → ShowsWords F file r.lent σ' × (verdict r.answer.outcome ≡ Accepted → r.answer.words ≡ listed σ' 0 16)
  -- where it has no end up to now the answer doesn't say ended
  pub endless : ((t₀ : ℕ) (σ' : Store) → Ends (imperative w) P st.from t₀ σ' → st.begun + t₀ ≤ st.now → ⊥) → r.answer.outcome ≡ Ended → ⊥

-- where a call was refused, the buffer is as it was before
abbrev pub Unchanged : List ℕ → List (Returned Answer) → Type 0
Unchanged s [] = Unit {0}
Unchanged s (r ∷ rs) = Leaves (verdict r.answer.outcome) s r.lent × Unchanged r.lent rs

-- One statement about a beginning and a whole list of continuings and starts: P is the statement that the program means, w its pulse length, σ
-- its start words.
pub record Keeps (F : Format) (w : ℕ) (P : Stmt) (σ : Store) (file : List ℕ) (begun : Returned Answer) (calls : List Call) : Type 0 where
  -- how runs of the program stand, by its own rules
  pub rules : Runs
  pub decides : (τ : Store) (k t : ℕ) (τ' : Store) → (rules.within τ k ≡ ended t τ') ↔ ((t ≤ k) × Ends (imperative w) P τ t τ')
  -- a new run is "from the present words"
  pub present : (τ : Store) → rules.anew τ ≡ τ
  -- "the finish wire rises once, at the program's end": an end is the only one, and so are its words
  pub once : (τ : Store) (t₁ t₂ : ℕ) (σ₁ σ₂ : Store) → Ends (imperative w) P τ t₁ σ₁ → Ends (imperative w) P τ t₂ σ₂ → (t₁ ≡ t₂) × (σ₁ ≡ σ₂)
  -- "and stays up w instants, at each of which a finish is due": at these, and at no other
  pub due : (st : Stand) (t : ℕ) → st.begun ≤ t → (due_at w rules st t ≡ true)
      ↔ ((t₀ : ℕ) × (σ' : Store) × Ends (imperative w) P st.from t₀ σ' × (st.begun + t₀ ≤ t) × (t < st.begun + t₀ + w))
  -- each answer follows from the ends of these runs and the numbers asked for
  pub outcomes :
      map seen_of (begun ∷ replay F file begun.lent calls)
      ≡ seen (ended_if (due_at w rules (stand 0 σ 0) 0)) 0 1 ∷ expected w rules (state_size F (net_of file)) (stand 0 σ 0) calls
  pub tells :
      let sts = stand 0 σ 0 ∷ stands w rules (state_size F (net_of file)) (stand 0 σ 0) calls in
      Along (Tells F w P file) sts (begun ∷ replay F file begun.lent calls)
  -- and so does what the circuit does with these start pulses
  pub circuit :
      let sts = stand 0 σ 0 ∷ stands w rules (state_size F (net_of file)) (stand 0 σ 0) calls in
      (W : Values) → Obeys (net_of file) (starts_of sts) σ W
      → Along (Behaves F w P σ file rules (starts_of sts) W) sts (begun ∷ replay F file begun.lent calls)
  -- a refused call leaves the buffer as it was
  pub unchanged : Unchanged begun.lent (replay F file begun.lent calls)

-- the full runs of budget n of a program and of its netlist, which have this list for their state: what they answer, and what they leave in each buffer
pub record FullRuns (file for_file : List ℕ) (begun : Returned Answer) (program_run : ℕ → ReturnedBoth) (netlist_run : ℕ → Returned Answer) : Type 0 where
  pub program_runs : (n : ℕ) → n ≤ 1000000 →
      let whole = whole_of begun.answer.outcome begun (continue_call Full file n begun.lent) in
      program_run n ≡ record { answer = whole.answer; netlist = overwrite file for_file; state = whole.lent }
  pub netlist_runs : (n : ℕ) → n ≤ 1000000 → netlist_run n ≡ whole_of begun.answer.outcome begun (continue_call Full file n begun.lent)

-- "A program is accepted when compiling gives its netlist. The list starts from the state that an unrefused beginning wrote for that netlist
-- and the start words", a full or a compact one. "Under every table that loads, finish and last words are the program's."
pub record Demand3 : Type 0 where
  pub lists : (F : Format) (options : Options) (program for_file words for_state : List ℕ) (calls : List Call) (n f : ℕ)
      → (compile_call options program for_file).answer ≡ Done n f →
      let file = take n (compile_call options program for_file).lent in
      let begun = begin_call F file words for_state in
      verdict begun.answer.outcome ≡ Accepted → Keeps F options.pulse (meaning (program_with options program)) (word_at words) file begun calls
  pub full_runs : (options : Options) (program for_file words for_state : List ℕ) (n f : ℕ) → (compile_call options program for_file).answer ≡ Done n f →
      let file = take n (compile_call options program for_file).lent in
      let begun = begin_call Full file words for_state in
      verdict begun.answer.outcome ≡ Accepted
      → FullRuns file for_file begun (λ k. run_program_call options program words k for_file for_state) (λ k. run_netlist_call file words k for_state)
