-- Full runs and reference runs of functional circuits: a full run answers as its calls do one after another, and as the reference run; that tells the end
-- that the rules give. With it the promise of functional circuits is whole.
-- Assumes nothing.
use Rattle.std.specs.Prelude.{◌≡◌, Bool, ℕ, ◌+◌, ◌<◌, ◌≤◌, length, take}
use Rattle.std.proofs.Math.Path.{refl, ap}
use Rattle.std.proofs.Common.{sym, ◌∙◌}
use Rattle.std.proofs.Math.Bool.{true, false}
use mathlib.Core.List.{List, [], ◌∷◌}
use native.Mathlib.Omega.{arith}
use Rattle.std.proofs.Math.Decide.{ℕ_discrete}
use Rattle.std.proofs.Math.Dec.{ltb}
use borrow.Author.Tests.{lt-ltb, le-ltb, ne_eqb}
use Rattle.model.specs.declared.Format.TheVariants.{Full}
use Rattle.model.specs.declared.Options.{Options}
use Rattle.model.specs.declared.Outcome.TheVariants.{Ended, Open}
use Rattle.model.specs.declared.Answer.{Answer}
use Rattle.model.specs.Word.{Bytes}
use Rattle.model.specs.Refusals.{first, Accepted}
use Rattle.model.specs.ProgramChecks.{check_functional}
use Rattle.model.specs.Program.{Stmt, program_of}
use Rattle.model.specs.Rules.{functional, Store, Ends, ended, still, run, shows_at, due, at_end}
use Rattle.model.specs.Circuit.{Netlist, Sig, Values, high, level, Obeys}
use Rattle.model.specs.NetlistFile.{cells_of, net_of, finish_of, last_words}
use Rattle.model.specs.State.{instant_of, Course, state_size, now_at, begin_state, continued}
use Rattle.model.specs.Calls.{Returned, verdict, check_call, word_at, shows, running, is_too_long, continue_checks, continue_call, full_state, full_count, run_netlist_call, listed, reference_answer, overwrite, writing}
use Rattle.model.specs.CircuitPromises.{stops_at, NoStart}
use Rattle.model.specs.RunPromises.{seen, seen_in, stand, Runs, due_at, stands, starts_of}
use Rattle.model.specs.CircuitPromises.{whole_of}
use Rattle.model.specs.ProgramPromises.{ended_answer, open_answer}
use Rattle.model.specs.FunctionalCalls.{statement_of, functional_file, compile_functional_call, reference_functional_checks, reference_functional_call, last_checks, begin_functional_call, continue_functional_call, run_functional_call, retold, run_functional_program_call}
use Rattle.model.specs.FunctionalPromises.{FunctionalRuns, Functional}
use Rattle.laws.specs.Refusals.Laws.{by_bool, all-accept}
use Rattle.laws.specs.Program.Fit.{Timed, exits}
use Rattle.laws.specs.Program.Admitted.{program-admitted, meaning-timed, meaning-closed}
use Rattle.laws.specs.Rules.Laws.{by_runs, steady, still_before, still-below}
use Rattle.laws.specs.Rules.Uses.{never-leaves}
use Rattle.laws.specs.State.Continuing.{full-free}
use Rattle.laws.specs.Functional.Accepted.{table_alone, also-accepted}
use Rattle.theory.specs.Rules.Relation.{run_ends, ends-run}
use Rattle.theory.specs.Circuit.Exists.{solution, solution-obeys}
use Rattle.theory.specs.State.Holding.{Holding}
use Rattle.theory.specs.State.Sound.{sound-held}
use Rattle.theory.specs.State.Running.{continues}
use Rattle.theory.specs.Promises.Stands.{Given, given-first}
use Rattle.theory.specs.Promises.Replay.{OfFile, accepted-going, checked}
use Rattle.theory.specs.Promises.Behaves.{open-no-end}
use Rattle.theory.specs.Promises.FullRuns.{stops_end, stops-never}
use Rattle.theory.specs.Promises.Reference.{answered, accepted-open, accepted-ended}
use Rattle.theory.specs.Functional.Promise.{table-accepted, program-accepted, file-room, file-made, functional-file, shown_as, answer-in, keeps}
use Rattle.theory.specs.Functional.Promise as promise

-- Full runs ----------------------------------------------------------------------------------------------------------------------------

module _ (options : Options) (program file words lent : List ℕ) (table : options.checked ≡ Accepted) (e : check_functional options program ≡ Accepted)
    (made : file ≡ functional_file program) (bytes : Bytes file) (word_bytes : Bytes words)
    (begun : verdict (begin_functional_call Full file words lent).answer.outcome ≡ Accepted) where
  abbrev Q : Stmt
  Q = statement_of program

  abbrev σ : Store
  σ = word_at words

  abbrev net : Netlist
  net = net_of file

  abbrev fin : ℕ
  fin = finish_of file

  abbrev rules : Runs
  rules = record { within = λ τ k. run functional k Q τ; anew = λ τ. σ }

  X : OfFile 1 file
  X = promise.X Full options program file words lent table e made bytes word_bytes begun

  timed : Timed Q
  timed = promise.timed Full options program file words lent table e made bytes word_bytes begun

  closed : exits Q ≡ false
  closed = promise.closed Full options program file words lent table e made bytes word_bytes begun

  checks : first (last_checks file) ≡ Accepted
  checks = promise.checks Full options program file words lent table e made bytes word_bytes begun

  abbrev state : List ℕ
  state = begin_state Full net σ lent

  abbrev on : ℕ → Course
  on n = continued Full net fin n state

  -- with no start but the beginning's
  abbrev starts : Sig
  starts = starts_of (stand 0 σ 0 ∷ stands 1 rules (state_size Full net) (stand 0 σ 0) [])

  abbrev W : Values
  W = solution net starts σ

  obeys : Obeys net starts σ W
  obeys = solution-obeys net starts σ X.ordered

  given : Given 1 rules (state_size Full net) starts (stand 0 σ 0) []
  given = given-first 1 rules (state_size Full net) σ []

  pulse : starts 0 ≡ true
  unfolding starts_of stands
  pulse = refl

  holds : Holding Full net σ W 0 state
  holds = promise.holding Full options program file words lent table e made bytes word_bytes begun starts W obeys [] given pulse

  long : state_size Full net ≤ length state
  long = promise.long Full options program file words lent table e made bytes word_bytes begun starts W obeys [] given pulse

  alone : (t : ℕ) → NoStart starts 0 t
  unfolding starts_of stands
  alone t u l k = rw (ne_eqb 0 u (λ e. omega arith)) refl

  finishes : (u : ℕ) → level W fin u ≡ due functional 1 Q σ u
  unfolding due_at due
  finishes u =
      promise.first-due Full options program file words lent table e made bytes word_bytes begun starts W obeys [] given pulse u (alone u)
      ∙ ap (due functional 1 Q σ) (omega arith)

  abbrev whole : ℕ → Answer
  whole n = shown_as Full file (full_state file words n lent) (full_count file words n lent)

  continue-is : (n : ℕ) → n ≤ 1000000 → continue_functional_call Full file n state ≡ record { answer = shown_as Full file (on n).state (on n).count; lent = (on n).state }
  continue-is n l =
      answer-in Full file checks state (on n).state (on n).count (continue_call Full file n state)
      (unfold continue_call in
      accepted-going Full (first (continue_checks Full file n state)) file (on n) state
      (checked Full file X.accepted (unfold is_too_long in refl) n state [] false true false (le-ltb (length state) (state_size Full net) long)
      (sound-held Full net X.ordered starts σ W obeys 0 state holds)
      (le-ltb 1000000 (instant_of state + n) (rw (holds.instant (omega arith)) (omega arith))))
      (full-free net fin n state))

  abbrev left : ℕ → List ℕ
  left n = full_state file words n lent

  run_is : (n : ℕ) → n ≤ 1000000 → run_functional_call file words n lent ≡ record { answer = whole n; lent = left n }
  run_is n l =
      (answer-in Full file checks lent (full_state file words n lent) (full_count file words n lent) (run_netlist_call file words n lent)
      (unfold run_netlist_call running in
      rw (X.accepted, le-ltb 1000000 n l, promise.words-fit Full options program file words lent table e made bytes word_bytes begun, le-ltb (length lent) (state_size Full net) (promise.room Full options program file words lent table e made bytes word_bytes begun))))

  program-is : (for_file : List ℕ) → ltb (length for_file) (length (functional_file program)) ≡ false → (n : ℕ) → n ≤ 1000000
      → run_functional_program_call options program words n for_file lent ≡ record { answer = whole n; netlist = overwrite file for_file; state = left n }
  unfolding run_functional_program_call running retold writing
  program-is for_file fits n l =
      let roomy : ltb (length lent) (state_size Full net) ≡ false = le-ltb (length lent) (state_size Full net) (promise.room Full options program file words lent table e made bytes word_bytes begun) in
      rw (e, table, ← made, le-ltb 1000000 n l, promise.words-fit Full options program file words lent table e made bytes word_bytes begun, rw (← made) at fits, roomy)

  last-is : (n : ℕ) → n ≤ 1000000
      → record { answer = whole n; lent = left n }
      ≡ whole_of (begin_functional_call Full file words lent).answer.outcome (begin_functional_call Full file words lent) (continue_functional_call Full file n (begin_functional_call Full file words lent).lent)
  unfolding full_state full_count shows whole_of
  last-is n l =
      rw (promise.begin-is Full options program file words lent table e made bytes word_bytes begun, continue-is n l) (by_bool (high (now_at Full state fin)) (λ z. rw (z, z) refl) (λ z. rw z refl))

  -- where the rules end within the budget
  module _ (n t : ℕ) (l : n ≤ 1000000) (σ' : Store) (p : run functional n Q σ ≡ ended t σ') where
    steadily : (t ≤ n) × ((k : ℕ) → t ≤ k → run functional k Q σ ≡ ended t σ')
    steadily = steady functional Q timed σ n at_end t σ' p

    low-before : (u : ℕ) → u < t → level W fin u ≡ false
    unfolding due shows_at
    low-before u x =
        finishes u ∙ ap (shows_at 1 u) (still_before (λ k. run functional k Q σ) (steady functional Q timed σ) n at_end t u σ' p x)

    high-at : level W fin t ≡ true
    unfolding due shows_at
    high-at = finishes t ∙ ap (shows_at 1 t) (steadily.1 t (omega arith)) ∙ lt-ltb t (t + 1) (omega arith)

    -- the words of a state at the end, and its answer
    last : (s : List ℕ) → Holding Full net σ W t s → last_words (cells_of file) (now_at Full s) 0 16 ≡ listed σ' 0 16
    last = promise.first-shown Full options program file words lent table e made bytes word_bytes begun starts W obeys [] given pulse t (alone t) t σ' (run_ends functional Q n σ t σ' p) (omega arith)

    told-end : (s : List ℕ) (m : ℕ) → Holding Full net σ W t s → m ≡ t + 1 → shown_as Full file s m ≡ ended_answer t σ'
    unfolding shows
    told-end s m H e =
        rw (e, last s H, H.instant (omega (arith, steadily.0)), H.body.present fin X.wire, high-at)

    agrees : whole n ≡ ended_answer t σ'
    unfolding full_state full_count
    agrees = go (ℕ_discrete t 0)
      where
        begins : (b : Bool) → level W fin 0 ≡ b → high (now_at Full state fin) ≡ b
        begins b e = ap high (holds.body.present fin X.wire) ∙ e

        go : Dec (t ≡ 0) → whole n ≡ ended_answer t σ'
        go (yes e) = rw (begins true (rw e at high-at)) (told-end state 1 (rw e holds) (omega arith))
        go (no x) =
            let C = continues Full net X.ordered starts σ W obeys fin X.wire n 0 state holds long (alone _) tt in
            let z : stops_at (level W fin) 0 n ≡ t = stops_end (level W fin) t low-before high-at n 0 (omega arith) (omega (arith, steadily.0)) in
            rw (begins false (low-before 0 (omega arith))) (told-end (on n).state _ (rw z at C.holding) (omega (arith, C.count, z)))

  -- where they do not, the full run is open at the budget's end
  module _ (n : ℕ) (l : n ≤ 1000000) (p : run functional n Q σ ≡ still) where
    low : (u : ℕ) → u ≤ n → level W fin u ≡ false
    unfolding due shows_at
    low u g = finishes u ∙ ap (shows_at 1 u) (still-below (λ k. run functional k Q σ) (steady functional Q timed σ) n u p g)

    stays_open : seen_in (whole n) ≡ seen Open n (n + 1)
    unfolding full_state full_count shows
    stays_open =
        let C = continues Full net X.ordered starts σ W obeys fin X.wire n 0 state holds long (alone _) tt in
        let z : stops_at (level W fin) 0 n ≡ n = stops-never (level W fin) n 0 (λ u a b. low u (omega arith)) ∙ omega arith in
        let H : Holding Full net σ W n (on n).state = rw z at C.holding in
        let begins : high (now_at Full state fin) ≡ false = ap high (holds.body.present fin X.wire) ∙ low 0 (omega arith) in
        let e : 1 + (on n).count ≡ n + 1 = omega (arith, C.count, z) in
        rw (begins, e, H.instant l, H.body.present fin X.wire, low n (omega arith))

  pub full_runs : (for_file : List ℕ) → ltb (length for_file) (length (functional_file program)) ≡ false
      → FunctionalRuns Q σ file for_file (begin_functional_call Full file words lent) (λ k. run_functional_program_call options program words k for_file lent)
      (λ k. run_functional_call file words k lent)
  full_runs for_file fits =
      record {
        alike = λ n l.
            program-is for_file fits n l
            ∙ ap (λ (r : Returned Answer). record { answer = r.answer; netlist = overwrite file for_file; state = r.lent }) (sym (run_is n l));
        runs = λ n l. run_is n l ∙ last-is n l;
        ends = λ n t σ' l E o. ap (λ (r : Returned Answer). r.answer) (run_is n l) ∙ agrees n t l σ' (ends-run functional Q timed σ t σ' E n o);
        goes_on = λ n l never.
            ap (λ (r : Returned Answer). seen_in r.answer) (run_is n l)
            ∙ by_runs (run functional n Q σ)
            (λ t σ' p. absurd (never t σ' (run_ends functional Q n σ t σ' p) (steady functional Q timed σ n at_end t σ' p).0))
            (λ t σ' p. never-leaves functional Q closed n t σ σ' p) (λ p. stays_open n l p);
      }

-- Reference runs -----------------------------------------------------------------------------------------------------------------------

module _ (options : Options) (program words : List ℕ) (n : ℕ) (answered-so : verdict (reference_functional_call options program words n).outcome ≡ Accepted) where
  abbrev P : Stmt
  P = statement_of program

  abbrev τ : Store
  τ = word_at words

  called : (first (reference_functional_checks options program words n) ≡ Accepted)
      × (reference_functional_call options program words n ≡ reference_answer n (run functional n P τ))
  unfolding reference_functional_call
  called = answered (first (reference_functional_checks options program words n)) (reference_answer n (run functional n P τ)) answered-so

  also : check_call (table_alone options) program ≡ Accepted
  also =
      also-accepted options program (all-accept (reference_functional_checks options program words n) called.0 0)
      (all-accept (reference_functional_checks options program words n) called.0 1)

  in_order : Timed P
  in_order = meaning-timed (program_of 1 0 program) (program-admitted (table_alone options) program also)

  shut : exits P ≡ false
  shut = meaning-closed (program_of 1 0 program) (program-admitted (table_alone options) program also)

  pub reference-ends : (t : ℕ) (σ' : Store) → Ends functional P τ t σ' → t ≤ n → reference_functional_call options program words n ≡ ended_answer t σ'
  unfolding reference_answer
  reference-ends t σ' E l = called.1 ∙ ap (reference_answer n) (ends-run functional P in_order τ t σ' E n l)

  pub reference-ended : (reference_functional_call options program words n).outcome ≡ Ended → (t : ℕ) × (σ' : Store) × (t ≤ n) × Ends functional P τ t σ'
  unfolding reference_answer
  reference-ended e =
      by_runs (run functional n P τ) (λ t σ' p. (t, σ', (steady functional P in_order τ n at_end t σ' p).0, run_ends functional P n τ t σ' p))
      (λ t σ' p. never-leaves functional P shut n t τ σ' p)
      (λ p. absurd (open-no-end (sym (ap (λ (a : Answer). a.outcome) (called.1 ∙ ap (reference_answer n) p)) ∙ e)))

  pub reference-open : (reference_functional_call options program words n).outcome ≡ Open
      → (reference_functional_call options program words n ≡ open_answer n) × ((t : ℕ) (σ' : Store) → Ends functional P τ t σ' → t ≤ n → ⊥)
  unfolding reference_answer
  reference-open e = (
    by_runs (run functional n P τ) (λ t σ' p. absurd (open-no-end (sym e ∙ ap (λ (a : Answer). a.outcome) (called.1 ∙ ap (reference_answer n) p))))
        (λ t σ' p. never-leaves functional P shut n t τ σ' p) (λ p. called.1 ∙ ap (reference_answer n) p),
    λ t σ' E l. open-no-end (sym e ∙ ap (λ (a : Answer). a.outcome) (reference-ends t σ' E l)),
  )

-- The promise --------------------------------------------------------------------------------------------------------------------------

pub functional-demand : Functional
functional-demand =
    record {
      compiled = λ options program for_file n f bytes done. functional-file options program for_file n f done bytes;
      lists = λ F options program for_file words for_state calls n f done bytes word_bytes begun.
          keeps F options program (take n (compile_functional_call options program for_file).lent) words for_state (table-accepted options program for_file n f done)
          (program-accepted options program for_file n f done) (file-made options program for_file n f done) bytes word_bytes begun calls;
      full_runs = λ options program for_file words for_state n f done bytes word_bytes begun.
          full_runs options program (take n (compile_functional_call options program for_file).lent) words for_state (table-accepted options program for_file n f done)
          (program-accepted options program for_file n f done) (file-made options program for_file n f done) bytes word_bytes begun for_file (file-room options program for_file n f done);
      ends = λ options program words n t σ' v. reference-ends options program words n v t σ';
      ended = λ options program words n e. reference-ended options program words n (ap verdict e ∙ accepted-ended) e;
      still_open = λ options program words n e. reference-open options program words n (ap verdict e ∙ accepted-open) e;
    }
