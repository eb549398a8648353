-- Full runs, on a full state: a full run answers as its calls do one after another, and a full run and a reference run agree.
-- Assumes nothing.
use Rattle.std.specs.Prelude.{◌≡◌, Bool, true, ℕ, zero, suc, ◌+◌, ◌<◌, ◌≤◌, length}
use Rattle.std.proofs.Math.Path.{refl, ap, subst, ap₂}
use Rattle.std.proofs.Common.{sym, ◌∙◌}
use Rattle.std.proofs.Math.Bool.{false}
use mathlib.Core.List.{List, []}
use native.Mathlib.Omega.{arith}
use Rattle.std.proofs.Math.Decide.{ℕ_discrete}
use Rattle.std.proofs.Math.Dec.{ltb}
use borrow.Author.Tests.{le-ltb, ne_eqb, lt-ltb}
use Rattle.model.specs.declared.Cell.{Cell}
use Rattle.model.specs.declared.Format.TheVariants.{Full}
use Rattle.model.specs.declared.Options.{Options}
use Rattle.model.specs.declared.Outcome.TheVariants.{Ended, Open}
use Rattle.model.specs.declared.Answer.{Answer}
use Rattle.model.specs.Word.{pick}
use Rattle.model.specs.Refusals.{first, Checked, Accepted}
use Rattle.model.specs.Program.{Stmt, Program}
use Rattle.model.specs.Procedures.{meaning}
use Rattle.model.specs.ProgramChecks.{program_with}
use Rattle.model.specs.Rules.{imperative, Store, ended, still, run, shows_at, due, at_end}
use Rattle.model.specs.Circuit.{Netlist, Sig, Values, high, level, Obeys}
use Rattle.model.specs.Numbering.{memory_at}
use Rattle.model.specs.NetlistFile.{cells_of, net_of, finish_of}
use Rattle.model.specs.State.{Course, state_size, now_at, begin_state, continued, words_in}
use Rattle.model.specs.Calls.{Returned, verdict, check_call, compiled_file, word_at, shows, running, begin_call, continue_call, full_state, full_count, run_netlist_call, run_program_checks, run_program_call, listed, reference_answer, overwrite, writing, ReturnedBoth}
use Rattle.model.specs.CircuitPromises.{stops_at, NoStart, whole_of}
use Rattle.model.specs.RunPromises.{seen, stand, Runs, due_at, stands, starts_of, FullRuns}
use Rattle.laws.specs.Refusals.Laws.{by_bool, first-drop}
use Rattle.laws.specs.Numbering.Parts.{net-length}
use Rattle.laws.specs.Program.Fit.{Timed}
use Rattle.laws.specs.Program.Admitted.{meaning-timed}
use Rattle.laws.specs.Rules.Laws.{steady, still_before, still-below}
use Rattle.theory.specs.Rules.Relation.{run_ends}
use Rattle.theory.specs.State.Holding.{Holding}
use Rattle.theory.specs.State.Running.{continues, stops-high, stops-low, stops-within}
use Rattle.theory.specs.Promises.Answers.{listed_same, memory-words}
use Rattle.theory.specs.Promises.Stands.{Given}
use Rattle.theory.specs.Promises.Replay.{no-refusal}
use Rattle.theory.specs.Promises.Served.{OfProgram}
use Rattle.theory.specs.Promises.Behaves.{shows-words, Stood, due-by, lasting}
use Rattle.theory.specs.Promises.Answering.{full-run}
use Rattle.theory.specs.Promises.Kept.{Begun, begins, stood, holding, long, starts, pulse, given, W, obeys}

-- Where a run stops --------------------------------------------------------------------------------------------------------------------

-- where t is the first instant at which a finish is due, a run from before t stops there
pub stops_end : (F : ℕ → Bool) (t : ℕ) → ((u : ℕ) → u < t → F u ≡ false) → F t ≡ true → (n a : ℕ) → a < t → t ≤ a + n → stops_at F a n ≡ t
stops_end F t low high zero a l m = absurd (omega arith)
stops_end F t low high (suc n) a l m = go (ℕ_discrete t (suc a)) (stops_end F t low high n (suc a))
  where
    go : Dec (t ≡ suc a) → (suc a < t → t ≤ suc a + n → stops_at F (suc a) n ≡ t) → stops_at F a (suc n) ≡ t
    go (yes e) on = stops-high F a n (subst (λ (u : ℕ). F u ≡ true) e high) ∙ sym e
    go (no x) on = stops-low F a n (low (suc a) (omega arith)) ∙ on (omega arith) (omega arith)

-- where none is due, it goes on to the last instant
pub stops-never : (F : ℕ → Bool) (n a : ℕ) → ((u : ℕ) → a < u → u ≤ a + n → F u ≡ false) → stops_at F a n ≡ a + n
unfolding stops_at
stops-never F zero a h = omega arith
stops-never F (suc n) a h =
    stops-low F a n (h (suc a) (omega arith) (omega arith)) ∙ stops-never F n (suc a) (λ u l k. h u (omega arith) (omega arith)) ∙ omega arith

-- Full runs ----------------------------------------------------------------------------------------------------------------------------

module _ (options : Options) (program file words lent : List ℕ) (accepted : check_call options program ≡ Accepted) (e : file ≡ compiled_file options program)
    (begun : verdict (begin_call Full file words lent).answer.outcome ≡ Accepted) where
  abbrev S : Program
  S = program_with options program

  pub B : Begun Full S file words lent
  B = begins Full options program file words lent accepted e begun

  abbrev X : OfProgram S file
  X = B.of_program

  abbrev P : Stmt
  P = meaning S

  timed : Timed P
  timed = meaning-timed S X.admitted

  abbrev σ : Store
  σ = word_at words

  abbrev w : ℕ
  w = S.pulse

  abbrev net : Netlist
  net = net_of file

  abbrev fin : ℕ
  fin = finish_of file

  abbrev rules : Runs
  rules = record { within = λ τ k. run (imperative S.pulse) k P τ; anew = λ τ. τ }

  abbrev state : List ℕ
  state = begin_state Full net σ lent

  abbrev on : ℕ → Course
  on n = continued Full net fin n state

  -- with no start but the beginning's
  abbrev pub starts₁ : Sig
  starts₁ = starts Full S file words lent B []

  abbrev pub W₁ : Values
  W₁ = W Full S file words lent B []

  pub obeys₁ : Obeys net starts₁ σ W₁
  obeys₁ = obeys Full S file words lent B []

  given₁ : Given w rules (state_size Full net) starts₁ (stand 0 σ 0) []
  given₁ = given Full S file words lent B []

  pulse₁ : starts₁ 0 ≡ true
  pulse₁ = pulse Full S file words lent B []

  first-stood : Stood Full S file X starts₁ σ W₁ obeys₁ (stand 0 σ 0) []
  first-stood = stood Full S file words lent B starts₁ W₁ obeys₁ [] given₁ pulse₁

  first_holds : Holding Full net σ W₁ 0 state
  first_holds = holding Full S file words lent B starts₁ W₁ obeys₁ [] given₁ pulse₁

  first-long : state_size Full net ≤ length state
  first-long = long Full S file words lent B starts₁ W₁ obeys₁ [] given₁ pulse₁

  alone : (t : ℕ) → NoStart starts₁ 0 t
  unfolding starts_of stands
  alone t u l k = rw (ne_eqb 0 u (λ e. omega arith)) refl

  finishes : (u : ℕ) → level W₁ fin u ≡ due (imperative S.pulse) w P σ u
  unfolding due_at due
  finishes u = due-by Full S file X starts₁ σ W₁ obeys₁ (stand 0 σ 0) [] first-stood u (omega arith) (alone u) ∙ ap (due (imperative S.pulse) w P σ) (omega arith)

  -- a full run
  pub whole_run : ℕ → Answer
  whole_run n = shows Full file (full_state file words n lent) (full_count file words n lent)

  -- what it leaves in its state
  abbrev left : ℕ → List ℕ
  left n = full_state file words n lent

  netlist-run : (n : ℕ) → n ≤ 1000000 → run_netlist_call file words n lent ≡ record { answer = whole_run n; lent = left n }
  unfolding run_netlist_call running whole_run
  netlist-run n l = rw (X.of_file.accepted, le-ltb 1000000 n l, B.words-fit, B.state-fits)

  whole_is : (n : ℕ) → n ≤ 1000000 → run_netlist_call file words n lent
      ≡ whole_of (begin_call Full file words lent).answer.outcome (begin_call Full file words lent) (continue_call Full file n (begin_call Full file words lent).lent)
  unfolding whole_run shows
  whole_is n l =
      full-run file words lent n
      (ap (λ (r : Returned Answer). verdict r.answer.outcome) (netlist-run n l) ∙ no-refusal (high (now_at Full (left n) fin)))

  program_runs : (for_file : List ℕ) → ltb (length for_file) (length (compiled_file options program)) ≡ false → (n : ℕ) → n ≤ 1000000
      → run_program_call options program words n for_file lent ≡ record { answer = whole_run n; netlist = overwrite file for_file; state = left n }
  unfolding run_program_call running writing whole_run check_call
  program_runs for_file fits n l =
      let room : ltb (length lent) (state_size Full (net_of (compiled_file options program))) ≡ false =
      subst (λ (s : List ℕ). ltb (length lent) (state_size Full (net_of s)) ≡ false) e B.state-fits in
      let checks : first (run_program_checks options program words n for_file lent) ≡ Accepted =
      first-drop 2 (run_program_checks options program words n for_file lent) accepted ∙ rw (le-ltb 1000000 n l, B.words-fit, fits, room) refl in
      ap₂
      (λ (c : Checked) (s : List ℕ).
      let r = running Full c s (full_state s words n lent) (full_count s words n lent) lent in
      record { answer = r.answer; netlist = (writing c s (length s) 0 for_file).lent; state = r.lent })
      checks (sym e)

  pub program-run : (for_file : List ℕ) → ltb (length for_file) (length (compiled_file options program)) ≡ false → (n : ℕ) → n ≤ 1000000
      → (run_program_call options program words n for_file lent).answer ≡ whole_run n
  program-run for_file fits n l = ap (λ (r : ReturnedBoth). r.answer) (program_runs for_file fits n l)

  pub full_runs : (for_file : List ℕ) → ltb (length for_file) (length (compiled_file options program)) ≡ false
      → FullRuns file for_file (begin_call Full file words lent) (λ k. run_program_call options program words k for_file lent) (λ k. run_netlist_call file words k lent)
  full_runs for_file fits =
      record {
        program_runs = λ n l.
            program_runs for_file fits n l
            ∙ ap (λ (r : Returned Answer). record { answer = r.answer; netlist = overwrite file for_file; state = r.lent }) (sym (netlist-run n l) ∙ whole_is n l);
        netlist_runs = whole_is;
      }

  -- By the values: it answers what they are at the instant at which it stops
  abbrev stop : ℕ → ℕ
  stop n = pick (level W₁ fin 0) 0 (stops_at (level W₁ fin) 0 n)

  abbrev values_at : ℕ → Answer
  values_at t = record { outcome = pick (level W₁ fin t) Ended Open; instant = t; count = t + 1; words = listed (λ x. W₁ (memory_at S + x) t) 0 16 }

  told-values : (s : List ℕ) (m t : ℕ) → t ≤ 1000000 → Holding Full net σ W₁ t s → m ≡ t + 1 → shows Full file s m ≡ values_at t
  unfolding shows
  told-values s m t l H e =
      let words : words_in Full (cells_of file) 0 s ≡ listed (λ x. W₁ (memory_at S + x) t) 0 16 =
      ap (λ (cs : List Cell). words_in Full cs 0 s) X.cells_are
      ∙ memory-words S X.sixteen (now_at Full s)
      ∙ listed_same _ _ 0 16 (λ x a b. H.body.present (memory_at S + x) (rw X.cells_are (omega (arith, net-length S)))) in
      rw (e, words, H.instant l, H.body.present fin X.of_file.wire)

  pub run-values : (n : ℕ) → n ≤ 1000000 → whole_run n ≡ values_at (stop n)
  unfolding whole_run full_state full_count
  run-values n l =
      let begins : high (now_at Full state fin) ≡ level W₁ fin 0 = ap high (first_holds.body.present fin X.of_file.wire) in
      by_bool (level W₁ fin 0)
      (λ z. rw (begins ∙ z, z) (told-values state 1 0 (omega arith) first_holds (omega arith)))
      (λ z.
      let C = continues Full net X.of_file.ordered starts₁ σ W₁ obeys₁ fin X.of_file.wire n 0 state first_holds first-long (alone _) tt in
      let b : stops_at (level W₁ fin) 0 n ≤ n = omega (arith, stops-within (level W₁ fin) n 0) in
      rw (begins ∙ z, z) (told-values (on n).state _ (stops_at (level W₁ fin) 0 n) (omega (arith, b)) C.holding (omega (arith, C.count))))

  -- A full run and a reference run agree -----------------------------------------------------------------------------------------------

  -- where the rules end within the budget, they give the same answer
  module _ (n t : ℕ) (l : n ≤ 1000000) (σ' : Store) (p : run (imperative S.pulse) n P σ ≡ ended t σ') where
    steadily : (t ≤ n) × ((k : ℕ) → t ≤ k → run (imperative S.pulse) k P σ ≡ ended t σ')
    steadily = steady (imperative S.pulse) P timed σ n at_end t σ' p

    -- the finish rises at the end
    low-before : (u : ℕ) → u < t → level W₁ fin u ≡ false
    unfolding due shows_at
    low-before u x = finishes u ∙ ap (shows_at w u) (still_before (λ k. run (imperative S.pulse) k P σ) (steady (imperative S.pulse) P timed σ) n at_end t u σ' p x)

    high-at : level W₁ fin t ≡ true
    unfolding due shows_at
    high-at = finishes t ∙ ap (shows_at w t) (steadily.1 t (omega arith)) ∙ lt-ltb t (t + w) (omega (arith, X.admitted.pulse.0))

    -- the words of a state at the end
    last : (s : List ℕ) → Holding Full net σ W₁ t s → words_in Full (cells_of file) 0 s ≡ listed σ' 0 16
    last s H =
        (shows-words Full S file X starts₁ σ W₁ obeys₁ t σ'
        (lasting Full S file X starts₁ σ W₁ obeys₁ (stand 0 σ 0) [] first-stood t σ' (run_ends (imperative S.pulse) P n σ t σ' p) t (omega arith) (alone t)) s H
        ).0

    -- its answer
    told-end : (s : List ℕ) (m : ℕ) → Holding Full net σ W₁ t s → m ≡ t + 1 → shows Full file s m ≡ reference_answer n (ended t σ')
    unfolding shows reference_answer
    told-end s m H e =
        rw (e, last s H, H.instant (omega (arith, steadily.0)), H.body.present fin X.of_file.wire, high-at)

    pub agrees : whole_run n ≡ reference_answer n (ended t σ')
    unfolding whole_run full_state full_count
    agrees = go (ℕ_discrete t 0)
      where
        begins : (b : Bool) → level W₁ fin 0 ≡ b → high (now_at Full state fin) ≡ b
        begins b e = ap high (first_holds.body.present fin X.of_file.wire) ∙ e

        go : Dec (t ≡ 0) → whole_run n ≡ reference_answer n (ended t σ')
        go (yes e) = rw (begins true (subst (λ (u : ℕ). level W₁ fin u ≡ true) e high-at)) (told-end state 1 (rw e first_holds) (omega arith))
        go (no x) =
            let C = continues Full net X.of_file.ordered starts₁ σ W₁ obeys₁ fin X.of_file.wire n 0 state first_holds first-long (alone _) tt in
            let z : stops_at (level W₁ fin) 0 n ≡ t = stops_end (level W₁ fin) t low-before high-at n 0 (omega arith) (omega (arith, steadily.0)) in
            rw (begins false (low-before 0 (omega arith))) (told-end (on n).state _ (rw z at C.holding) (omega (arith, C.count, z)))

  -- where they do not, the full run is open at the budget's end
  module _ (n : ℕ) (l : n ≤ 1000000) (p : run (imperative S.pulse) n P σ ≡ still) where
    low : (u : ℕ) → u ≤ n → level W₁ fin u ≡ false
    unfolding due shows_at
    low u g = finishes u ∙ ap (shows_at w u) (still-below (λ k. run (imperative S.pulse) k P σ) (steady (imperative S.pulse) P timed σ) n u p g)

    pub stays_open : seen (whole_run n).outcome (whole_run n).instant (whole_run n).count ≡ seen Open n (n + 1)
    unfolding whole_run full_state full_count shows
    stays_open =
        let C = continues Full net X.of_file.ordered starts₁ σ W₁ obeys₁ fin X.of_file.wire n 0 state first_holds first-long (alone _) tt in
        let z : stops_at (level W₁ fin) 0 n ≡ n = stops-never (level W₁ fin) n 0 (λ u a b. low u (omega arith)) ∙ omega arith in
        let H : Holding Full net σ W₁ n (on n).state = rw z at C.holding in
        let begins : high (now_at Full state fin) ≡ false = ap high (first_holds.body.present fin X.of_file.wire) ∙ low 0 (omega arith) in
        let e : 1 + (on n).count ≡ n + 1 = omega (arith, C.count, z) in
        rw (begins, e, H.instant l, H.body.present fin X.of_file.wire, low n (omega arith))
