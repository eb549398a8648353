-- Gates that take their time: the slow run of an accepted program exists and is one, agrees with the ideal run, and answers as a full run does.
-- Assumes nothing.
use Rattle.std.specs.Prelude.{◌≡◌, Bool, true, false, ◌||◌, List, [], ◌∷◌, ℕ, zero, suc, ◌+◌, ◌<◌, ◌≤◌, length}
use Rattle.std.proofs.Math.Path.{refl, sym, ap, subst}
use Rattle.std.proofs.Common.{◌∙◌, arith, eqb-true, eq-eqb, ne_eqb, ltb-false}
use Rattle.std.proofs.Math.Decide.{ℕ_discrete}
use Rattle.std.proofs.Math.Dec.{eqb}
use Rattle.model.specs.declared.Format.TheVariants.{Full}
use Rattle.model.specs.declared.Options.{Options}
use Rattle.model.specs.declared.Outcome.TheVariants.{Ended, Open}
use Rattle.model.specs.Word.{pick, Bytes}
use Rattle.model.specs.Refusals.{first, Accepted}
use Rattle.model.specs.Program.{Program, program_of, roots, time_in}
use Rattle.model.specs.Procedures.{body_at}
use Rattle.model.specs.ProgramChecks.{program_with}
use Rattle.model.specs.Rules.{Store}
use Rattle.model.specs.Circuit.{cell_at, Sig, Values, control, level, shape, memory_words, Obeys}
use Rattle.model.specs.Numbering.{netlist, circuit_of, finish, memory_at, data_at, procedures}
use Rattle.model.specs.NetlistFile.{finish_of}
use Rattle.model.specs.TimeTables.{beside, load}
use Rattle.model.specs.Calls.{verdict, check_call, compiled_file, word_at, begin_call, full_state, full_count, run_program_checks, run_program_call, listed}
use Rattle.model.specs.CircuitPromises.{stops_at}
use Rattle.model.specs.RunPromises.{stand, stands, starts_of}
use Rattle.model.specs.Gates.{first_start, ObeysSlowly, slowly, end_at, slow_answer, with_pulse, slow_run_checks, slow_running, slow_run_call}
use Rattle.model.specs.GatePromises.{seen, Agrees, Gates}
use Rattle.laws.specs.Refusals.Laws.{by_bool, refuse-unless, all-accept}
use Rattle.laws.specs.Program.Fit.{Covered, EveryRoot, Numberable}
use Rattle.laws.specs.Program.Accepted.{body-root, program-covered}
use Rattle.laws.specs.Program.Admitted.{program-admitted, main-root}
use Rattle.laws.specs.Program.Size.{program-numberable}
use Rattle.laws.specs.Numbering.Parts.{net-length}
use Rattle.laws.specs.Numbering.Compiled.{net-accepted, finish-ok, memory-kinds}
use Rattle.laws.specs.NetlistFile.Passed.{net-ordered}
use Rattle.laws.specs.Circuit.Ordered.{Ordered}
use Rattle.laws.specs.Circuit.Gates.{late, slow-solves, slow-unique}
use Rattle.theory.specs.Promises.Slowly.{control-agrees, kind-agrees, slow-elements}
use Rattle.theory.specs.Promises.Answers.{listed_same, memory-words}
use Rattle.theory.specs.Refusals.Demand.{slow-verdict}
use Rattle.theory.specs.State.Running.{stops-high, stops-low}
use Rattle.theory.specs.Promises.Served.{OfProgram, published}
use Rattle.theory.specs.Promises.Kept.{ran}
use Rattle.theory.specs.Promises.FullRuns.{B, W₁, obeys₁, starts₁, run-values}
use Rattle.theory.specs.Promises.Reference.{accepts, begins, full_is}

-- An accepted program ---------------------------------------------------------------------------------------------------------------------

module _ (options : Options) (one : options.pulse ≡ 1) (program : List ℕ) (bytes : Bytes program) (e : check_call options program ≡ Accepted) where
  abbrev S : Program
  S = program_with options program

  pulse-one : S.pulse ≡ 1
  unfolding program_of
  pulse-one = one

  positive : 1 ≤ S.pulse
  positive = omega (arith, pulse-one)

  short : S.pulse ≤ 255
  short = omega (arith, pulse-one)

  abbrev τ : ℕ → ℕ
  τ = time_in options.times

  low : EveryRoot Numberable 0 (roots S)
  low = program-numberable options program bytes e

  ordered : Ordered (netlist S)
  ordered = net-ordered (netlist S) (finish S) (net-accepted S positive short low)

  covered : (q : ℕ) → q < procedures S → Covered τ (body_at S.bodies q)
  covered q l = subst (λ P. Covered τ P) (body-root S.bodies S.main q l) (program-covered options program e q)

  covered-main : Covered τ S.main
  covered-main = subst (λ P. Covered τ P) (main-root S.bodies S.main) (program-covered options program e (procedures S))

  module _ (words : Store) where
    slowly-obeys : ObeysSlowly τ S words (slowly τ S words)
    unfolding ObeysSlowly
    slowly-obeys = slow-solves τ (netlist S) (data_at S) ordered words

    slowly-only : (U : Values) → ObeysSlowly τ S words U → (k : ℕ) → k < length (netlist S) → (t : ℕ) → U k t ≡ slowly τ S words k t
    unfolding ObeysSlowly
    slowly-only U h = slow-unique τ (netlist S) (data_at S) ordered words U (slowly τ S words) h slowly-obeys

  module _ (words : Store) (W U : Values) (h : Obeys (circuit_of S) first_start words W) (h' : ObeysSlowly τ S words U) where
    controls : (k : ℕ) → k < length (netlist S) → control (cell_at (netlist S) k).kind ≡ true → (t : ℕ) → U k t ≡ W k t
    controls = control-agrees S (program-admitted options program e) low ordered τ covered covered-main pulse-one words W U h h'

    memory-cells : (k : ℕ) → k < length (netlist S) → (cell_at (netlist S) k).kind ≡ 40 → (t : ℕ) → U k t ≡ W k t
    unfolding shape late
    memory-cells k l q t = kind-agrees S (program-admitted options program e) low ordered τ covered covered-main pulse-one words W U h h' k 40 l q refl t

    pub agree : Agrees S words W U
    unfolding seen control
    agree =
        record {
          cells = λ k l z t.
              by_bool (control (cell_at (netlist S) k).kind) (λ c. controls k l c t)
              (λ c. memory-cells k l (eqb-true _ 40 (sym (ap (λ (b : Bool). b || eqb (cell_at (netlist S) k).kind 40) c) ∙ z)) t);
          elements = λ v i t l. slow-elements S (program-admitted options program e) low ordered τ covered covered-main pulse-one words W U h h' v i t l;
        }

    finish-same : (t : ℕ) → level U (finish S) t ≡ level W (finish S) t
    finish-same t = let f = finish-ok S positive short low in ap (λ (x : ℕ). eqb x 1) (controls (finish S) f.0 f.1 t)

    words_same : (x t : ℕ) → x < 16 → U (memory_at S + x) t ≡ W (memory_at S + x) t
    words_same x t l = memory-cells (memory_at S + x) (omega (arith, net-length S)) (memory-kinds S positive short low x l) t

-- Answers -----------------------------------------------------------------------------------------------------------------------------------

-- two ways to say where a run ends
end-high : (f : ℕ → Bool) (t n : ℕ) → f t ≡ true → end_at f t n ≡ t
unfolding end_at
end-high f t zero z = refl
end-high f t (suc n) z = rw (end_at, z) refl

end_low : (f : ℕ → Bool) (t n : ℕ) → f t ≡ false → end_at f t n ≡ stops_at f t n
unfolding end_at stops_at
end_low f t zero z = refl
end_low f t (suc n) z =
    let on : end_at f t (suc n) ≡ end_at f (suc t) n = rw (end_at, z) refl in
    by_bool (f (suc t)) (λ y. on ∙ end-high f (suc t) n y ∙ sym (stops-high f t n y)) (λ y. on ∙ end_low f (suc t) n y ∙ sym (stops-low f t n y))

end_is : (f : ℕ → Bool) (n : ℕ) → end_at f 0 n ≡ pick (f 0) 0 (stops_at f 0 n)
end_is f n = by_bool (f 0) (λ z. rw z (end-high f 0 n z)) (λ z. rw z (end_low f 0 n z))

end_same : (f g : ℕ → Bool) → ((t : ℕ) → f t ≡ g t) → (t n : ℕ) → end_at f t n ≡ end_at g t n
end_same f g h t n = ap (λ (k : ℕ → Bool). end_at k t n) (λ i u. h u i)

-- one start pulse
start-same : (words : Store) (t : ℕ) → starts_of (stand 0 words 0 ∷ []) t ≡ first_start t
unfolding starts_of
start-same words t = go (ℕ_discrete t 0)
  where
    go : Dec (t ≡ 0) → (eqb 0 t || false) ≡ eqb t 0
    go (yes e) = rw (eq-eqb 0 t (sym e), eq-eqb t 0 e) refl
    go (no x) = rw (ne_eqb 0 t (λ e. x (sym e)), ne_eqb t 0 x) refl

module _ (options : Options) (program words : List ℕ) (n : ℕ) (for_file for_state for_values for_work : List ℕ) (bytes : Bytes program)
    (checks : first (run_program_checks (with_pulse 1 options) program words n for_file for_state) ≡ Accepted)
    (checks₂ : first (slow_run_checks options program words n for_values for_work) ≡ Accepted) where
  -- a full run with pulses of 1
  abbrev at : Options
  at = with_pulse 1 options

  abbrev S₁ : Program
  S₁ = program_with at program

  abbrev file : List ℕ
  file = compiled_file at program

  abbrev σ : Store
  σ = word_at words

  accepted : check_call at program ≡ Accepted
  accepted = accepts at program words n for_file for_state bytes checks

  begun : verdict (begin_call Full file words for_state).answer.outcome ≡ Accepted
  begun = begins at program words n for_file for_state bytes checks

  budget : n ≤ 1000000
  budget = ltb-false 1000000 n (refuse-unless _ 13 0 (all-accept (run_program_checks at program words n for_file for_state) checks 2))

  X : OfProgram S₁ file
  X = (B at program file words for_state accepted refl begun).of_program

  -- the ideal values and the slow ones
  W : Values
  W = W₁ at program file words for_state accepted refl begun

  ideal-obeys : Obeys (circuit_of S₁) first_start σ W
  unfolding W stands
  ideal-obeys =
      subst (λ (starts : Sig). Obeys (circuit_of S₁) starts σ W) (λ i t. start-same σ t i)
      (published S₁ file X (starts₁ at program file words for_state accepted refl begun) σ W
      (obeys₁ at program file words for_state accepted refl begun))

  U : Values
  U = slowly (time_in options.times) S₁ σ

  slow-obeys : ObeysSlowly (time_in options.times) S₁ σ U
  unfolding U
  slow-obeys = slowly-obeys at refl program bytes accepted σ

  fin : (t : ℕ) → level U (finish S₁) t ≡ level W (finish_of file) t
  fin t =
      finish-same at refl program bytes accepted σ W U ideal-obeys slow-obeys t ∙ ap (λ (k : ℕ). level W k t) (sym X.finish-is)

  stops : end_at (level U (finish S₁)) 0 n ≡ pick (level W (finish_of file) 0) 0 (stops_at (level W (finish_of file)) 0 n)
  stops = end_same _ _ fin 0 n ∙ end_is (level W (finish_of file)) n

  pub same_answer : (slow_run_call options program words n for_values for_work).answer ≡ (run_program_call at program words n for_file for_state).answer
  unfolding slow_run_call slow_running slow_answer U W accepted begun
  same_answer =
      let t = pick (level W (finish_of file) 0) 0 (stops_at (level W (finish_of file)) 0 n) in
      let o : pick (level U (finish S₁) t) Ended Open ≡ pick (level W (finish_of file) t) Ended Open = ap (λ (b : Bool). pick b Ended Open) (fin t) in
      let w : memory_words (netlist S₁) 0 (λ k. U k t) ≡ listed (λ x. W (memory_at S₁ + x) t) 0 16 =
      memory-words S₁ X.sixteen (λ k. U k t)
      ∙ listed_same _ _ 0 16 (λ x a b. words_same at refl program bytes accepted σ W U ideal-obeys slow-obeys x t (omega arith)) in
      rw (checks₂, stops)
      ((λ i. record { outcome = o i; instant = t; count = t + 1; words = w i })
      ∙ sym (run-values at program file words for_state accepted refl begun n budget)
      ∙ sym (full_is at program words n for_file for_state bytes checks))

-- The promise -------------------------------------------------------------------------------------------------------------------------------

pub gates : Gates
unfolding load
gates =
    record {
      obeys = λ T k program words bytes e. slowly-obeys (load (beside T k 1)) refl program bytes e words;
      only = λ T k program words bytes e. slowly-only (load (beside T k 1)) refl program bytes e words;
      agree = λ T k program words bytes e W U h h'. agree (load (beside T k 1)) refl program bytes e words W U h h';
      answers = λ T k w program words n for_file for_state for_values for_work bytes v v'.
          let given = load (beside T k w) in
          let file = compiled_file (load (beside T k 1)) program in
          same_answer given program words n for_file for_state for_values for_work bytes
          (unfold run_program_call in
          ran Full (first (run_program_checks (load (beside T k 1)) program words n for_file for_state)) file (full_state file words n for_state)
          (full_count file words n for_state) for_state v)
          (unfold slow_run_call in
          sym (slow-verdict (first (slow_run_checks given program words n for_values for_work)) given program words n for_values for_work) ∙ v');
    }
