-- The answer of a run, that of the main program's run, and that of a call by what the checks say.
-- Assumes nothing.
use Rattle.std.specs.Prelude.{Result, Ok, Err, IfOk, MatchResult}
use mathlib.Core.Path.{◌≡◌, refl, sym, ◌∙◌, ap}
use mathlib.Core.List.{List, [], ◌∷◌}
use Prim.Native.Nat.{ℕ, ◌+◌}
use native.Mathlib.Omega.{arith}
use lib.ListN.{length, get_or, replicate}
use Rattle.model.specs.declared.Refusal.{Refusal}
use Rattle.model.specs.declared.Options.{Options}
use Rattle.model.specs.declared.Answer.{Answer}
use Rattle.model.specs.declared.Outcome.TheVariants as outcome
use Rattle.model.specs.Program.{program_of, time_in}
use Rattle.model.specs.Procedures.{meaning}
use Rattle.model.specs.TimeTables.{given_check}
use Rattle.model.specs.ProgramChecks.{program_with, check_of, check_functional}
use Rattle.model.specs.Rules.{Costs, ended, imperative, functional, run}
use Rattle.model.specs.Refusals.{first, Checked, Accepted}
use Rattle.model.specs.Calls.{word_at, listed, refused_answer, reference_answer, answering, short, check_call, over_budget, reference_call}
use Rattle.model.specs.FunctionalCalls.{check_functional_call, reference_functional_call}
use Rattle.laws.specs.Refusals.Laws.{all-accept, first_two}
use Rattle.laws.specs.Program.Fit.{Formed}
use Rattle.laws.specs.Program.Passed.{accepted}
use Rattle.laws.specs.Program.Admitted.{program-admitted, meaning-formed, meaning-timed, meaning-separate}
use Rattle.laws.specs.Functional.Accepted.{table_alone, also-accepted}
use Rattle.program.specs.declared.Scanned.{Scanned}
use Rattle.program.specs.Shape.{AllShaped, Tells, scanned-laid}
use Rattle.rules.specs.declared.ways.Ran.{Ran}
use Rattle.rules.specs.declared.ways.Ran.TheVariants.{Ended, Left, Unfinished}
use Rattle.rules.specs.Ran.{store_of, run_of, Unended, Stands, main_answer, Ready}
use Rattle.rules.proofs.Procedures.{trees-enough}
use Rattle.rules.proofs.Stores.{listed_at}
use Rattle.rules.proofs.Agree.{same_answer}

-- Runs ---------------------------------------------------------------------------------------------------------------------------------

module _ (n : ℕ) (w : List ℕ) where
  pub answer-ended : (t : ℕ) (ws : List ℕ) → ws ≡ listed (store_of w) 0 16
      → record { outcome = outcome.Ended; instant = t; count = t + 1; words = ws } ≡ reference_answer n (ended t (store_of w))
  unfolding reference_answer
  answer-ended t ws ew = ap (λ (ws : List ℕ). record { outcome = outcome.Ended; instant = t; count = t + 1; words = ws }) ew

  pub answer-open : (r : Ran) → Unended r → record { outcome = outcome.Open; instant = n; count = n + 1; words = replicate 16 0 } ≡ reference_answer n (run_of r w)
  unfolding reference_answer
  answer-open (Ended t) u = absurd (u t refl)
  answer-open (Left t) u = refl
  answer-open Unfinished u = refl

-- The main program ---------------------------------------------------------------------------------------------------------------------

-- of an accepted program it is ready to be run
pub main-ready : (options : Options) (s : List ℕ) (r : Scanned) → check_call options s ≡ Accepted → AllShaped (time_in options.times) s r
    → Ready s r.ends options.procedures (meaning (program_of 1 options.procedures s))
unfolding meaning program_of
main-ready options s r a S =
    let L = scanned-laid options s r a S in
    let A = program-admitted options s a in
    let W = program_with options s in
    record {
      fit = record { laid = L; formed = meaning-formed W A; timed = meaning-timed W A; separate = meaning-separate W A };
      enough = trees-enough (record { readable = (accepted options s a).readable; laid = L });
    }

module _ (κ : Costs) (k : ℕ) (s bytes : List ℕ) (n : ℕ) where
  -- what is found first of the budget and of the start words
  main-by : (c : Checked) → first (over_budget n ∷ short (length bytes) 544 ∷ []) ≡ c
      → answering c (reference_answer n (run κ n (meaning (program_of 1 k s)) (word_at bytes))) ≡ main_answer κ k s bytes n
  unfolding main_answer
  main-by c e = sym (ap (λ (c : Checked). answering c (reference_answer n (run κ n (meaning (program_of 1 k s)) (word_at bytes)))) e)

  pub main-refused : (r : Refusal) → first (over_budget n ∷ short (length bytes) 544 ∷ []) ≡ Err r → refused_answer r ≡ main_answer κ k s bytes n
  unfolding answering
  main-refused r e = main-by (Err r) e

  pub main_runs : first (over_budget n ∷ short (length bytes) 544 ∷ []) ≡ Accepted → Formed (meaning (program_of 1 k s)) → (ws : List ℕ) → ws ≡ listed (word_at bytes) 0 272
      → (r : Ran) (w : List ℕ) → Stands n (run κ n (meaning (program_of 1 k s)) (store_of ws)) r w → (a : Answer) → a ≡ reference_answer n (run_of r w) → a ≡ main_answer κ k s bytes n
  unfolding answering store_of
  main_runs e formed ws ew r w R a ea =
      ea ∙ ap (reference_answer n) R.is
      ∙ same_answer κ (meaning (program_of 1 k s)) formed n (store_of ws) (word_at bytes)
      (λ x m. ap (λ (ws : List ℕ). get_or ws x 0) ew ∙ listed_at (word_at bytes) 272 0 x m ∙ ap (word_at bytes) (omega arith))
      ∙ main-by Accepted e

-- Calls --------------------------------------------------------------------------------------------------------------------------------

-- the two checks of a program stand before those of its run
answering_by : (a b c : Checked) (cs : List Checked) (x : Answer) → first (a ∷ b ∷ []) ≡ c → answering (first (a ∷ b ∷ cs)) x ≡ answering (first (c ∷ cs)) x
answering_by a b c cs x e = ap (λ (c : Checked). answering c x) (first_two a b cs) ∙ ap (λ (c : Checked). answering (first (c ∷ cs)) x) e

module _ (options : Options) (s bytes : List ℕ) (n : ℕ) where
  call_by : (c : Checked) → check_call options s ≡ c
      → answering (first (c ∷ over_budget n ∷ short (length bytes) 544 ∷ []))
      (reference_answer n (run (imperative options.pulse) n (meaning (program_with options s)) (word_at bytes))) ≡ reference_call options s bytes n
  unfolding check_call reference_call
  call_by c e = sym (answering_by (given_check options) (check_of options s) c (over_budget n ∷ short (length bytes) 544 ∷ []) _ e)

  pub call-refused : (r : Refusal) → check_call options s ≡ Err r → refused_answer r ≡ reference_call options s bytes n
  unfolding answering
  call-refused r e = call_by (Err r) e

  pub call-runs : check_call options s ≡ Accepted → main_answer (imperative options.pulse) options.procedures s bytes n ≡ reference_call options s bytes n
  unfolding main_answer meaning program_of
  call-runs e = call_by Accepted e

  -- by what the scan tells
  pub call-told : (r : Result Scanned Refusal) {a : Answer} → Tells (time_in options.times) s (check_call options s) r
      → MatchResult r (λ told. a ≡ main_answer (imperative options.pulse) options.procedures s bytes n) (λ e. a ≡ refused_answer e) → a ≡ reference_call options s bytes n
  call-told (Ok told) T m = m ∙ call-runs T.0
  call-told (Err e) T m = m ∙ call-refused e T

  functional-by : (c : Checked) → check_functional_call options s ≡ c
      → answering (first (c ∷ over_budget n ∷ short (length bytes) 544 ∷ [])) (reference_answer n (run functional n (meaning (program_of 1 0 s)) (word_at bytes)))
      ≡ reference_functional_call options s bytes n
  unfolding check_functional_call reference_functional_call
  functional-by c e = sym (answering_by options.checked (check_functional options s) c (over_budget n ∷ short (length bytes) 544 ∷ []) _ e)

  pub functional-refused : (r : Refusal) → check_functional_call options s ≡ Err r → refused_answer r ≡ reference_functional_call options s bytes n
  unfolding answering
  functional-refused r e = functional-by (Err r) e

  pub functional-runs : check_functional_call options s ≡ Accepted → main_answer functional 0 s bytes n ≡ reference_functional_call options s bytes n
  unfolding main_answer
  functional-runs e = functional-by Accepted e

-- what is accepted for a functional circuit is accepted with its table alone
pub functional-accepted : (options : Options) (s : List ℕ) → check_functional_call options s ≡ Accepted → check_call (table_alone options) s ≡ Accepted
unfolding check_functional_call
functional-accepted options s a =
    let each = all-accept (options.checked ∷ check_functional options s ∷ []) a in
    also-accepted options s (each 0) (each 1)

pub functional-told : (options : Options) (s bytes : List ℕ) (n : ℕ) (r : Result Scanned Refusal) {a : Answer}
    → Tells (time_in options.times) s (check_functional_call options s) r
    → MatchResult r (λ told. a ≡ main_answer functional 0 s bytes n) (λ e. a ≡ refused_answer e) → a ≡ reference_functional_call options s bytes n
functional-told options s bytes n (Ok told) T m = m ∙ functional-runs options s bytes n T.0
functional-told options s bytes n (Err e) T m = m ∙ functional-refused options s bytes n e T

-- what is scanned can be run
pub told-ready : (options : Options) (s : List ℕ) (r : Result Scanned Refusal) → Tells (time_in options.times) s (check_call options s) r
    → IfOk r (λ told. Ready s told.ends options.procedures (meaning (program_of 1 options.procedures s)))
told-ready options s (Ok told) T = main-ready options s told T.0 T.1
told-ready options s (Err e) T = tt

pub functional-ready : (options : Options) (s : List ℕ) (r : Result Scanned Refusal) → Tells (time_in options.times) s (check_functional_call options s) r
    → IfOk r (λ told. Ready s told.ends 0 (meaning (program_of 1 0 s)))
functional-ready options s (Ok told) T = main-ready (table_alone options) s told (functional-accepted options s T.0) T.1
functional-ready options s (Err e) T = tt
