-- The tree of an accepted program is its nodes, its reference run tells the end that the rules give, and a full run answers as the reference run.
-- Assumes nothing.
use Rattle.std.specs.Prelude.{◌≡◌, false, List, ℕ, ◌≤◌, ltb, length, Ok, Err}
use Rattle.std.proofs.Math.Path.{refl, sym, ap}
use Rattle.std.proofs.Common.{◌∙◌, ltb-false}
use Rattle.model.specs.declared.Format.TheVariants.{Full}
use Rattle.model.specs.declared.Options.{Options}
use Rattle.model.specs.declared.Outcome.TheVariants.{Ended, Open}
use Rattle.model.specs.declared.Answer.{Answer}
use Rattle.model.specs.Refusals.{first, Checked, Accepted}
use Rattle.model.specs.Program.{program_of, Stmt}
use Rattle.model.specs.Procedures.{inlined, meaning}
use Rattle.model.specs.ProgramChecks.{program_with}
use Rattle.model.specs.Rules.{imperative, Store, Ends, run, at_end}
use Rattle.model.specs.Circuit.{high}
use Rattle.model.specs.NetlistFile.{net_of, finish_of}
use Rattle.model.specs.State.{state_size, now_at, begin_state}
use Rattle.model.specs.Calls.{is_too_long, verdict, check_call, compiled_file, word_at, shows, running, begin_call, run_program_checks, run_program_call, full_state, full_count, reference_answer, answering, reference_checks, reference_call}
use Rattle.model.specs.Word.{Bytes}
use Rattle.model.specs.RunPromises.{Seen, seen_in}
use Rattle.model.specs.ProgramPromises.{ended_answer, open_answer, Programs}
use Rattle.laws.specs.Refusals.Laws.{not-refused, all-accept, accept-take, first-drop, refuse-unless}
use Rattle.laws.specs.Program.Passed.{accepted, program-nodes}
use Rattle.laws.specs.Program.Admitted.{program-admitted, meaning-timed, meaning-closed}
use Rattle.laws.specs.Rules.Laws.{by_runs, steady}
use Rattle.laws.specs.Rules.Uses.{never-leaves, never-left}
use Rattle.theory.specs.Rules.Relation.{run_ends, ends-run}
use Rattle.theory.specs.Rules.Calling.{meanings-obey, main-rules}
use Rattle.theory.specs.Promises.Replay.{no-refusal}
use Rattle.theory.specs.Promises.Behaves.{open-no-end}
use Rattle.theory.specs.Promises.Kept.{ran}
use Rattle.theory.specs.Promises.FullRuns.{whole_run, program-run, agrees, stays_open}
use Rattle.laws.specs.NetlistFile.Compiled.{compiled-accepted}

-- The reference run --------------------------------------------------------------------------------------------------------------------

-- an answer that is no refusal is that of an accepted call
pub answered : (c : Checked) (a : Answer) → verdict (answering c a).outcome ≡ Accepted → (c ≡ Accepted) × (answering c a ≡ a)
unfolding answering verdict
answered (Ok _) a e = (refl, refl)
answered (Err r) a e = not-refused e

module _ (options : Options) (program words : List ℕ) (n : ℕ) (answered-so : verdict (reference_call options program words n).outcome ≡ Accepted) where
  abbrev P : Stmt
  P = meaning (program_with options program)

  abbrev σ : Store
  σ = word_at words

  called : (first (reference_checks options program words n) ≡ Accepted) × (reference_call options program words n ≡ reference_answer n (run (imperative options.pulse) n P σ))
  unfolding reference_call
  called = answered (first (reference_checks options program words n)) (reference_answer n (run (imperative options.pulse) n P σ)) answered-so

  passes : check_call options program ≡ Accepted
  unfolding check_call
  passes = accept-take 2 (reference_checks options program words n) called.0

  pub reference-ends : (t : ℕ) (σ' : Store) → Ends (imperative options.pulse) P σ t σ' → t ≤ n → reference_call options program words n ≡ ended_answer t σ'
  unfolding reference_answer
  reference-ends t σ' E l = called.1 ∙ ap (reference_answer n) (ends-run (imperative options.pulse) P (meaning-timed (program_with options program) (program-admitted options program passes)) σ t σ' E n l)

  pub reference-ended : (reference_call options program words n).outcome ≡ Ended → (t : ℕ) × (σ' : Store) × (t ≤ n) × Ends (imperative options.pulse) P σ t σ'
  unfolding reference_answer
  reference-ended e =
      by_runs (run (imperative options.pulse) n P σ) (λ t σ' p. (t, σ', (steady (imperative options.pulse) P (meaning-timed (program_with options program) (program-admitted options program passes)) σ n at_end t σ' p).0, run_ends (imperative options.pulse) P n σ t σ' p))
      (λ t σ' p. never-leaves (imperative options.pulse) P (meaning-closed (program_with options program) (program-admitted options program passes)) n t σ σ' p)
      (λ p. absurd (open-no-end (sym (ap (λ (a : Answer). a.outcome) (called.1 ∙ ap (reference_answer n) p)) ∙ e)))

  pub reference-open : (reference_call options program words n).outcome ≡ Open
      → (reference_call options program words n ≡ open_answer n) × ((t : ℕ) (σ' : Store) → Ends (imperative options.pulse) P σ t σ' → t ≤ n → ⊥)
  unfolding reference_answer
  reference-open e = (
    by_runs (run (imperative options.pulse) n P σ) (λ t σ' p. absurd (open-no-end (sym e ∙ ap (λ (a : Answer). a.outcome) (called.1 ∙ ap (reference_answer n) p))))
        (λ t σ' p. never-leaves (imperative options.pulse) P (meaning-closed (program_with options program) (program-admitted options program passes)) n t σ σ' p) (λ p. called.1 ∙ ap (reference_answer n) p),
    λ t σ' E l. open-no-end (sym e ∙ ap (λ (a : Answer). a.outcome) (reference-ends t σ' E l)),
  )

-- A full run and a reference run -------------------------------------------------------------------------------------------------------

module _ (options : Options) (program words : List ℕ) (n : ℕ) (for_file lent : List ℕ) (bytes : Bytes program)
    (checks : first (run_program_checks options program words n for_file lent) ≡ Accepted) where
  abbrev file : List ℕ
  file = compiled_file options program

  pub accepts : check_call options program ≡ Accepted
  unfolding check_call
  accepts = accept-take 2 (run_program_checks options program words n for_file lent) checks

  budget : ltb 1000000 n ≡ false
  budget = refuse-unless _ 13 0 (all-accept (run_program_checks options program words n for_file lent) checks 2)

  words-fit : ltb (length words) 544 ≡ false
  words-fit = refuse-unless _ 14 0 (all-accept (run_program_checks options program words n for_file lent) checks 3)

  state-fits : ltb (length lent) (state_size Full (net_of file)) ≡ false
  state-fits = refuse-unless _ 14 0 (all-accept (run_program_checks options program words n for_file lent) checks 5)

  pub begins : verdict (begin_call Full file words lent).answer.outcome ≡ Accepted
  unfolding begin_call running shows is_too_long
  begins =
      rw (compiled-accepted options program bytes accepts, words-fit, state-fits)
      (no-refusal (high (now_at Full (begin_state Full (net_of file) (word_at words) lent) (finish_of file))))

  abbrev full : Answer
  full = (run_program_call options program words n for_file lent).answer

  abbrev reference : Answer
  reference = reference_call options program words n

  pub full_is : full ≡ whole_run options program file words lent accepts refl begins n
  full_is =
      program-run options program file words lent accepts refl begins for_file
      (refuse-unless _ 14 0 (all-accept (run_program_checks options program words n for_file lent) checks 4)) n (ltb-false 1000000 n budget)

  reference-is : reference ≡ reference_answer n (run (imperative options.pulse) n (meaning (program_with options program)) (word_at words))
  unfolding reference_call answering check_call
  reference-is = rw (first-drop 2 (reference_checks options program words n) accepts, budget, words-fit)

  pub same-answers : (seen_in full ≡ seen_in reference) × (full.outcome ≡ Ended → full ≡ reference)
  unfolding reference_answer program_of
  same-answers =
      by_runs (run (imperative options.pulse) n (meaning (program_with options program)) (word_at words))
      (λ t σ' p.
      let e : full ≡ reference =
      full_is ∙ agrees options program file words lent accepts refl begins n t (ltb-false 1000000 n budget) σ' p ∙ sym (reference-is ∙ ap (reference_answer n) p) in
      (ap seen_in e, λ z. e))
      (λ t σ' p. never-leaves (imperative options.pulse) (meaning (program_with options program)) (meaning-closed (program_with options program) (program-admitted options program accepts)) n t (word_at words) σ' p)
      (λ p.
      let o = ap seen_in full_is ∙ stays_open options program file words lent accepts refl begins n (ltb-false 1000000 n budget) p in
      (o ∙ sym (ap seen_in (reference-is ∙ ap (reference_answer n) p)), λ z. absurd (open-no-end (sym (ap (λ (s : Seen). s.outcome) o) ∙ z))))

-- The promise --------------------------------------------------------------------------------------------------------------------------

pub accepted-open : verdict Open ≡ Accepted
unfolding verdict
accepted-open = refl

pub accepted-ended : verdict Ended ≡ Accepted
unfolding verdict
accepted-ended = refl

pub programs : Programs
unfolding program_of
programs =
    record {
      tree = λ options program e. sym (program-nodes options.procedures program (accepted options program e).readable options.pulse);
      ends = λ options program words n t σ' v. reference-ends options program words n v t σ';
      ended = λ options program words n e. reference-ended options program words n (ap verdict e ∙ accepted-ended) e;
      still_open = λ options program words n e. reference-open options program words n (ap verdict e ∙ accepted-open) e;
      obeyed = λ options program e.
          let S = program_with options program in
          (λ p. Ends (imperative options.pulse) (inlined S.bodies p), meanings-obey (imperative options.pulse) S (program-admitted options program e));
      calling = λ options program e. main-rules (imperative options.pulse) (program_with options program) (program-admitted options program e);
      never_left = λ options program e.
          let S = program_with options program in
          never-left (imperative options.pulse) (meaning S) (meaning-closed S (program-admitted options program e));
      agree = λ options program words n for_file lent y v.
          let file = compiled_file options program in
          same-answers options program words n for_file lent y
          (unfold run_program_call in
          ran Full (first (run_program_checks options program words n for_file lent)) file (full_state file words n lent) (full_count file words n lent) lent v);
    }
