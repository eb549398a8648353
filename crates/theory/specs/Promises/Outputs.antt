-- What hubrun prints and hubtext writes: what the rules say of an input, and what a text stands for.
-- Assumes nothing.
use Rattle.std.specs.Prelude.{◌≡◌, false, List, [], ◌∷◌, ◌++◌, ℕ, ◌+◌, ◌≤◌, ltb, length, take, drop, replicate, Ok, Err}
use Rattle.std.proofs.Math.Path.{refl, sym, ap}
use Rattle.std.proofs.Common.{◌∙◌, ap₂, append_assoc, arith, length-append, length-take, get_or-drop, lt-ltb, le-ltb, ltb-false}
use Rattle.std.proofs.lemmas.List.{length-replicate}
use Rattle.std.proofs.Math.Seq.{take-append_seam}
use Rattle.model.specs.declared.Answer.{Answer}
use Rattle.model.specs.declared.Format.{Format}
use Rattle.model.specs.declared.Format.TheVariants.{Full}
use Rattle.model.specs.declared.Outcome.{Outcome}
use Rattle.model.specs.declared.Outcome.TheVariants.{Ended, Open}
use Rattle.model.specs.declared.Refusal.{Refusal}
use Rattle.model.specs.Word.{get32, Bytes}
use Rattle.model.specs.Refusals.{first, Checked, Accepted}
use Rattle.model.specs.Program.{time_in}
use Rattle.model.specs.Rules.{at_end, at_exit, Run, done, still}
use Rattle.model.specs.ProgramChecks.{check_of}
use Rattle.model.specs.TimeTables.{defaults, given_check}
use Rattle.model.specs.TextCalls.{text_program, text_checks, read_text_checks, read_text_call}
use Rattle.model.specs.Hubtext.{written, own_buffer, hubtext_output}
use Rattle.model.specs.Calls.{verdict, refused_answer, short, writing, reference_answer, check_call, over_budget, reference_checks, reference_call, answering, running, run_program_checks, run_program_call}
use Rattle.model.specs.Hubrun.{decimal, line, refused_word, lines_of, text_of, hubrun_text}
use Rattle.model.specs.RunPromises.{Seen, seen_in}
use Rattle.model.specs.OutputPromises.{reference_of, HubrunPrints, text_refused, HubtextWrites}
use Rattle.laws.specs.Program.Passed.{passed}
use Rattle.laws.specs.Refusals.Laws.{accept-take, first-take, first-drop, first-append, first_one, refused-append, all-accept, refuse-unless, not-refused}
use Rattle.theory.specs.Promises.Reference.{same-answers}
use Rattle.theory.specs.Promises.Rooms.{checks, full-run-ended}

-- a run that a check refuses, and an answer
refused-run : (F : Format) (c : Checked) (file s : List ℕ) (n : ℕ) (lent : List ℕ) (r : Refusal) → c ≡ Err r → (running F c file s n lent).answer ≡ refused_answer r
unfolding running
refused-run F c file s n lent r e = ap (λ (c : Checked). (running F c file s n lent).answer) e

refused-answer : (c : Checked) (a : Answer) (r : Refusal) → c ≡ Err r → answering c a ≡ refused_answer r
unfolding answering
refused-answer c a r e = ap (λ (c : Checked). answering c a) e

by-checked : {Q : Type 0} (c : Checked) → (c ≡ Accepted → Q) → ((r : Refusal) → c ≡ Err r → Q) → Q
by-checked (Ok _) f g = f refl
by-checked (Err r) f g = g r refl

by-outcome : {Q : Type 0} (o : Outcome) → (o ≡ Ended → Q) → (o ≡ Open → Q) → ((r : Refusal) → o ≡ Outcome.Refused r → Q) → Q
by-outcome Ended f g h = f refl
by-outcome Open f g h = g refl
by-outcome (Outcome.Refused r) f g h = h r refl

-- what is printed of a refusal is that refusal
text-refused : (a b : Answer) (r : Refusal) → a.outcome ≡ Outcome.Refused r → b.outcome ≡ Outcome.Refused r → text_of a ≡ text_of b
unfolding lines_of
text-refused a b r e d = ap (λ (o : Outcome). lines_of o a.instant a.words) e ∙ sym (ap (λ (o : Outcome). lines_of o b.instant b.words) d)

not-open : {r : Refusal} → Outcome.Refused r ≡ Open → ⊥
unfolding verdict
not-open e = not-refused (ap verdict e)

-- the rules refuse nothing
rules-accept : (n : ℕ) (r : Run) → verdict (reference_answer n r).outcome ≡ Accepted
unfolding reference_answer verdict
rules-accept n (done at_end t σ) = refl
rules-accept n (done at_exit t σ) = refl
rules-accept n still = refl

-- hubrun ----------------------------------------------------------------------------------------------------------------------------------

module _ (input : List ℕ) (bytes : Bytes input) (l : 36 ≤ length input) where
  abbrev program : List ℕ
  program = drop 36 input

  abbrev words : List ℕ
  words = take 32 input ++ replicate 512 0

  abbrev n : ℕ
  n = get32 input 32

  abbrev full : Answer
  full = (run_program_call defaults program words n (replicate 6656 0) (replicate 41480 0)).answer

  program-bytes : Bytes program
  program-bytes i = rw (get_or-drop 36 input i 0) (bytes (36 + i))

  prints : hubrun_text input ≡ text_of full
  unfolding hubrun_text
  prints = rw (le-ltb (length input) 36 l) refl

  -- the checks that both runs have before all others
  abbrev both : Checked
  both = first (take 3 (reference_checks defaults program words n))

  refused-alike : (r : Refusal) → both ≡ Err r → (full ≡ refused_answer r) × (reference_of input ≡ refused_answer r)
  unfolding run_program_call reference_call
  refused-alike r e = (
    refused-run Full _ _ _ _ _ r (first-take 3 (run_program_checks defaults program words n (replicate 6656 0) (replicate 41480 0)) e),
    refused-answer _ _ r (first-take 3 (reference_checks defaults program words n) e),
  )

  module _ (e : both ≡ Accepted) where
    accepted : check_call defaults program ≡ Accepted
    unfolding check_call
    accepted = accept-take 2 (take 3 (reference_checks defaults program words n)) e

    early : n ≤ 1000000
    early = ltb-false 1000000 n (refuse-unless _ 13 0 (all-accept (take 3 (reference_checks defaults program words n)) e 2))

    some : 544 ≤ length words
    some = simp (length-append, length-take, length-replicate) (omega (arith, l))

    ended-alike : (reference_of input).outcome ≡ Ended → full ≡ reference_of input
    ended-alike = full-run-ended defaults program words (replicate 6656 0) (replicate 41480 0) n program-bytes accepted some (omega arith) (omega arith) early

    seen_alike : seen_in full ≡ seen_in (reference_of input)
    seen_alike =
        (same-answers defaults program words n (replicate 6656 0) (replicate 41480 0) program-bytes
        (checks defaults program words (replicate 6656 0) (replicate 41480 0) n program-bytes accepted some (omega arith) (omega arith) early)).0

  told : ((reference_of input).outcome ≡ Open → ⊥) → hubrun_text input ≡ text_of (reference_of input)
  told ended =
      prints
      ∙ by-checked both
      (λ e.
      by-outcome (reference_of input).outcome (λ h. ap text_of (ended-alike e h)) (λ h. absurd (ended h))
      (λ r h. text-refused full (reference_of input) r (ap (λ (x : Seen). x.outcome) (seen_alike e) ∙ h) h))
      (λ r e. let a = refused-alike r e in ap text_of (a.0 ∙ sym a.1))

  goes_on : (reference_of input).outcome ≡ Open → (ws : List ℕ) × (hubrun_text input ≡ lines_of Open (reference_of input).instant ws)
  goes_on h =
      by-checked both
      (λ e. (
        full.words,
        prints
            ∙ ap₂ (λ (o : Outcome) (t : ℕ). lines_of o t full.words) (ap (λ (x : Seen). x.outcome) (seen_alike e) ∙ h) (ap (λ (x : Seen). x.instant) (seen_alike e)),
      ))
      (λ r e. absurd (not-open (sym (ap (λ (a : Answer). a.outcome) (refused-alike r e).1) ∙ h)))

accepted-verdict : (c : Checked) (n : ℕ) (r : Run) → c ≡ Accepted → verdict (answering c (reference_answer n r)).outcome ≡ Accepted
unfolding answering
accepted-verdict c n r e = ap (λ (c : Checked). verdict (answering c (reference_answer n r)).outcome) e ∙ rules-accept n r

refused-verdict : (c : Checked) (a : Answer) (r : Refusal) → c ≡ Err r → verdict (answering c a).outcome ≡ Err r
unfolding answering verdict
refused-verdict c a r e = ap (λ (c : Checked). verdict (answering c a).outcome) e

-- what refuses the reference run of an input
verdict-of : (input : List ℕ) → 36 ≤ length input
    → verdict (reference_of input).outcome ≡ first (given_check defaults ∷ check_of defaults (drop 36 input) ∷ over_budget (get32 input 32) ∷ [])
unfolding reference_call
verdict-of input l =
    let words = take 32 input ++ replicate 512 0 in
    let cs = reference_checks defaults (drop 36 input) words (get32 input 32) in
    let room : ltb (length words) 544 ≡ false = le-ltb (length words) 544 (simp (length-append, length-take, length-replicate) (omega (arith, l))) in
    by-checked (first (take 3 cs))
    (λ e.
    let whole : first cs ≡ Accepted = first-drop 3 cs e ∙ rw room refl in
    accepted-verdict (first cs) (get32 input 32) _ whole ∙ sym e)
    (λ r e. refused-verdict (first cs) _ r (first-take 3 cs e) ∙ sym e)

pub hubrun-prints : HubrunPrints
hubrun-prints =
    record {
      short = λ input l. unfold hubrun_text in rw (lt-ltb (length input) 36 l) refl;
      told = told;
      goes_on = goes_on;
      roomy = verdict-of;
    }

-- hubtext ---------------------------------------------------------------------------------------------------------------------------------

-- with any buffer
module _ (text lent : List ℕ) where
  abbrev before : List Checked
  before = given_check defaults ∷ text_checks text ++ (check_of defaults (text_program text) ∷ [])

  abbrev room : Checked
  room = short (length lent) (length (text_program text))

  all-checks : read_text_checks defaults text lent ≡ before ++ (room ∷ [])
  all-checks = ap (λ (cs : List Checked). given_check defaults ∷ cs) (sym (append_assoc (text_checks text) (check_of defaults (text_program text) ∷ []) (room ∷ [])))

  abbrev output : Checked → List ℕ
  output c =
      let r = writing c (text_program text) (length (text_program text)) 0 lent in
      written r.answer r.lent

  text-refusal : (r : Refusal) → text_refused text ≡ Err r
      → output (first (read_text_checks defaults text lent)) ≡ line (refused_word ∷ decimal r.number ∷ decimal r.place ∷ [])
  unfolding writing written
  text-refusal r e = ap output (ap first all-checks ∙ refused-append before (room ∷ []) r e)

  -- that has room for every program
  module _ (roomy : 800 ≤ length lent) (e : text_refused text ≡ Accepted) where
    fits : length (text_program text) ≤ length lent
    unfolding check_of
    fits =
        let p = passed (time_in defaults.times) defaults.pulse defaults.procedures (text_program text) (all-accept before e 4) in
        omega (arith, p.readable.short)

    text-bytes : output (first (read_text_checks defaults text lent)) ≡ text_program text
    unfolding writing written
    text-bytes =
        let enough : room ≡ Accepted = rw (le-ltb (length lent) (length (text_program text)) fits) refl in
        ap output (ap first all-checks ∙ first-append before (room ∷ []) e ∙ sym (first_one room) ∙ enough)
        ∙ take-append_seam (text_program text) _

pub hubtext-writes : HubtextWrites
unfolding hubtext_output read_text_call
hubtext-writes = record { bytes = λ text. text-bytes text own_buffer (omega arith); refusal = λ text. text-refusal text own_buffer }
