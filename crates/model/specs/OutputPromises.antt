-- What is promised of the programs hubrun and hubtext, as types: hubrun prints what the program's own rules say, hubtext writes what a text stands for.
-- The proof is in crate theory, file Promises/Outputs: hubrun-prints, hubtext-writes.
-- Assumes nothing: definitions.
use Rattle.std.specs.Prelude.{◌≡◌, List, [], ◌∷◌, ◌++◌, ℕ, ◌<◌, ◌≤◌, length, take, drop, replicate, Err}
use Rattle.model.specs.declared.Answer.{Answer}
use Rattle.model.specs.declared.Outcome.TheVariants.{Open}
use Rattle.model.specs.declared.Refusal.{Refusal}
use Rattle.model.specs.Word.{get32, Bytes}
use Rattle.model.specs.Refusals.{first, Checked, Accepted}
use Rattle.model.specs.ProgramChecks.{check_of}
use Rattle.model.specs.TimeTables.{defaults, given_check}
use Rattle.model.specs.Calls.{verdict, refused_answer, over_budget, reference_call}
use Rattle.model.specs.Hubrun.{decimal, line, refused_word, lines_of, text_of, hubrun_text}
use Rattle.model.specs.TextCalls.{text_program, text_checks}
use Rattle.model.specs.Hubtext.{hubtext_output}

-- what the rules say of an input: "32 bytes of start words, a four-byte budget and a program", elements at 0
abbrev pub reference_of : List ℕ → Answer
reference_of input = reference_call defaults (drop 36 input) (take 32 input ++ replicate 512 0) (get32 input 32)

pub record HubrunPrints : Type 0 where
  -- "Input under 36 bytes is refusal 1, place 0."
  pub short : (input : List ℕ) → length input < 36 → hubrun_text input ≡ text_of (refused_answer (record { number = 1; place = 0 }))
  -- what the reference run answers, where that is an end or a refusal
  pub told : (input : List ℕ) → Bytes input → 36 ≤ length input → ((reference_of input).outcome ≡ Open → ⊥) → hubrun_text input ≡ text_of (reference_of input)
  -- and where it is open, its instant, with the memories' words
  pub goes_on : (input : List ℕ) → Bytes input → 36 ≤ length input → (reference_of input).outcome ≡ Open
      → (words : List ℕ) × (hubrun_text input ≡ lines_of Open (reference_of input).instant words)
  -- there is room for all of it: what is wrong with the program or its budget refuses it, and nothing else
  pub roomy : (input : List ℕ) → 36 ≤ length input
      → verdict (reference_of input).outcome ≡ first (given_check defaults ∷ check_of defaults (drop 36 input) ∷ over_budget (get32 input 32) ∷ [])

-- the refusals of a text, and of the program that it stands for
abbrev pub text_refused : List ℕ → Checked
text_refused text = first (given_check defaults ∷ text_checks text ++ (check_of defaults (text_program text) ∷ []))

pub record HubtextWrites : Type 0 where
  -- the program's bytes
  pub bytes : (text : List ℕ) → text_refused text ≡ Accepted → hubtext_output text ≡ text_program text
  -- or the refusal
  pub refusal : (text : List ℕ) (r : Refusal) → text_refused text ≡ Err r
      → hubtext_output text ≡ line (refused_word ∷ decimal r.number ∷ decimal r.place ∷ [])
