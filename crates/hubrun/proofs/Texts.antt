-- The text of an input: a refusal where it has under 36 bytes, else that of a run. Bytes after 36 and 801 don't change it, so `main` need not
-- read them. Assumes nothing.
use mathlib.Core.Path.{◌≡◌, refl, sym, ◌∙◌, ap}
use mathlib.Core.List.{List, [], ◌∷◌, ◌++◌}
use mathlib.Core.Bool.{Bool, true, false}
use Prim.Native.Nat.{ℕ, ◌<◌, ◌≤◌}
use native.Mathlib.Omega.{arith}
use lib.Dec.{ltb}
use lib.ListN.{length, take, drop, replicate, length-take, length-drop}
use lib.Seq.{take_all, sets}
use borrow.Author.Tests.{lt-ltb, le-ltb, ltb-true, ltb-false}
use Rattle.model.specs.declared.Answer.{Answer}
use Rattle.model.specs.Word.{pick, get32}
use Rattle.model.specs.TimeTables.{verdict_of, given_check, load, defaults}
use Rattle.model.specs.NetlistFile.{pulse_wrong}
use Rattle.model.specs.Calls.{refused_answer, running, run_program_call}
use Rattle.model.specs.Hubrun.{decimal, line, refused_word, lines_of, text_of, hubrun_text}
use Rattle.word.proofs.Puts.{overwrite-sets}
use Rattle.laws.specs.Refusals.Laws.{by_bool}
use Rattle.laws.specs.Program.Passed.{long-refused}

picked : {A : Type 0} {b : Bool} (x y : A) → b ≡ true → pick b x y ≡ x
picked x y e = rw e refl

passed : {A : Type 0} {b : Bool} (x y : A) → b ≡ false → pick b x y ≡ y
passed x y e = rw e refl

-- the start words of an input
abbrev pub started : List ℕ → List ℕ
started input = take 32 input ++ replicate 512 0

-- what putting the given words over zeros makes
pub started-put : (given : List ℕ) {words : List ℕ} → length given ≡ 32 → words ≡ sets (replicate 544 0) 0 given → words ≡ given ++ replicate 512 0
started-put given h e =
    e ∙ sym (overwrite-sets given (replicate 544 0) (omega (arith, h))) ∙ ap (λ (n : ℕ). given ++ drop n (replicate 544 0)) h

module _ (input : List ℕ) where
  pub short-text : length input < 36 → hubrun_text input ≡ line (refused_word ∷ decimal 1 ∷ decimal 0 ∷ [])
  unfolding hubrun_text lines_of
  short-text h = picked _ _ (lt-ltb (length input) 36 h)

  pub long-text : 36 ≤ length input
      → hubrun_text input ≡ text_of (run_program_call defaults (drop 36 input) (started input) (get32 input 32) (replicate 6656 0) (replicate 41480 0)).answer
  unfolding hubrun_text
  long-text h = passed _ _ (le-ltb (length input) 36 h)

  -- a run on parts of the input
  pub run-told : (netlist state : List ℕ) {program words : List ℕ} {budget : ℕ} {r : Answer} → program ≡ drop 36 input → budget ≡ get32 input 32
      → words ≡ started input → r ≡ (run_program_call defaults program words budget netlist state).answer
      → r ≡ (run_program_call defaults (drop 36 input) (started input) (get32 input 32) netlist state).answer
  run-told netlist state e f w told = rw (← e, ← f, ← w) told

-- a program above 800 bytes is refused
too_long : (program words : List ℕ) (budget : ℕ) (netlist state : List ℕ) → 800 < length program
    → (run_program_call defaults program words budget netlist state).answer ≡ refused_answer (record { number = 1; place = 0 })
unfolding run_program_call running load verdict_of given_check pulse_wrong
too_long program words budget netlist state h = rw (long-refused defaults program h) refl

refused-text : (input : List ℕ) → 836 < length input → hubrun_text input ≡ text_of (refused_answer (record { number = 1; place = 0 }))
refused-text input h =
    long-text input (omega arith)
    ∙ ap text_of (too_long (drop 36 input) (started input) (get32 input 32) (replicate 6656 0) (replicate 41480 0) (simp length-drop (omega arith)))

pub cut-text : (input : List ℕ) → hubrun_text (take 837 input) ≡ hubrun_text input
cut-text input =
    by_bool (ltb 836 (length input))
    (λ z. let h : 836 < length input = ltb-true 836 (length input) z in
    refused-text (take 837 input) (simp length-take (omega arith)) ∙ sym (refused-text input h))
    (λ z. ap hubrun_text (take_all 837 input (omega (arith, ltb-false 836 (length input) z))))
