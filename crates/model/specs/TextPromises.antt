-- What is promised of programs as text, as a type: the reader of model/Reader finds the reading of model/Text, wherever there is one.
-- "An accepted text, at most 4,096 bytes, has one reading; its program's bytes are the result."
-- Assumes nothing: definitions.
use Rattle.std.specs.Prelude.{◌≡◌, true, List, [], ◌∷◌, ℕ, zero, suc, ◌≤◌, ◌<◌, length, take}
use Rattle.model.specs.declared.Options.{Options}
use Rattle.model.specs.declared.Node.{Node}
use Rattle.model.specs.declared.texts.Token.{Token}
use Rattle.model.specs.Refusals.{first, Accepted, Done}
use Rattle.model.specs.Program.{Code, preorder, node_bytes}
use Rattle.model.specs.ProgramChecks.{program_with}
use Rattle.model.specs.Text.{value_from, is_number, is_name, Lexeme, words_of, tokens, Means, BreaksAt}
use Rattle.model.specs.Reader.{good, bad}
use Rattle.model.specs.TimeTables.{Given, load}
use Rattle.model.specs.TextCalls.{reading_of, text_program, text_checks, read_text_checks, read_text_call, compile_text_checks, compile_text_call, run_text_checks, run_text_call}
use Rattle.model.specs.Calls.{verdict, written_verdict, compile_call, run_program_call}
use Rattle.model.specs.Hubrun.{decimal}
use Rattle.model.specs.Word.{Bytes}
use Rattle.model.specs.RefusalPromises.{given_numbers, program_numbers, just, Refuses, Leaves}

-- the place of word i, or the length of the text where the words are fewer
unfoldable pub place_at : ℕ → List Lexeme → ℕ → ℕ
place_at end [] i = end
place_at end (w ∷ ws) zero = w.place
place_at end (w ∷ ws) (suc i) = place_at end ws i

-- Words are on both sides of what `Texts` states, so what they are is stated by itself: a run of letters and digits is a number or a name
-- exactly if it is a numeral, or x and a numeral, as `hubrun` prints them.
pub record Words : Type 0 where
  -- "Numbers, also in names, are decimal without leading zeros, to" a limit
  pub numeral : (limit n : ℕ) → limit ≤ 65535 → n ≤ limit → is_number limit (decimal n) ≡ true
  pub number : (limit : ℕ) (w : List ℕ) → is_number limit w ≡ true → (n : ℕ) × (n ≤ limit) × (w ≡ decimal n)
  pub value : (n : ℕ) → n ≤ 65535 → value_from 0 (decimal n) ≡ n
  -- "xk", with x16 outside
  pub name : (x : ℕ) → x < 16 → is_name (120 ∷ decimal x) ≡ true
  pub named : (w : List ℕ) → is_name w ≡ true → (x : ℕ) × (x < 16) × (w ≡ 120 ∷ decimal x)

pub record Texts : Type 0 where
  -- the grammar is unambiguous
  pub one : (ts : List Token) (P Q : Code) → Means ts P → Means ts Q → P ≡ Q
  -- the reader finds the reading wherever there is one, and nothing else
  pub found : (text : List ℕ) (P : Code) → Means (tokens (words_of text)) P → reading_of text ≡ good (preorder P)
  pub read : (text : List ℕ) (ns : List Node) → reading_of text ≡ good ns → (P : Code) × Means (tokens (words_of text)) P × (ns ≡ preorder P)
  -- "18: the grammar is broken, place the first byte of the word where no continuation fits, or the length"
  pub broken : (text : List ℕ) (p : ℕ) → reading_of text ≡ bad p
      → (i : ℕ) × BreaksAt (tokens (words_of text)) i × (p ≡ place_at (length text) (words_of text) i)
  -- the bytes that an accepted text gives are those of its reading, and the program that they are is that statement
  pub program : (options : Options) (text lent : List ℕ) (n f : ℕ) → (read_text_call options text lent).answer ≡ Done n f →
      let bytes = take n (read_text_call options text lent).lent in
      (P : Code) × Means (tokens (words_of text)) P × (bytes ≡ node_bytes (preorder P)) × (program_with options bytes ≡ record { bodies = []; main = P; pulse = options.pulse })
  -- a text that passes 17 and 18 has bytes for its program, and is compiled and run as that program, of which demands 2 and 3 speak
  pub bytes : (text : List ℕ) → first (text_checks text) ≡ Accepted → Bytes (text_program text)
  pub compiled : (options : Options) (text lent : List ℕ) → first (text_checks text) ≡ Accepted
      → compile_text_call options text lent ≡ compile_call options (text_program text) lent
  pub run : (options : Options) (text words : List ℕ) (n : ℕ) (for_file lent : List ℕ) → first (text_checks text) ≡ Accepted
      → run_text_call options text words n for_file lent ≡ run_program_call options (text_program text) words n for_file lent
  -- the refusals in the published order, and what a refusal leaves
  pub reading : (G : Given) (text lent : List ℕ) →
      let c = written_verdict (read_text_call (load G) text lent).answer in
      Refuses (given_numbers ∷ just 17 ∷ just 17 ∷ just 18 ∷ program_numbers ∷ just 14 ∷ []) (read_text_checks (load G) text lent) c
      × Leaves c lent (read_text_call (load G) text lent).lent
  pub compiling : (G : Given) (text lent : List ℕ) →
      let c = written_verdict (compile_text_call (load G) text lent).answer in
      Refuses (given_numbers ∷ just 17 ∷ just 17 ∷ just 18 ∷ program_numbers ∷ just 14 ∷ []) (compile_text_checks (load G) text lent) c
      × Leaves c lent (compile_text_call (load G) text lent).lent
  pub runs : (G : Given) (text words : List ℕ) (n : ℕ) (for_file lent : List ℕ) →
      let r = run_text_call (load G) text words n for_file lent in
      let c = verdict r.answer.outcome in
      Refuses (given_numbers ∷ just 17 ∷ just 17 ∷ just 18 ∷ program_numbers ∷ just 13 ∷ just 14 ∷ just 14 ∷ just 14 ∷ [])
      (run_text_checks (load G) text words n for_file lent) c
      × Leaves c for_file r.netlist × Leaves c lent r.state
