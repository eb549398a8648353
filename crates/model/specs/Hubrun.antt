-- What hubrun prints for an input.
-- "It prints the word end, open or refused; after end or open the instant, then a second line of sixteen words; after refused the number
-- and place. Single spaces part them and a line feed ends each line." Bytes are written as the characters that they are: `code` of one, `ascii`
-- of a word. Assumes nothing: definitions.
use Rattle.std.specs.Prelude.{true, false, List, [], ◌∷◌, ◌++◌, map, ℕ, zero, suc, ◌+◌, ◌/◌, ◌%◌, ltb, length, take, drop, replicate}
use Prim.Native.Char.{code}
use Rattle.model.specs.declared.Outcome.{Outcome}
use Rattle.model.specs.declared.Outcome.TheVariants.{Ended, Open, Refused}
use Rattle.model.specs.declared.Answer.{Answer}
use Rattle.model.specs.Word.{pick, get32}
use Rattle.model.specs.Ascii.{ascii}
use Rattle.model.specs.TimeTables.{defaults}
use Rattle.model.specs.Calls.{refused_answer, run_program_call}

-- the decimal digits of a number of at most m digits, with no zero in front
unfoldable pub digits : ℕ → ℕ → List ℕ
digits zero n = []
digits (suc m) n = elim (ltb n 10) [ true ↦ (code "0" + n) ∷ [] | false ↦ digits m (n / 10) ++ ((code "0" + n % 10) ∷ []) ]

-- twenty are enough for every number of 64 bits
abbrev pub decimal : ℕ → List ℕ
decimal n = digits 20 n

-- words in a line
unfoldable pub line : List (List ℕ) → List ℕ
line [] = code "\n" ∷ []
line (w ∷ []) = w ++ (code "\n" ∷ [])
line (w ∷ (v ∷ ws)) = w ++ (code " " ∷ line (v ∷ ws))

abbrev pub end_word : List ℕ
end_word = ascii "end"

abbrev pub open_word : List ℕ
open_word = ascii "open"

abbrev pub refused_word : List ℕ
refused_word = ascii "refused"

unfoldable pub lines_of : Outcome → ℕ → List ℕ → List ℕ
lines_of Ended t words = line (end_word ∷ decimal t ∷ []) ++ line (map decimal words)
lines_of Open t words = line (open_word ∷ decimal t ∷ []) ++ line (map decimal words)
lines_of (Refused r) t words = line (refused_word ∷ decimal r.number ∷ decimal r.place ∷ [])

abbrev pub text_of : Answer → List ℕ
text_of a = lines_of a.outcome a.instant a.words

-- "reads 32 bytes of start words, a four-byte budget and a program"; "Input under 36 bytes is refusal 1, place 0." Its own buffers have
-- room for every netlist and state, its operator times are the built-in ones, and it is given no procedures. It starts the elements "at 0,
-- unprinted".
unfoldable pub hubrun_text : List ℕ → List ℕ
hubrun_text input =
    pick (ltb (length input) 36) (text_of (refused_answer (record { number = 1; place = 0 })))
    (text_of
    (run_program_call defaults (drop 36 input) (take 32 input ++ replicate 512 0) (get32 input 32) (replicate 6656 0) (replicate 41480 0)).answer)
