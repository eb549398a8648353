-- What the reader over all words of a text tells, and how it stands before a word.
-- Assumes nothing: definitions.
use Rattle.std.specs.Prelude.{◌≡◌, ℕ, ◌≤◌, List, [], ◌∷◌, ◌++◌, length, take, drop, nat_lt, Result, Ok, Err}
use Rattle.model.specs.declared.Refusal.{Refusal}
use Rattle.model.specs.declared.Node.{Node}
use Rattle.model.specs.declared.Options.{Options}
use Rattle.model.specs.declared.Written.{Written}
use Rattle.model.specs.Refusals.{refuse_if, first, Checked, Accepted}
use Rattle.model.specs.Text.{words_from, limit_after}
use Rattle.model.specs.Reader.{Reader, good, bad, read_from}
use Rattle.model.specs.Calls.{Returned, short, check_call, writing}
use Rattle.model.specs.TextCalls.{reading_of, text_program, text_checks}
use Rattle.text.specs.declared.machine.Machine.{Machine}
use Rattle.text.specs.Shown.{Keeps, Lists, Shows, Within, limit_of}

-- a text has so many nodes, which the list has as long as they are at most 200; or its grammar is broken at a place
unfoldable pub Parses : List ℕ → List ℕ → Result ℕ ℕ → Type 0
Parses text d (Ok n) = (ns : List Node) × (reading_of text ≡ good ns) × (n ≡ length ns) × Keeps d ns
Parses text d (Err p) = reading_of text ≡ bad p

-- the lists are as long as a machine asks for
abbrev pub Room : Lists → Type 0
Room l = (length l.stack ≡ 4096) × (length l.nodes ≡ 800)

-- before the words from place `at` on, after a token of code p, a machine shows a reader from which the reading goes on; no number of it
-- is above the place
pub record Going (text : List ℕ) (at p : ℕ) (m : Machine) (l : Lists) : Type 0 where
  pub reader : Reader
  pub shows : Shows reader m l
  pub rest : reading_of text ≡ read_from (length text) reader (words_from 0 p at (drop at text))
  pub within : Within at reader
  pub room : Room l
  pub height : (m.height ≤ at) × (m.height ≤ 4096)
  pub limited : limit_after p ≤ limit_of m.mode

-- The program of a text, as far as a list of 800 bytes has room for it: 17, 18, and 1 where it is longer ----------------------------------

abbrev pub parse_checks : List ℕ → List Checked
parse_checks text = text_checks text ++ (refuse_if (nat_lt 800 (length (text_program text))) 1 0 ∷ [])

-- what is told of it, and what the list then begins with
unfoldable pub program_told : List ℕ → Result Written Refusal
program_told text = (writing (first (parse_checks text)) [] (length (text_program text)) 0 []).answer

unfoldable pub Given : List ℕ → List ℕ → Type 0
Given text d = first (parse_checks text) ≡ Accepted → take (length (text_program text)) d ≡ text_program text

-- a program, checked with what is given beside it and put into a lent list: 19 to 21, 1 to 8, 22, 24 and 25, 14
abbrev pub give_checks : Options → List ℕ → List ℕ → List Checked
give_checks options program lent = check_call options program ∷ short (length lent) (length program) ∷ []

unfoldable pub give_call : Options → List ℕ → List ℕ → Returned (Result Written Refusal)
give_call options program lent = writing (first (give_checks options program lent)) program (length program) 0 lent
