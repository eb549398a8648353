-- The next word of a text, from a place on: what `wordsFrom` of model/Text begins with there, and where it goes on.
-- Assumes nothing.
use Rattle.std.specs.Prelude.{◌≡◌, List, [], ◌∷◌, ℕ, ◌+◌, ◌≤◌, ◌<◌, ltb, length, drop, Option, Some, None, IfSome}
use Rattle.std.specs.List.{prefix_len}
use Rattle.model.specs.declared.texts.Token.{Token}
use Rattle.model.specs.Word.{pick}
use Rattle.model.specs.Text.{blank, value_from, is_number, is_name, token_at, size_at, Lexeme, lexeme, words_from}
use Rattle.scanner.specs.declared.Scanned.{Scanned}
use Rattle.scanner.specs.declared.Words.{Words}

-- the place after the blanks from place i on
abbrev pub after_blanks : ℕ → List ℕ → ℕ
after_blanks i text = i + prefix_len blank (drop i text)

-- the number that a run is, and that of the variable which it names
unfoldable pub number_of : ℕ → List ℕ → Option ℕ
number_of limit w = pick (is_number limit w) (Some (value_from 0 w)) None

unfoldable pub name_of : List ℕ → Option ℕ
name_of w = pick (is_name w) (Some (value_from 0 (drop 1 w))) None

-- a word at place i, which ends before place e
abbrev pub a_word : Token → ℕ → ℕ → Scanned
a_word t i e = record { token = t; place = i; end = e }

-- the word at place i, where there is no blank
unfoldable pub word_here : ℕ → ℕ → List ℕ → Scanned
word_here p i text = let s = drop i text in a_word (token_at p s) i (i + size_at s)

-- the first word of a text from place i on, after a token of code p, if there is one
unfoldable pub next_word : ℕ → ℕ → List ℕ → Option Scanned
next_word p i text =
    let place = after_blanks i text in
    pick (ltb place (length text)) (Some (word_here p place text)) None

-- the words of a text from a scanned one on
unfoldable pub words_ahead : List ℕ → Option Scanned → List Lexeme
words_ahead text None = []
words_ahead text (Some w) = lexeme w.token w.place ∷ words_from 0 w.token.code w.end (drop w.end text)

-- what is left of the words after a first one that was told, or after none
pub record Steps (ws : Words) (r : Option Scanned) (left : Words) : Type 0 where
  pub first : r ≡ next_word ws.previous ws.at ws.text.now
  pub text : left.text.now ≡ ws.text.now
  pub behind : IfSome r (λ w. (left.at ≡ w.end) × (left.previous ≡ w.token.code))

-- what a first word says of the words from place `from` on: they are those from r on, which has a byte at least and ends in the text
pub record Next (text : List ℕ) (from p : ℕ) (r : Option Scanned) : Type 0 where
  pub words : words_from 0 p from (drop from text) ≡ words_ahead text r
  pub stands : IfSome r (λ w. (from ≤ w.place) × (w.place < w.end) × (w.end ≤ length text))
