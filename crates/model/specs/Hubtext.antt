-- What hubtext writes for a text.
-- The program's bytes, so that `hubtext < poll.hub` feeds hubrun, or the line `refused NUMBER PLACE`.
-- Assumes nothing: definitions.
use Rattle.std.specs.Prelude.{List, [], ◌∷◌, ℕ, take, replicate, Result, Ok, Err}
use Rattle.model.specs.declared.Refusal.{Refusal}
use Rattle.model.specs.declared.Written.{Written}
use Rattle.model.specs.Hubrun.{decimal, line, refused_word}
use Rattle.model.specs.TimeTables.{defaults}
use Rattle.model.specs.TextCalls.{read_text_call}

unfoldable pub written : Result Written Refusal → List ℕ → List ℕ
written (Ok w) program = take w.count program
written (Err r) program = line (refused_word ∷ decimal r.number ∷ decimal r.place ∷ [])

-- its own buffer, which has room for every program
abbrev pub own_buffer : List ℕ
own_buffer = replicate 800 0

-- Its operator times are the built-in ones, and it is given no procedures.
unfoldable pub hubtext_output : List ℕ → List ℕ
hubtext_output text =
    let r = read_text_call defaults text own_buffer in
    written r.answer r.lent
