-- Replies read back: what their 48 bytes say, and that it is the answer that they were made from, as a type.
-- The proof is in proofs/Reading: read-back.
-- Assumes nothing: definitions.
use Rattle.model.specs.Refusals.{Checked, Accepted, Done}
use Rattle.std.specs.Prelude.{◌≡◌, List, ℕ, ◌+◌, ◌*◌, ◌<◌, eqb, length, get_or, Result, Ok, Err}
use Rattle.model.specs.declared.Refusal.{Refusal}
use Rattle.model.specs.declared.Written.{Written}
use Rattle.model.specs.declared.Outcome.{Outcome}
use Rattle.model.specs.declared.Outcome.TheVariants.{Ended, Open}
use Rattle.model.specs.declared.Answer.{Answer}
use Rattle.model.specs.Word.{pick, get16, get32}
use Rattle.model.specs.Calls.{listed, refused_answer}
use Rattle.reply.specs.Replies.{checked_reply, written_reply, answer_reply, replied}

-- the refusal, where byte 0 is 3
abbrev pub refusal_in : List ℕ → Refusal
refusal_in s = record { number = get_or s 1 0; place = get32 s 4 }

unfoldable pub checked_in : List ℕ → Checked
checked_in s = pick (eqb (get_or s 0 0) 3) (Err (refusal_in s)) Accepted

unfoldable pub written_in : List ℕ → Result Written Refusal
written_in s = pick (eqb (get_or s 0 0) 3) (Err (refusal_in s)) (Done (get32 s 8) (get32 s 12))

unfoldable pub answer_in : List ℕ → Answer
answer_in s =
    pick (eqb (get_or s 0 0) 3) (refused_answer (refusal_in s))
    (record {
      outcome = pick (eqb (get_or s 0 0) 1) Ended Open;
      instant = get32 s 8;
      count = get32 s 12;
      words = listed (λ k. get16 s (16 + 2 * k)) 0 16;
    })

-- a place, or a number of bytes or cells, that four bytes can tell
abbrev pub Told : ℕ → Type 0
Told n = n < 4294967296

abbrev pub CheckedTold : Checked → Type 0
CheckedTold (Ok _) = Unit {0}
CheckedTold (Err r) = Told r.place

abbrev pub WrittenTold : Result Written Refusal → Type 0
WrittenTold (Ok w) = Told w.count
WrittenTold (Err r) = Told r.place

-- an answer of a call: sixteen words, and a refused one tells nothing else
abbrev pub AnswerTold : Outcome → Answer → Type 0
AnswerTold Ended a = length a.words ≡ 16
AnswerTold Open a = length a.words ≡ 16
AnswerTold (Outcome.Refused r) a = Told r.place × (a ≡ refused_answer r)

pub record ReadBack (s : List ℕ) : Type 0 where
  pub checked : (c : Checked) → CheckedTold c → checked_in (replied (checked_reply c) s) ≡ c
  pub written : (w : Result Written Refusal) → WrittenTold w → written_in (replied (written_reply w) s) ≡ w
  pub answer : (a : Answer) → AnswerTold a.outcome a → answer_in (replied (answer_reply a) s) ≡ a
