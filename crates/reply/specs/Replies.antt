-- Replies: an answer as 48 bytes, for callers in other languages.
-- Byte 0: 0 accepted or done, 1 ended, 2 open, 3 refused; byte 1 the refusal's number; 2 and 3 zero; 4 to 7 its place; 8 to 11 a number of
-- bytes or cells, or the instant; 12 to 15 the finish cell, or the count; then the sixteen words. Assumes nothing: definitions.
use Rattle.model.specs.Refusals.{Checked}
use Rattle.std.specs.Prelude.{Bool, List, ℕ, ◌+◌, ◌*◌, ◌%◌, length, get_or, replicate, leb, Result, Ok, Err}
use Rattle.model.specs.declared.Refusal.{Refusal}
use Rattle.model.specs.declared.Written.{Written}
use Rattle.model.specs.declared.Outcome.{Outcome}
use Rattle.model.specs.declared.Outcome.TheVariants.{Ended, Open}
use Rattle.model.specs.declared.Answer.{Answer}
use Rattle.model.specs.Word.{pick, put16, put32}
use Rattle.model.specs.State.{up_to}
use Rattle.reply.specs.declared.Reply.{Reply}

abbrev plain : ℕ → ℕ → ℕ → List ℕ → Reply
plain kind first second words = record { kind = kind; number = 0; place = 0; first = first; second = second; words = words }

abbrev pub refused_reply : Refusal → Reply
refused_reply r = record { kind = 3; number = r.number; place = r.place % 4294967296; first = 0; second = 0; words = replicate 16 0 }

unfoldable pub checked_reply : Checked → Reply
checked_reply (Ok _) = plain 0 0 0 (replicate 16 0)
checked_reply (Err r) = refused_reply r

unfoldable pub written_reply : Result Written Refusal → Reply
written_reply (Ok w) = plain 0 (w.count % 4294967296) w.finish (replicate 16 0)
written_reply (Err r) = refused_reply r

unfoldable pub outcome_reply : Outcome → ℕ → ℕ → List ℕ → Reply
outcome_reply Ended t n words = plain 1 t n words
outcome_reply Open t n words = plain 2 t n words
outcome_reply (Outcome.Refused r) t n words = refused_reply r

abbrev pub answer_reply : Answer → Reply
answer_reply a = outcome_reply a.outcome a.instant a.count a.words

-- word k of a list, put into a reply
abbrev pub put_word : List ℕ → List ℕ → ℕ → List ℕ
put_word words s k = put16 s (16 + 2 * k) (get_or words k 0)

unfoldable pub replied : Reply → List ℕ → List ℕ
replied r s =
    up_to (put_word r.words) 16
    (put32 (put32 (put32 (put16 (put16 s 0 (r.kind + 256 * r.number)) 2 0) 4 r.place) 8 r.first) 12 r.second)

-- there is room for a reply; where there is none, an exported function does nothing
abbrev pub room_for : List ℕ → Bool
room_for reply = leb 48 (length reply)

-- what becomes of a lent list
abbrev pub if_room : {A : Type 0} → List ℕ → List A → List A → List A
if_room reply after before = pick (room_for reply) after before
