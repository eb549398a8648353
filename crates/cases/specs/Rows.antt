-- What a row of the cases says: circuit and rules give the answer wanted. Answers are compared as replies (reply/Replies): bytes 0 to 15 have the
-- outcome, a refusal's number and place, the instant and the count, the others the words. Assumes nothing: definitions.
use Rattle.std.specs.Prelude.{◌≡◌, List, ℕ, zero, suc, ◌+◌, ◌-◌, ◌*◌, get_or, set, take, replicate}
use Rattle.model.specs.declared.Answer.{Answer}
use Rattle.model.specs.declared.Outcome.TheVariants.{Open}
use Rattle.model.specs.TimeTables.{built_in, beside, load}
use Rattle.model.specs.Calls.{run_program_call, reference_call}
use Rattle.model.specs.Cases.{start}
use Rattle.reply.specs.Replies.{answer_reply, replied}

-- what a run that stays open is to answer; its words are not compared
abbrev pub open_answer : ℕ → Answer
open_answer t = record { outcome = Open; instant = t; count = t + 1; words = replicate 16 0 }

abbrev pub bytes_of : Answer → List ℕ
bytes_of a = replied (answer_reply a) (replicate 48 0)

-- the same answer, but for the words of an open run (byte 0 is 2)
pub record Same (a b : Answer) : Type 0 where
  pub head : take 16 (bytes_of a) ≡ take 16 (bytes_of b)
  pub all : (get_or (bytes_of a) 0 0 ≡ 2 → ⊥) → bytes_of a ≡ bytes_of b

-- of a program with so many procedures, under the built-in times
pub record Holds (procedures : ℕ) (program : List ℕ) (word budget : ℕ) (wanted : Answer) : Type 0 where
  pub circuit : Same (run_program_call (load (beside built_in procedures 1)) program (start word) budget (replicate 6656 0) (replicate 41480 0)).answer wanted
  pub rules : Same (reference_call (load (beside built_in procedures 1)) program (start word) budget) wanted

-- a program's bytes with n nodes from i on made of one kind
unfoldable pub kinds_from : List ℕ → ℕ → ℕ → ℕ → List ℕ
kinds_from d i zero kind = d
kinds_from d i (suc n) kind = kinds_from (set d (4 * i) kind) (i + 1) n kind

abbrev pub kinds_set : List ℕ → ℕ → ℕ → ℕ → List ℕ
kinds_set d from to kind = kinds_from d from (to - from) kind
