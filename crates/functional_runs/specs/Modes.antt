-- A call of the simulator as a functional run: what is checked ahead of it, and how its answer is told. Assumes nothing: definitions.
use Rattle.std.specs.Prelude.{List, ◌≡◌, ℕ, Err}
use Rattle.model.specs.declared.Answer.{Answer}
use Rattle.model.specs.declared.Format.{Format}
use Rattle.model.specs.declared.Refusal.{Refusal}
use Rattle.model.specs.Refusals.{first, Checked, Accepted}
use Rattle.model.specs.NetlistFile.{file_check, cells_of, last_words}
use Rattle.model.specs.State.{now_at}
use Rattle.model.specs.Calls.{Returned, verdict, refused_answer}
use Rattle.model.specs.FunctionalCalls.{last_checks, retold}

-- c is the refusal of a file for a functional run; where there is none, the file's own refusals are still to come
pub record Ahead (file : List ℕ) (c : Checked) : Type 0 where
  pub refused : (r : Refusal) → c ≡ Err r → first (last_checks file) ≡ Err r
  pub left : c ≡ Accepted → first (last_checks file) ≡ file_check file

-- a call that the file's own check refuses leaves the list as it was
abbrev pub Refuses : List ℕ → List ℕ → Returned Answer → Type 0
Refuses file lent t = (q : Refusal) → file_check file ≡ Err q → t ≡ record { answer = refused_answer q; lent = lent }

-- an answer a and a list s at exit are those of a call
abbrev pub Answers : Returned Answer → Answer → List ℕ → Type 0
Answers t a s = (a ≡ t.answer) × (s ≡ t.lent)

-- an answer with the words of the last sixteen cells in state s
abbrev pub with_last : Format → List ℕ → Answer → List ℕ → Answer
with_last F file a s =
    record { outcome = a.outcome; instant = a.instant; count = a.count; words = last_words (cells_of file) (now_at F s) 0 16 }

-- unless it is a refusal
abbrev pub retold_as : Format → List ℕ → Answer → List ℕ → Answer
retold_as F file a s = (retold F file (verdict a.outcome) (record { answer = a; lent = s })).answer
