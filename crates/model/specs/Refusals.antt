-- Refusals: how the first one is found.
-- "First found wins, top to bottom; each carries a place and changes no lent byte. Places count from 0, and a place not named is 0."
-- Assumes nothing: definitions.
use Rattle.std.specs.Prelude.{Bool, List, [], ◌∷◌, ℕ, zero, suc, ◌+◌, eqb, Result, Ok, Err}
use Rattle.model.specs.declared.Refusal.{Refusal}
use Rattle.model.specs.declared.Written.{Written}
use Rattle.model.specs.Word.{pick}

-- the answer of a check
abbrev pub Checked : Type 0
Checked = Result (Unit {0}) Refusal

abbrev pub Accepted : Checked
Accepted = Ok tt

-- the answer of a call that wrote so many bytes or cells, with this finish
abbrev pub Done : ℕ → ℕ → Result Written Refusal
Done count finish = Ok (record { count = count; finish = finish })

abbrev pub refuse : ℕ → ℕ → Checked
refuse number place = Err (record { number = number; place = place })

-- a refusal where a condition holds
abbrev pub refuse_if : Bool → ℕ → ℕ → Checked
refuse_if condition number place = pick condition (refuse number place) Accepted

-- "When an answer is an enum, a definition gives this paper's number and values for each of its cases.": of a check the number and the place,
-- 0 where there is no refusal. The promises go by these two.
abbrev pub number_of : Checked → ℕ
number_of (Ok _) = 0
number_of (Err r) = r.number

abbrev pub place_of : Checked → ℕ
place_of (Ok _) = 0
place_of (Err r) = r.place

-- "First found wins, top to bottom"
abbrev pub first : List Checked → Checked
first [] = Accepted
first (Ok _ ∷ cs) = first cs
first (Err r ∷ cs) = Err r

-- the first of n places, from i on, that has a fault; fault gives the number of its refusal, 0 where there is none
unfoldable pub first_fault : (ℕ → ℕ) → ℕ → ℕ → Checked
first_fault fault i zero = Accepted
first_fault fault i (suc n) = pick (eqb (fault i) 0) (first_fault fault (i + 1) n) (refuse (fault i) i)

-- the number of a refusal that a condition calls for, as a fault
abbrev pub fault_if : Bool → ℕ → ℕ
fault_if condition number = pick condition number 0
