-- Tables of operator times: the file that gives one, refusals 19 to 21; and what is given beside a program, a table, the number of procedures and the
-- pulse length, refusal 27.
-- "Clubs buy gate parts of different speeds. A one-block file gives the times". "Refusal 7 uses it; without one the built-in serves."
-- Assumes nothing: definitions.
use Rattle.std.specs.Prelude.{Bool, true, false, not, ◌&&◌, ◌||◌, List, [], ◌∷◌, ℕ, ◌%◌, eqb, leb, ltb, length, get_or}
use Rattle.model.specs.declared.Options.{Options}
use Rattle.model.specs.Word.{pick}
use Rattle.model.specs.Refusals.{refuse_if, first, first_fault, fault_if, Checked, Accepted}
use Rattle.model.specs.Program.{built_in_times}
use Rattle.model.specs.NetlistFile.{word_sum, pulse_wrong}

-- byte i of a table may not be b: "block number 0, 9 in bytes 2–3, zero in 4–5, the usual check, then nine bytes for kinds 1 to 9, the rest
-- zero. Constant and variable are 0, the others 1 to 200." "The table of S-4 has a tenth byte, and 10 in bytes 2–3."
unfoldable pub byte_wrong : ℕ → ℕ → Bool
byte_wrong i b =
    pick (eqb i 2) (not (eqb b 10))
    (pick (eqb i 6 || eqb i 7) false
    (pick (leb 10 i && leb i 17) (eqb b 0 || ltb 200 b)
    (not (eqb b 0))))

-- "21: another rule of the table broken, place the first wrong byte"
unfoldable pub table_fault : List ℕ → ℕ → ℕ
table_fault file i = fault_if (byte_wrong i (get_or file i 0)) 21

-- "20: check wrong": the usual one makes the 256 two-byte words sum to 0 modulo 65,536
unfoldable pub table_sum_wrong : List ℕ → Bool
table_sum_wrong file = not (eqb (word_sum file % 65536) 0)

-- "19: length isn't 512; 20: check wrong; 21 ..., in this order"
abbrev pub table_checks : List ℕ → List Checked
table_checks file =
    refuse_if (not (eqb (length file) 512)) 19 0
    ∷ refuse_if (table_sum_wrong file) 20 0
    ∷ first_fault (table_fault file) 0 512
    ∷ []

-- ten bytes for kinds 1 to 10: entry k is the time of kind k, and no kind is 0
unfoldable pub times_in : List ℕ → List ℕ
times_in file =
    0
    ∷ get_or file 8 0
    ∷ get_or file 9 0
    ∷ get_or file 10 0
    ∷ get_or file 11 0
    ∷ get_or file 12 0
    ∷ get_or file 13 0
    ∷ get_or file 14 0
    ∷ get_or file 15 0
    ∷ get_or file 16 0
    ∷ get_or file 17 0
    ∷ []

-- the built-in table, or one that a file gives
pub data TimeTable : Type 0 where
  built_in : TimeTable
  given : List ℕ → TimeTable

-- where a flag tells whether a file is given, and without it the file is not looked at
unfoldable pub given_if : Bool → List ℕ → TimeTable
given_if false file = built_in
given_if true file = given file

-- what its check says, and its times
unfoldable pub verdict_of : TimeTable → Checked
verdict_of built_in = Accepted
verdict_of (given file) = first (table_checks file)

unfoldable pub times_of : TimeTable → List ℕ
times_of built_in = built_in_times
times_of (given file) = times_in file

-- what is given beside a program: a table, the number of its procedures, and its pulse length
pub record Given : Type 0 where
  pub table : TimeTable
  pub procedures : ℕ
  pub pulse : ℕ

abbrev pub beside : TimeTable → ℕ → ℕ → Given
beside T k w = record { table = T; procedures = k; pulse = w }

-- what calls take
unfoldable pub load : Given → Options
load G = record { checked = verdict_of G.table; times = times_of G.table; procedures = G.procedures; pulse = G.pulse }

-- "without one the built-in serves": what stands for 'nothing given'
abbrev pub defaults : Options
defaults = load (beside built_in 0 1)

-- "27: a given pulse length not 1 to 8, before 19": the checks of what is given
abbrev pub given_checks : Options → List Checked
given_checks options = refuse_if (pulse_wrong options.pulse) 27 0 ∷ options.checked ∷ []

unfoldable pub given_check : Options → Checked
given_check options = first (given_checks options)
