-- Compiling by parts: programs that were compiled one by one, joined into the netlist file of their sequence.
-- "Two to eight parts, compiled one by one under one table and without procedures, are joined from their programs and netlist files. The file is byte
-- for byte that of the whole sequence, grouped to the right."
-- Assumes nothing: definitions.
use Rattle.std.specs.Prelude.{not, ◌&&◌, List, [], ◌∷◌, ◌++◌, ℕ, zero, suc, ◌+◌, eqb, leb, ltb, length, get_or, take, drop, Result}
use Rattle.model.specs.declared.Refusal.{Refusal}
use Rattle.model.specs.declared.Options.{Options}
use Rattle.model.specs.declared.Written.{Written}
use Rattle.model.specs.Refusals.{refuse_if, first, first_fault, fault_if, Checked}
use Rattle.model.specs.Program.{node_count}
use Rattle.model.specs.ProgramChecks.{program_with, check_of}
use Rattle.model.specs.Numbering.{finish}
use Rattle.model.specs.NetlistFile.{file_check}
use Rattle.model.specs.TimeTables.{given_check}
use Rattle.model.specs.Text.{same}
use Rattle.model.specs.Calls.{Returned, short, writing, compiled_file}

-- Parts ----------------------------------------------------------------------------------------------------------------------------------

-- the bytes of a part's program and of its netlist file, and its given pulse length
pub record Part : Type 0 where
  pub program : List ℕ
  pub file : List ℕ
  pub pulse : ℕ

-- what stands for a part that is missing
abbrev pub no_part : Part
no_part = record { program = []; file = []; pulse = 0 }

abbrev pub part_at : List Part → ℕ → Part
part_at ps i = get_or ps i no_part

-- "the whole sequence, grouped to the right": a node of kind 19 before each part but the last
unfoldable pub whole_program : List Part → List ℕ
whole_program [] = []
whole_program (p ∷ []) = p.program
whole_program (p ∷ (q ∷ ps)) = 19 ∷ 0 ∷ 0 ∷ 0 ∷ (p.program ++ whole_program (q ∷ ps))

-- "under one table and without procedures": what is given beside a part, of the options the table alone, and its pulse length
abbrev pub beside_part : Options → Part → Options
beside_part options p = record { checked = options.checked; times = options.times; procedures = 0; pulse = p.pulse }

-- and beside the whole, whose pulse length is that of part 0, as that of every part is
abbrev pub beside_whole : Options → List Part → Options
beside_whole options ps = beside_part options (part_at ps 0)

-- how parts are lent: one list of bytes, in which each part's program and then its file stand, the lengths of these in that order, and the parts' pulse
-- lengths. A length that goes past the end of the bytes leaves a shorter part, a length that is missing an empty file, and a pulse length that is missing
-- is 0, for the part's own checks to refuse; bytes behind the last part are not looked at.
unfoldable pub parts_in : List ℕ → List ℕ → List ℕ → List Part
parts_in [] pulses bytes = []
parts_in (n ∷ []) pulses bytes = record { program = take n bytes; file = []; pulse = get_or pulses 0 0 } ∷ []
parts_in (n ∷ (m ∷ lengths)) pulses bytes =
    record { program = take n bytes; file = take m (drop n bytes); pulse = get_or pulses 0 0 } ∷ parts_in lengths (drop 1 pulses) (drop (n + m) bytes)

-- Refusals -------------------------------------------------------------------------------------------------------------------------------

-- "after each part's own checks, part by part, program before file": 27 and 19 to 21 of what is given beside it; 1 to 8, 22, 24 and 25; 9 to 12. Where
-- there is no part the table is checked all the same.
unfoldable pub own_checks : Options → List Part → List Checked
own_checks options [] = options.checked ∷ []
own_checks options (p ∷ ps) =
    given_check (beside_part options p) ∷ check_of (beside_part options p) p.program ∷ file_check p.file ∷ own_checks options ps

-- "29: not two to eight parts, place 0"
abbrev pub number_wrong : List Part → Checked
number_wrong ps = refuse_if (not (leb 2 (length ps) && leb (length ps) 8)) 29 0

-- "else nodes of the parts so far and of the sequences between them": of parts 0 to i
unfoldable pub nodes_up_to : List Part → ℕ → ℕ
nodes_up_to [] i = 0
nodes_up_to (p ∷ ps) zero = node_count p.program
nodes_up_to (p ∷ ps) (suc i) = node_count p.program + 1 + nodes_up_to ps i

-- "above 200, place the first such part"
unfoldable pub nodes_fault : List Part → ℕ → ℕ
nodes_fault ps i = fault_if (ltb 200 (nodes_up_to ps i)) 29

-- "30: parts of differing given pulse length, place the first that differs": from part 0's
unfoldable pub pulse_fault : List Part → ℕ → ℕ
pulse_fault ps i = fault_if (not (eqb (part_at ps i).pulse (part_at ps 0).pulse)) 30

-- "31: a netlist that isn't its program's, place that part"
unfoldable pub other_fault : Options → List Part → ℕ → ℕ
other_fault options ps i =
    let p = part_at ps i in
    fault_if (not (same p.file (compiled_file (beside_part options p) p.program))) 31

-- "29 ...; 30 ...; 31 ...; in this order"
abbrev pub joint_checks : Options → List Part → List Checked
joint_checks options ps =
    number_wrong ps
    ∷ first_fault (nodes_fault ps) 0 (length ps)
    ∷ first_fault (pulse_fault ps) 0 (length ps)
    ∷ first_fault (other_fault options ps) 0 (length ps)
    ∷ []

-- The call -------------------------------------------------------------------------------------------------------------------------------

-- of each part 27, 19 to 21, 1 to 8, 22, 24 and 25, and 9 to 12; 29, 30, 31
abbrev pub part_checks : Options → List Part → List Checked
part_checks options ps = own_checks options ps ++ joint_checks options ps

-- "The file is byte for byte that of the whole sequence"
abbrev pub whole_file : Options → List Part → List ℕ
whole_file options ps = compiled_file (beside_whole options ps) (whole_program ps)

-- joining: these, and 14
abbrev pub join_checks : Options → List Part → List ℕ → List Checked
join_checks options ps lent = part_checks options ps ++ (short (length lent) (length (whole_file options ps)) ∷ [])

unfoldable pub join_call : Options → List Part → List ℕ → Returned (Result Written Refusal)
join_call options ps lent =
    let file = whole_file options ps in
    writing (first (join_checks options ps lent)) file (length file) (finish (program_with (beside_whole options ps) (whole_program ps))) lent
