-- Parts joined, with what is said of them and what is written, worked out by hand from the papers.
-- Assumes nothing.
use Rattle.std.specs.Prelude.{◌≡◌, refl, List, [], ◌∷◌, ◌++◌, map, ℕ, ◌*◌, length, replicate, set, Result}
use Rattle.model.specs.declared.Refusal.{Refusal}
use Rattle.model.specs.declared.Cell.{Cell}
use Rattle.model.specs.declared.Written.{Written}
use Rattle.model.specs.Refusals.{refuse, first, first_fault, Checked, Accepted, Done}
use Rattle.model.specs.Circuit.{cell}
use Rattle.model.specs.NetlistFile.{file_of}
use Rattle.model.specs.Text.{same}
use Rattle.model.specs.TimeTables.{given, beside, load, defaults}
use Rattle.model.specs.Calls.{Returned, writing}
use Rattle.model.specs.PartCalls.{Part, whole_program, parts_in, own_checks, number_wrong, nodes_up_to, nodes_fault, pulse_fault, other_fault, part_checks, join_checks, join_call}
use Rattle.model.specs.Netlists.{numbering, front, idle, array, idle_arrays, arrays}
use Rattle.model.specs.Cases.{raw, check_of_program}
use Rattle.rows.specs.NetlistRows.{check_of_file}

-- with pulses of one instant
abbrev part : List ℕ → List Cell → ℕ → Part
part s cells finish = record { program = s; file = file_of 1 cells finish; pulse = 1 }

-- ok: 27 cells, the finish is the start
abbrev rests : Part
rests = part (raw 16 0 0) (front (idle 16 (arrays []))) 0

-- tick 7: delay 3, the finish
abbrev waits : Part
waits = part (raw 17 7 0) (front (cell 34 7 0 0 ∷ idle 16 (arrays []))) 3

-- x0 := 5, d 1. Delays 3 and 4; memories 5 to 20, arrays 21 to 28; 29 constant 5, 30 the 41 on 3.
abbrev five : Part
five =
    part (raw 18 1 0 ++ raw 1 0 5)
    (front (cell 34 1 0 0 ∷ cell 34 1 3 0 ∷ cell 40 0 3 30 ∷ idle 15 (arrays (cell 1 0 5 0 ∷ cell 41 0 3 29 ∷ []))))
    4

-- five twice, in one part. Delays 3 4, 5 6; clock or 7 of 3 and 5; memories 8 to 23, arrays 24 to 31; 32 constant 5, 33 the 41 on 3, 34 constant 5, 35
-- the 41 on 5; data or 36 of 33 and 35.
abbrev twice : Part
twice =
    part (raw 19 0 0 ++ five.program ++ five.program)
    (front
    (cell 34 1 0 0 ∷ cell 34 1 3 0 ∷ cell 34 1 4 0 ∷ cell 34 1 5 0
    ∷ cell 35 0 3 5
    ∷ cell 40 0 7 36 ∷ idle 15
    (arrays (cell 1 0 5 0 ∷ cell 41 0 3 32 ∷ cell 1 0 5 0 ∷ cell 41 0 5 34 ∷ cell 7 0 33 35 ∷ []))))
    6

-- x0 := x0 + 3, d 16. Delays 3 and 4; memories 5 to 20, arrays 21 to 28; 29 constant 3, 30 sum of 5 and 29, 31 the 41 on 3.
abbrev adds : Part
adds =
    part (raw 18 16 0 ++ raw 4 0 0 ++ raw 2 0 0 ++ raw 1 0 3)
    (front
    (cell 34 16 0 0 ∷ cell 34 1 3 0 ∷ cell 40 0 3 31 ∷ idle 15 (arrays (cell 1 0 3 0 ∷ cell 4 0 5 29 ∷ cell 41 0 3 30 ∷ []))))
    4

-- a1[x0] := 7, d 1. Delays 3 and 4; memories 5 to 20, array 1 is 23 and 24; 29 constant 7, 30 the 41 of the value, 31 that of the index, which is 5.
abbrev puts : Part
puts =
    part (raw 24 1 1 ++ raw 2 0 0 ++ raw 1 0 7)
    (front
    (cell 34 1 0 0 ∷ cell 34 1 3 0
    ∷ idle 16
    (array 0 1 2 2 (array 1 3 30 31 (idle_arrays 2 2
    (cell 1 0 7 0 ∷ cell 41 0 3 29 ∷ cell 41 0 3 5 ∷ []))))))
    4

-- loop tick 1, d 1, which has no exit: its finish is ground. Delays 3 of the loop and 4; memories 5 to 20; 29 the 35 of the start and 3, which starts
-- the tick.
abbrev endless : Part
endless =
    part (raw 25 1 0 ++ raw 17 1 0) (front (cell 34 1 4 0 ∷ cell 34 1 29 0 ∷ idle 16 (arrays (cell 35 0 0 3 ∷ [])))) 1

-- Joined -----------------------------------------------------------------------------------------------------------------------------------

-- parts, and the cells and the finish of the whole
drawings : List (List Part × List Cell × ℕ)
drawings =
    -- five; adds. Delays 3 4, 5 6, and 5 starts with the first part's finish 4; clock or 7 of 3 and 5; memories 8 to 23, arrays 24 to 31. Walk:
    -- 32 constant 5, 33 the 41 on 3; 34 constant 3, 35 sum of 8 and 34, 36 the 41 on 5. Data or 37 of 33 and 36.
    (
      five ∷ adds ∷ [],
      front
          (cell 34 1 0 0 ∷ cell 34 1 3 0 ∷ cell 34 16 4 0 ∷ cell 34 1 5 0
          ∷ cell 35 0 3 5
          ∷ cell 40 0 7 37 ∷ idle 15
          (arrays (cell 1 0 5 0 ∷ cell 41 0 3 32
          ∷ cell 1 0 3 0 ∷ cell 4 0 8 34 ∷ cell 41 0 5 35
          ∷ cell 7 0 33 36 ∷ []))),
      6,
    )
    -- five; twice. The part's ors, 35 of 3 and 5 and 7 of 33 and 35, are not moved: of the whole's delays 3, 5 and 7 clock or 9 joins 3 and 5, and 10
    -- joins 9 and 7; so do the data ors 41 and 42 with the 41s 36, 38 and 40. Memories 11 to 26, arrays 27 to 34.
    ∷ (
      five ∷ twice ∷ [],
      front
          (cell 34 1 0 0 ∷ cell 34 1 3 0 ∷ cell 34 1 4 0 ∷ cell 34 1 5 0 ∷ cell 34 1 6 0 ∷ cell 34 1 7 0
          ∷ cell 35 0 3 5 ∷ cell 35 0 9 7
          ∷ cell 40 0 10 42 ∷ idle 15
          (arrays (cell 1 0 5 0 ∷ cell 41 0 3 35
          ∷ cell 1 0 5 0 ∷ cell 41 0 5 37
          ∷ cell 1 0 5 0 ∷ cell 41 0 7 39
          ∷ cell 7 0 36 38 ∷ cell 7 0 41 40 ∷ []))),
      8,
    )
    -- a part that is ok has no cell: the next starts where it starts
    ∷ (rests ∷ waits ∷ rests ∷ waits ∷ [], front (cell 34 7 0 0 ∷ cell 34 7 3 0 ∷ idle 16 (arrays [])), 4)
    ∷ (rests ∷ rests ∷ [], front (idle 16 (arrays [])), 0)
    -- one behind a loop without exits starts with ground
    ∷ (
      endless ∷ waits ∷ [],
      front (cell 34 1 4 0 ∷ cell 34 1 30 0 ∷ cell 34 7 1 0 ∷ idle 16 (arrays (cell 35 0 0 3 ∷ []))),
      5,
    )
    -- puts; five; puts. Delays 3 4, 5 6, 7 8; clock or 9 of 3 and 7, array 1's; memories 10 to 25, array 1 is 28 and 29, the walk from 34 on: 34
    -- constant 7, 35 and 36 on 3; 37 constant 5, 38 on 5; 39 constant 7, 40 and 41 on 7. Data or 42 of 35 and 40, address or 43 of 36 and 41.
    ∷ (
      puts ∷ five ∷ puts ∷ [],
      front
          (cell 34 1 0 0 ∷ cell 34 1 3 0 ∷ cell 34 1 4 0 ∷ cell 34 1 5 0 ∷ cell 34 1 6 0 ∷ cell 34 1 7 0
          ∷ cell 35 0 3 7
          ∷ cell 40 0 5 38 ∷ idle 15
          (array 0 1 2 2 (array 1 9 42 43 (idle_arrays 2 2
          (cell 1 0 7 0 ∷ cell 41 0 3 34 ∷ cell 41 0 3 10
          ∷ cell 1 0 5 0 ∷ cell 41 0 5 37
          ∷ cell 1 0 7 0 ∷ cell 41 0 7 39 ∷ cell 41 0 7 10
          ∷ cell 7 0 35 40 ∷ cell 7 0 36 41 ∷ []))))),
      8,
    )
    ∷ []

-- whoever unfolds this unfolds all that parts are joined by
unfoldable pub joining : List Part → List ℕ → Returned (Result Written Refusal)
unfolding check_of_program check_of_file numbering writing same whole_program parts_in own_checks nodes_up_to nodes_fault pulse_fault other_fault join_call
joining ps lent = join_call defaults ps lent

-- one block, and a byte more that keeps its value
abbrev room : List ℕ
room = replicate 512 0 ++ (9 ∷ [])

drawings-right : map (λ r. join_call defaults r.0 room) drawings
    ≡ map (λ r. record { answer = Done 512 r.2; lent = file_of 1 r.1 r.2 ++ (9 ∷ []) }) drawings
unfolding drawings joining
drawings-right = refl

-- five and tick 7 with pulses of 5: an assignment's second delay is 5, and the file of the whole tells 5 as theirs do
abbrev long_parts : List Part
long_parts =
    record {
      program = five.program;
      file = file_of 5 (front (cell 34 1 0 0 ∷ cell 34 5 3 0 ∷ cell 40 0 3 30 ∷ idle 15 (arrays (cell 1 0 5 0 ∷ cell 41 0 3 29 ∷ [])))) 4;
      pulse = 5;
    }
    ∷ record { program = waits.program; file = file_of 5 (front (cell 34 7 0 0 ∷ idle 16 (arrays []))) 3; pulse = 5 }
    ∷ []

longer-right : join_call defaults long_parts room
    ≡ record {
      answer = Done 512 5;
      lent = file_of 5
          (front
          (cell 34 1 0 0 ∷ cell 34 5 3 0 ∷ cell 34 7 4 0 ∷ cell 40 0 3 31 ∷ idle 15 (arrays (cell 1 0 5 0 ∷ cell 41 0 3 30 ∷ []))))
          5
          ++ (9 ∷ []);
    }
unfolding joining
longer-right = refl

-- "grouped to the right": ok, tick 7 and ok
grouped : whole_program (rests ∷ waits ∷ rests ∷ []) ≡ raw 19 0 0 ++ raw 16 0 0 ++ raw 19 0 0 ++ raw 17 7 0 ++ raw 16 0 0
unfolding joining
grouped = refl

-- Refusals ---------------------------------------------------------------------------------------------------------------------------------

-- a part of n nodes, whatever they are
abbrev sized : ℕ → Part
sized n = record { program = replicate (4 * n) 0; file = []; pulse = 1 }

-- "29: not two to eight parts, place 0"
numbers-right :
    map number_wrong ([] ∷ (sized 1 ∷ []) ∷ replicate 2 (sized 1) ∷ replicate 8 (sized 1) ∷ replicate 9 (sized 1) ∷ [])
    ≡ refuse 29 0 ∷ refuse 29 0 ∷ Accepted ∷ Accepted ∷ refuse 29 0 ∷ []
numbers-right = refl

-- "nodes of the parts so far and of the sequences between them above 200, place the first such part": 100 + 1 + 99 is 200; 60 + 1 + 70 is 131, and
-- 1 + 70 more are 202
nodes-right :
    map (λ ps. first_fault (nodes_fault ps) 0 (length ps))
    ((sized 100 ∷ sized 99 ∷ []) ∷ (sized 100 ∷ sized 100 ∷ []) ∷ (sized 60 ∷ sized 70 ∷ sized 70 ∷ sized 200 ∷ []) ∷ [])
    ≡ Accepted ∷ refuse 29 1 ∷ refuse 29 2 ∷ []
unfolding joining
nodes-right = refl

-- a program with the file of another, and with a byte of its own file changed
abbrev swapped : Part → Part → Part
swapped p q = record { program = p.program; file = q.file; pulse = p.pulse }

abbrev damaged : ℕ → ℕ → Part → Part
damaged i x p = record { program = p.program; file = set p.file i x; pulse = p.pulse }

abbrev misspelt : List ℕ → Part → Part
misspelt s p = record { program = s; file = p.file; pulse = p.pulse }

-- with another given pulse length
abbrev pulsed : ℕ → Part → Part
pulsed w p = record { program = p.program; file = p.file; pulse = w }

-- the first that the checks of parts find, and what the paper says
refusals : List (List Part × Checked)
refusals =
    (rests ∷ waits ∷ [], Accepted)
    ∷ (waits ∷ [], refuse 29 0)
    -- "31: a netlist that isn't its program's, place that part": another's, of as many cells, with another finish
    ∷ (rests ∷ swapped waits rests ∷ [], refuse 31 1)
    ∷ (swapped waits rests ∷ swapped rests waits ∷ [], refuse 31 0)
    ∷ (waits ∷ part (raw 17 8 0) (front (cell 34 7 0 0 ∷ idle 16 (arrays []))) 3 ∷ [], refuse 31 1)
    ∷ (waits ∷ part (raw 17 7 0) (front (cell 34 7 0 0 ∷ idle 16 (arrays []))) 0 ∷ [], refuse 31 1)
    -- "30: parts of differing given pulse length, place the first that differs": from part 0's; the files tell the pulse length 1
    ∷ (rests ∷ waits ∷ pulsed 2 rests ∷ pulsed 3 waits ∷ [], refuse 30 2)
    ∷ (pulsed 2 rests ∷ waits ∷ [], refuse 30 1)
    -- a file with another pulse length than its part's
    ∷ (pulsed 2 rests ∷ pulsed 2 waits ∷ [], refuse 31 0)
    -- 29 before 30 and 31, 30 before 31
    ∷ (pulsed 2 rests ∷ [], refuse 29 0)
    ∷ (swapped rests waits ∷ [], refuse 29 0)
    ∷ (swapped waits rests ∷ pulsed 2 waits ∷ [], refuse 30 1)
    -- "after each part's own checks": where there is one part alone, and a file that is another's before it
    ∷ (damaged 9 1 rests ∷ [], refuse 10 0)
    ∷ (swapped rests waits ∷ misspelt (raw 17 0 0) rests ∷ [], refuse 7 0)
    -- "part by part, program before file"
    ∷ (misspelt (raw 26 0 0) (damaged 9 1 rests) ∷ rests ∷ [], refuse 22 0)
    ∷ (damaged 9 1 rests ∷ misspelt [] rests ∷ [], refuse 10 0)
    -- 27 is the first of a part's own
    ∷ (misspelt [] rests ∷ pulsed 9 rests ∷ [], refuse 1 0)
    ∷ (pulsed 0 (misspelt [] rests) ∷ [], refuse 27 0)
    ∷ (rests ∷ pulsed 9 (misspelt [] waits) ∷ [], refuse 27 0)
    -- "without procedures"
    ∷ (rests ∷ misspelt (raw 27 1 0) rests ∷ [], refuse 24 0)
    ∷ []

refusals-right : map (λ r. first (part_checks defaults r.0)) refusals ≡ map (λ r. r.1) refusals
unfolding refusals joining
refusals-right = refl

-- the table's refusal is a part's own, and comes with no part too; 27 comes before it
tables-right :
    map (λ ps. first (part_checks (load (beside (given []) 0 1)) ps)) ([] ∷ (misspelt [] rests ∷ []) ∷ (pulsed 9 rests ∷ []) ∷ [])
    ≡ refuse 19 0 ∷ refuse 19 0 ∷ refuse 27 0 ∷ []
unfolding joining
tables-right = refl

-- 14 is last
short-right : map (λ ps. first (join_checks defaults ps (replicate 511 0))) ((rests ∷ waits ∷ []) ∷ (rests ∷ swapped waits rests ∷ []) ∷ [])
    ≡ refuse 14 0 ∷ refuse 31 1 ∷ []
unfolding joining
short-right = refl

-- Parts as they are lent ---------------------------------------------------------------------------------------------------------------------

-- a program of two bytes and a file of three, then a program of one, with a file that the end of the bytes cuts short, or that has no length; of the second
-- the pulse length is missing
lent-right :
    map (λ lengths. parts_in lengths (5 ∷ []) (11 ∷ 12 ∷ 21 ∷ 22 ∷ 23 ∷ 31 ∷ 41 ∷ 42 ∷ [])) ((2 ∷ 3 ∷ 1 ∷ 9 ∷ []) ∷ (2 ∷ 3 ∷ 1 ∷ []) ∷ [])
    ≡ (
    record { program = 11 ∷ 12 ∷ []; file = 21 ∷ 22 ∷ 23 ∷ []; pulse = 5 } ∷ record { program = 31 ∷ []; file = 41 ∷ 42 ∷ []; pulse = 0 } ∷ []
    )
    ∷ (record { program = 11 ∷ 12 ∷ []; file = 21 ∷ 22 ∷ 23 ∷ []; pulse = 5 } ∷ record { program = 31 ∷ []; file = []; pulse = 0 } ∷ [])
    ∷ []
unfolding joining
lent-right = refl
