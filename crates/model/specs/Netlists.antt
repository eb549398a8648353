-- Netlists written out by hand from the papers' text, each with its finish: rows of one table, and one theorem that the numbering gives them.
-- Every kind of statement, an if with delay 0, a variable with three assignments, two variables with ors, complement;
-- an array with two element assignments; loops with two exits, with one and with none; a procedure with two callers, one with one and one that is
-- never called. The last two are there for orders that no theorem sees, since an or is commutative: then and else, roots, variables and arrays.
-- Assumes nothing.
use Rattle.std.specs.Prelude.{◌≡◌, refl, List, [], ◌∷◌, map, ℕ, zero, suc, ◌+◌}
use Rattle.model.specs.declared.Cell.{Cell}
use Rattle.model.specs.Program.{const, var, compl, op, elem, Code, Program, alone, ok, tick, assign, assign_elem, seq, par, ite, while, repeat, loop, exit, call}
use Rattle.model.specs.Circuit.{cell}
use Rattle.model.specs.Numbering.{netlist, finish, memory_wires, expr_count, expr_wire, expr_cells, if_delay_count, if_pulse, if_delay_cells, delay_count, exit_count, walk_count, finish_wire, exit_wires, delays, walk, clock_sources, data_sources, address_sources, call_sources, wires_of, or_chain, or_chain_out, ors, ors_out, or_count, ors_from, outs_from, or_count_from, memories_of, arrays_of, root_delay_count, root_walk_count, root_finishes, root_delays, root_walks, root_sources, root_walk_sources, finish_of_root}

-- whoever unfolds this unfolds all that a netlist is made by
unfoldable pub numbering : Program → List Cell
unfolding netlist finish memory_wires expr_count expr_wire expr_cells if_delay_count if_pulse if_delay_cells delay_count exit_count walk_count finish_wire exit_wires delays walk clock_sources data_sources address_sources call_sources wires_of or_chain or_chain_out ors ors_out or_count ors_from outs_from or_count_from memories_of arrays_of root_delay_count root_walk_count root_finishes root_delays root_walks root_sources root_walk_sources finish_of_root
numbering S = netlist S

-- a program, and its netlist and finish drawn by hand
record Drawn : Type 0 where
  program : Program
  cells : List Cell
  end : ℕ

-- cells 0 to 2, n memories of variables never assigned, and the four arrays, never assigned
abbrev pub front : List Cell → List Cell
front l = cell 32 0 0 0 ∷ cell 33 0 0 0 ∷ cell 1 0 0 0 ∷ l

abbrev pub idle : ℕ → List Cell → List Cell
idle zero l = l
idle (suc n) l = cell 40 0 1 2 ∷ idle n l

-- the two cells of array k, with its clock c, data d and address j
abbrev pub array : ℕ → ℕ → ℕ → ℕ → List Cell → List Cell
array k c d j l = cell 42 k c d ∷ cell 43 0 j 0 ∷ l

-- n arrays from k on, and all four, never assigned
abbrev pub idle_arrays : ℕ → ℕ → List Cell → List Cell
idle_arrays k zero l = l
idle_arrays k (suc n) l = array k 1 2 2 (idle_arrays (k + 1) n l)

abbrev pub arrays : List Cell → List Cell
arrays l = idle_arrays 0 4 l

-- Case 1, ok: the 27 cells that every netlist has; the finish is the start.
case1 : Drawn
case1 = record { program = alone ok; cells = front (idle 16 (arrays [])); end = 0 }

-- Case 2, x0 := 5, d 1. Delays 3 and 4; memories 5 to 20; 29 constant 5, 30 the 41 on 3.
case2 : Drawn
case2 =
    record {
      program = alone (assign 1 0 (const 5));
      cells = front (cell 34 1 0 0 ∷ cell 34 1 3 0 ∷ cell 40 0 3 30 ∷ idle 15 (arrays (cell 1 0 5 0 ∷ cell 41 0 3 29 ∷ [])));
      end = 4;
    }

-- Case 3, x0 := x0 + 3; x0 := x0 + 4, d 16 each. Delays 3 4, 5 6; clock or 7 of 3 and 5; memories 8 to 23.
-- Walk: 32 constant 3, 33 sum of 8 and 32, 34 the 41 on 3; 35 constant 4, 36 sum, 37 the 41 on 5. Data or 38 of 34 and 37.
case3 : Drawn
case3 =
    record {
      program = alone (seq (assign 16 0 (op 4 (var 0) (const 3))) (assign 16 0 (op 4 (var 0) (const 4))));
      cells =
          front
          (cell 34 16 0 0 ∷ cell 34 1 3 0 ∷ cell 34 16 4 0 ∷ cell 34 1 5 0
          ∷ cell 35 0 3 5
          ∷ cell 40 0 7 38 ∷ idle 15
          (arrays (cell 1 0 3 0 ∷ cell 4 0 8 32 ∷ cell 41 0 3 33
          ∷ cell 1 0 4 0 ∷ cell 4 0 8 35 ∷ cell 41 0 5 36
          ∷ cell 7 0 34 37 ∷ [])));
      end = 6;
    }

-- Case 4, tick 3 parallel tick 5. Delays 3 and 4; memories 5 to 20; merge 29, the finish.
case4 : Drawn
case4 =
    record {
      program = alone (par (tick 3) (tick 5));
      cells = front (cell 34 3 0 0 ∷ cell 34 5 0 0 ∷ idle 16 (arrays (cell 38 0 3 4 ∷ [])));
      end = 29;
    }

-- Case 6, while x0 (d 1) do x0 := x0 − 1 (d 17). Delay 3 of the while, 4 5 of the assignment; memories 6 to 21.
-- Walk: 30 the 36 of 3 and x0 (6), 31 the 37, the finish; 32 constant 1, 33 difference of 6 and 32, 34 the 41 on 4; 35 the 35 of the start
-- and 5, which feeds 3.
case6 : Drawn
case6 =
    record {
      program = alone (while 1 (var 0) (assign 17 0 (op 5 (var 0) (const 1))));
      cells =
          front
          (cell 34 1 35 0 ∷ cell 34 17 30 0 ∷ cell 34 1 4 0
          ∷ cell 40 0 4 34 ∷ idle 15
          (arrays (cell 36 0 3 6 ∷ cell 37 0 3 6
          ∷ cell 1 0 1 0 ∷ cell 5 0 6 32 ∷ cell 41 0 4 33
          ∷ cell 35 0 0 5 ∷ [])));
      end = 31;
    }

-- Case 7, repeat x0 := x0 − 1 (d 17) until x0 = 0 (d 6). Delay 3 of the repeat, fed by 5; 4 5 of the assignment; memories 6 to 21.
-- Walk: 30 constant 0, 31 equal of 6 and 30, 32 the 36 on 3, the finish, 33 the 37, 34 the 35 of the start and 33, which starts P;
-- 35 constant 1, 36 difference of 6 and 35, 37 the 41 on 4.
case7 : Drawn
case7 =
    record {
      program = alone (repeat 6 (op 8 (var 0) (const 0)) (assign 17 0 (op 5 (var 0) (const 1))));
      cells =
          front
          (cell 34 6 5 0 ∷ cell 34 17 34 0 ∷ cell 34 1 4 0
          ∷ cell 40 0 4 37 ∷ idle 15
          (arrays (cell 1 0 0 0 ∷ cell 8 0 6 30
          ∷ cell 36 0 3 31 ∷ cell 37 0 3 31 ∷ cell 35 0 0 33
          ∷ cell 1 0 1 0 ∷ cell 5 0 6 35 ∷ cell 41 0 4 36 ∷ [])));
      end = 32;
    }

-- Case 8, if x0 (d 0) then tick 1 else tick 9. No delay cell of its own: 3 fed by the 36, 4 by the 37; memories 5 to 20.
-- Walk: 29 the 36 of the start and x0 (5), 30 the 37, 31 the 35 of the finishes.
case8 : Drawn
case8 =
    record {
      program = alone (ite 0 (var 0) (tick 1) (tick 9));
      cells = front (cell 34 1 29 0 ∷ cell 34 9 30 0 ∷ idle 16 (arrays (cell 36 0 0 5 ∷ cell 37 0 0 5 ∷ cell 35 0 3 4 ∷ [])));
      end = 31;
    }

-- Case 12, while x0 (d 1) do (x0 := x0 − 1, d 17, parallel tick 2). Delays 3 of the while, 4 5 of the assignment, 6 of the tick; memories 7
-- to 22. Walk: 31 the 36 of 3 and x0 (7), 32 the 37, the finish; 33 constant 1, 34 difference of 7 and 33, 35 the 41 on 4; 36 the merge of
-- 5 and 6; 37 the 35 of the start and 36, which feeds 3.
case12 : Drawn
case12 =
    record {
      program = alone (while 1 (var 0) (par (assign 17 0 (op 5 (var 0) (const 1))) (tick 2)));
      cells =
          front
          (cell 34 1 37 0 ∷ cell 34 17 31 0 ∷ cell 34 1 4 0 ∷ cell 34 2 31 0
          ∷ cell 40 0 4 35 ∷ idle 15
          (arrays (cell 36 0 3 7 ∷ cell 37 0 3 7
          ∷ cell 1 0 1 0 ∷ cell 5 0 7 33 ∷ cell 41 0 4 34
          ∷ cell 38 0 5 6
          ∷ cell 35 0 0 36 ∷ [])));
      end = 32;
    }

-- Three assignments to x1, two to x3, and an if with a delay; assignments have d 2:
-- x1 := 7; (if ~x2 (d 4) then x3 := 8 else x1 := 9); x1 := 10; x3 := 11.
-- Delays: 3 4 x1; 5 if; 6 7 x3; 8 9 x1; 10 11 x1; 12 13 x3. Clock ors: 14 = 3|8, 15 = 14|10 (x1); 16 = 6|12 (x3). Memories 17 to 32.
-- Walk: 41 constant 7, 42 the 41 on 3; 43 complement of x2 (19), 44 the 36 on 5, 45 the 37 on 5; 46 constant 8, 47 the 41 on 6;
-- 48 constant 9, 49 the 41 on 8; 50 the 35 of 7 and 9; 51 constant 10, 52 the 41 on 10; 53 constant 11, 54 the 41 on 12.
-- Data ors: 55 = 42|49, 56 = 55|52 (x1); 57 = 47|54 (x3).
mixed : Drawn
mixed =
    record {
      program =
          alone
          (seq (assign 2 1 (const 7))
          (seq (ite 4 (compl (var 2)) (assign 2 3 (const 8)) (assign 2 1 (const 9)))
          (seq (assign 2 1 (const 10)) (assign 2 3 (const 11)))));
      cells =
          front
          (cell 34 2 0 0 ∷ cell 34 1 3 0
          ∷ cell 34 4 4 0
          ∷ cell 34 2 44 0 ∷ cell 34 1 6 0
          ∷ cell 34 2 45 0 ∷ cell 34 1 8 0
          ∷ cell 34 2 50 0 ∷ cell 34 1 10 0
          ∷ cell 34 2 11 0 ∷ cell 34 1 12 0
          ∷ cell 35 0 3 8 ∷ cell 35 0 14 10 ∷ cell 35 0 6 12
          ∷ cell 40 0 1 2 ∷ cell 40 0 15 56 ∷ cell 40 0 1 2 ∷ cell 40 0 16 57 ∷ idle 12
          (arrays (cell 1 0 7 0 ∷ cell 41 0 3 41
          ∷ cell 3 0 19 0 ∷ cell 36 0 5 43 ∷ cell 37 0 5 43
          ∷ cell 1 0 8 0 ∷ cell 41 0 6 46
          ∷ cell 1 0 9 0 ∷ cell 41 0 8 48
          ∷ cell 35 0 7 9
          ∷ cell 1 0 10 0 ∷ cell 41 0 10 51
          ∷ cell 1 0 11 0 ∷ cell 41 0 12 53
          ∷ cell 7 0 42 49 ∷ cell 7 0 55 52 ∷ cell 7 0 47 54 ∷ [])));
      end = 13;
    }

-- Array 2 read once and assigned twice, array 0 read: x1 := a2[x0] (d 4); a2[x1] := 7 (d 1); a2[5] := a0[x1] (d 4).
-- Delays: 3 4 x1; 5 6 and 7 8 a2. Clock or 9 = 5|7 (a2). Memories 10 to 25. Arrays 26 27, 28 29, 30 31, 32 33.
-- Walk: 34 the 44 of 30 and x0 (10), 35 the 41 on 3; the index is x1 (11), 36 constant 7, 37 the 41 on 5 of 36, 38 that of 11;
-- 39 constant 5, 40 the 44 of 26 and 11, 41 the 41 on 7 of 40, 42 that of 39. Data or 43 = 37|41, address or 44 = 38|42 (a2).
elements : Drawn
elements =
    record {
      program =
          alone
          (seq (assign 4 1 (elem 2 (var 0))) (seq (assign_elem 1 2 (var 1) (const 7)) (assign_elem 4 2 (const 5) (elem 0 (var 1)))));
      cells =
          front
          (cell 34 4 0 0 ∷ cell 34 1 3 0 ∷ cell 34 1 4 0 ∷ cell 34 1 5 0 ∷ cell 34 4 6 0 ∷ cell 34 1 7 0
          ∷ cell 35 0 5 7
          ∷ cell 40 0 1 2 ∷ cell 40 0 3 35 ∷ idle 14
          (idle_arrays 0 2 (array 2 9 43 44 (idle_arrays 3 1
          (cell 44 0 30 10 ∷ cell 41 0 3 34
          ∷ cell 1 0 7 0 ∷ cell 41 0 5 36 ∷ cell 41 0 5 11
          ∷ cell 1 0 5 0 ∷ cell 44 0 26 11 ∷ cell 41 0 7 40 ∷ cell 41 0 7 39
          ∷ cell 7 0 37 41 ∷ cell 7 0 38 42 ∷ [])))));
      end = 8;
    }

-- A loop with two exits: loop (d 2) { (if x0 (d 0) then exit else tick 4); if x1 (d 1) then exit else ok }.
-- Delays: 3 of the loop, fed by P's finish 36; 4 of the tick; 5 of the second if. Memories 6 to 21.
-- Walk: 30 the 35 of the start and 3, which starts P; 31 the 36 of 30 and x0 (6), 32 the 37, 33 the 35 of ground and 4;
-- 34 the 36 of 5 and x1 (7), 35 the 37, 36 the 35 of ground and 35; 37 the 35 of the exits' starts 31 and 34, the finish.
polling : Drawn
polling =
    record {
      program = alone (loop 2 (seq (ite 0 (var 0) exit (tick 4)) (ite 1 (var 1) exit ok)));
      cells =
          front
          (cell 34 2 36 0 ∷ cell 34 4 32 0 ∷ cell 34 1 33 0 ∷ idle 16
          (arrays (cell 35 0 0 3
          ∷ cell 36 0 30 6 ∷ cell 37 0 30 6 ∷ cell 35 0 1 4
          ∷ cell 36 0 5 7 ∷ cell 37 0 5 7 ∷ cell 35 0 1 35
          ∷ cell 35 0 31 34 ∷ [])));
      end = 37;
    }

-- A loop without exits around one with an exit: loop (d 3) loop (d 1) { tick 2; exit }.
-- Delays: 3 and 4 of the loops, fed by 5, the inner loop's finish, and by ground, the exit's; 5 of the tick. Memories 6 to 21.
-- Walk: 30 the 35 of the start and 3, 31 the 35 of 30 and 4. The finish is ground.
endless : Drawn
endless =
    record {
      program = alone (loop 3 (loop 1 (seq (tick 2) exit)));
      cells =
          front
          (cell 34 3 5 0 ∷ cell 34 1 1 0 ∷ cell 34 2 31 0 ∷ idle 16 (arrays (cell 35 0 0 3 ∷ cell 35 0 30 4 ∷ [])));
      end = 1;
    }

-- Procedure 0 is x0 := x0 + 1 (d 16) with two callers, procedure 1 is ok and is never called, procedure 2 is call 0 (d 1); tick 2. The main program is
-- call 2 (d 3); call 0 (d 5).
-- Delays: 3 4 of procedure 0; 5 of procedure 2's call, fed by its start 7; 6 of its tick, fed by its 39, 37; 7 of the main program's first call, fed by
-- start, 8 of its second, fed by the 39 of the first, 38. No clock ors. Memories 9 to 24. Arrays 25 to 32.
-- Walk: procedure 0: 33 the 35 of its callers' delays 5 and 8, which feeds 3; 34 constant 1, 35 sum of x0 (9) and 34, 36 the 41 on 3. Procedure 1 has no
-- cells: its start and its finish are ground. Procedure 2 starts with 7: 37 the 39 of 5 and 4, procedure 0's finish, feeds 6. Main: 38 the 39 of 7
-- and 6, procedure 2's finish, feeds 8; 39 the 39 of 8 and 4, the finish.
procedures : Drawn
procedures =
    record {
      program = record {
        bodies = assign 16 0 (op 4 (var 0) (const 1)) ∷ ok ∷ seq (call 1 0) (tick 2) ∷ [];
        main = seq (call 3 2) (call 5 0);
        pulse = 1;
      };
      cells =
          front
          (cell 34 16 33 0 ∷ cell 34 1 3 0
          ∷ cell 34 1 7 0 ∷ cell 34 2 37 0
          ∷ cell 34 3 0 0 ∷ cell 34 5 38 0
          ∷ cell 40 0 3 36 ∷ idle 15
          (arrays (cell 35 0 5 8 ∷ cell 1 0 1 0 ∷ cell 4 0 9 34 ∷ cell 41 0 3 35
          ∷ cell 39 0 5 4
          ∷ cell 39 0 7 6 ∷ cell 39 0 8 4 ∷ [])));
      end = 39;
    }

-- The branches of an if assign the same variable, call the same procedure and exit from the same loop; what is joined comes in node order, the then
-- first. Procedure 0 is ok; loop (d 3) if x0 (d 1) then { x0 := 1; call 0 (d 1); exit } else { x0 := 2; call 0 (d 2); exit }, assignments with d 1.
-- Delays: 3 of the loop, fed by the if's finish 46; 4 of the if, fed by 37; 5 6 and 7 of the then, 8 9 and 10 of the else. Clock or 11 = 5|8.
-- Memories 12 to 27. Arrays 28 to 35. Walk: procedure 0: 36 the 35 of its callers' delays 7 and 10, its start and finish. Main: 37 the 35 of the start
-- and 3; 38 the 36 of 4 and x0 (12), 39 the 37; 40 constant 1, 41 the 41 on 5, 42 the 39 of 7 and 36, the first exit's start; 43 constant 2, 44 the 41
-- on 8, 45 the 39 of 10 and 36, the second exit's start; 46 the 35 of ground and ground; 47 the 35 of the exits' starts 42 and 45, the finish.
-- Data or 48 = 41|44.
branches : Drawn
branches =
    record {
      program = record {
        bodies = ok ∷ [];
        main = loop 3 (ite 1 (var 0) (seq (assign 1 0 (const 1)) (seq (call 1 0) exit)) (seq (assign 1 0 (const 2)) (seq (call 2 0) exit)));
        pulse = 1;
      };
      cells =
          front
          (cell 34 3 46 0 ∷ cell 34 1 37 0
          ∷ cell 34 1 38 0 ∷ cell 34 1 5 0 ∷ cell 34 1 6 0
          ∷ cell 34 1 39 0 ∷ cell 34 1 8 0 ∷ cell 34 2 9 0
          ∷ cell 35 0 5 8
          ∷ cell 40 0 11 48 ∷ idle 15
          (arrays (cell 35 0 7 10
          ∷ cell 35 0 0 3 ∷ cell 36 0 4 12 ∷ cell 37 0 4 12
          ∷ cell 1 0 1 0 ∷ cell 41 0 5 40 ∷ cell 39 0 7 36
          ∷ cell 1 0 2 0 ∷ cell 41 0 8 43 ∷ cell 39 0 10 36
          ∷ cell 35 0 1 1 ∷ cell 35 0 42 45
          ∷ cell 7 0 41 44 ∷ [])));
      end = 47;
    }

-- x0, a1 and a2 assigned twice by a body and twice by the main program, in this order, with d 1 and constants that count on from 1; before it the main
-- program calls the body (d 1). Sources come root by root; clock ors by variable and then by array, all data ors before all address ors.
-- Delays: 3 to 14 of the body, fed by the caller's delay 15; 16 to 27 of the main program, fed by the call's 39, 81. Clock ors: 28 = 3|5, 29 = 28|16,
-- 30 = 29|18 (x0); 31 = 7|9, 32 = 31|20, 33 = 32|22 (a1); 34 = 11|13, 35 = 34|24, 36 = 35|26 (a2). Memories 37 to 52. Arrays 53 to 60.
-- Walk: 61 to 80 the body, 81 the 39 of 15 and 14, the body's finish, 82 to 101 the rest: constants with their 41s; of an element index, value, the 41 of
-- the value, that of the index. Data ors: 102 = 62|64, 103 = 102|83, 104 = 103|85 (x0); 105 = 67|71, 106 = 105|88, 107 = 106|92 (a1); 108 = 75|79,
-- 109 = 108|96, 110 = 109|100 (a2). Address ors: 111 = 68|72, 112 = 111|89, 113 = 112|93 (a1); 114 = 76|80, 115 = 114|97, 116 = 115|101 (a2).
abbrev assigning : ℕ → Code
assigning n =
    seq (assign 1 0 (const n))
    (seq (assign 1 0 (const (n + 1)))
    (seq (assign_elem 1 1 (const (n + 2)) (const (n + 3)))
    (seq (assign_elem 1 1 (const (n + 4)) (const (n + 5)))
    (seq (assign_elem 1 2 (const (n + 6)) (const (n + 7))) (assign_elem 1 2 (const (n + 8)) (const (n + 9)))))))

roots : Drawn
roots =
    record {
      program = record { bodies = assigning 1 ∷ []; main = seq (call 1 0) (assigning 11); pulse = 1 };
      cells =
          front
          (cell 34 1 15 0 ∷ cell 34 1 3 0 ∷ cell 34 1 4 0 ∷ cell 34 1 5 0 ∷ cell 34 1 6 0 ∷ cell 34 1 7 0
          ∷ cell 34 1 8 0 ∷ cell 34 1 9 0 ∷ cell 34 1 10 0 ∷ cell 34 1 11 0 ∷ cell 34 1 12 0 ∷ cell 34 1 13 0
          ∷ cell 34 1 0 0
          ∷ cell 34 1 81 0 ∷ cell 34 1 16 0 ∷ cell 34 1 17 0 ∷ cell 34 1 18 0 ∷ cell 34 1 19 0 ∷ cell 34 1 20 0
          ∷ cell 34 1 21 0 ∷ cell 34 1 22 0 ∷ cell 34 1 23 0 ∷ cell 34 1 24 0 ∷ cell 34 1 25 0 ∷ cell 34 1 26 0
          ∷ cell 35 0 3 5 ∷ cell 35 0 28 16 ∷ cell 35 0 29 18
          ∷ cell 35 0 7 9 ∷ cell 35 0 31 20 ∷ cell 35 0 32 22
          ∷ cell 35 0 11 13 ∷ cell 35 0 34 24 ∷ cell 35 0 35 26
          ∷ cell 40 0 30 104 ∷ idle 15
          (idle_arrays 0 1 (array 1 33 107 113 (array 2 36 110 116 (idle_arrays 3 1
          (cell 1 0 1 0 ∷ cell 41 0 3 61 ∷ cell 1 0 2 0 ∷ cell 41 0 5 63
          ∷ cell 1 0 3 0 ∷ cell 1 0 4 0 ∷ cell 41 0 7 66 ∷ cell 41 0 7 65
          ∷ cell 1 0 5 0 ∷ cell 1 0 6 0 ∷ cell 41 0 9 70 ∷ cell 41 0 9 69
          ∷ cell 1 0 7 0 ∷ cell 1 0 8 0 ∷ cell 41 0 11 74 ∷ cell 41 0 11 73
          ∷ cell 1 0 9 0 ∷ cell 1 0 10 0 ∷ cell 41 0 13 78 ∷ cell 41 0 13 77
          ∷ cell 39 0 15 14
          ∷ cell 1 0 11 0 ∷ cell 41 0 16 82 ∷ cell 1 0 12 0 ∷ cell 41 0 18 84
          ∷ cell 1 0 13 0 ∷ cell 1 0 14 0 ∷ cell 41 0 20 87 ∷ cell 41 0 20 86
          ∷ cell 1 0 15 0 ∷ cell 1 0 16 0 ∷ cell 41 0 22 91 ∷ cell 41 0 22 90
          ∷ cell 1 0 17 0 ∷ cell 1 0 18 0 ∷ cell 41 0 24 95 ∷ cell 41 0 24 94
          ∷ cell 1 0 19 0 ∷ cell 1 0 20 0 ∷ cell 41 0 26 99 ∷ cell 41 0 26 98
          ∷ cell 7 0 62 64 ∷ cell 7 0 102 83 ∷ cell 7 0 103 85
          ∷ cell 7 0 67 71 ∷ cell 7 0 105 88 ∷ cell 7 0 106 92
          ∷ cell 7 0 75 79 ∷ cell 7 0 108 96 ∷ cell 7 0 109 100
          ∷ cell 7 0 68 72 ∷ cell 7 0 111 89 ∷ cell 7 0 112 93
          ∷ cell 7 0 76 80 ∷ cell 7 0 114 97 ∷ cell 7 0 115 101 ∷ []))))));
      end = 27;
    }

drawings : List Drawn
drawings = case1 ∷ case2 ∷ case3 ∷ case4 ∷ case6 ∷ case7 ∷ case8 ∷ case12 ∷ mixed ∷ elements ∷ polling ∷ endless ∷ procedures ∷ branches ∷ roots ∷ []

abbrev given : Drawn → List Cell × ℕ
given d = (netlist d.program, finish d.program)

abbrev drawing : Drawn → List Cell × ℕ
drawing d = (d.cells, d.end)

drawings-right : map given drawings ≡ map drawing drawings
unfolding drawings case1 case2 case3 case4 case6 case7 case8 case12 mixed elements polling endless procedures branches roots numbering
drawings-right = refl
