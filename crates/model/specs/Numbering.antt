-- The numbering: the netlist of a program, cell for cell, as paper 01's "Numbering" and "The walk" publish it.
-- Counts, finish wires, delay cells, walk cells and the assignments are recursions of their own, with the kinds in one order, so that a wire
-- that is fed by a cell that comes later needs no knot. Assumes nothing: definitions.
use Rattle.std.specs.Prelude.{List, [], ◌∷◌, ◌++◌, ℕ, zero, suc, ◌+◌, ◌-◌, ◌*◌, eqb, ltb, length, get_or}
use Rattle.model.specs.declared.Cell.{Cell}
use Rattle.model.specs.Word.{pick}
use Rattle.model.specs.Program.{Expr, const, var, compl, op, elem, Code, ok, tick, assign, assign_elem, seq, par, ite, while, repeat, loop, exit, call, array_var, Program, roots}
use Rattle.model.specs.Circuit.{cell, Netlist}

-- Expressions -------------------------------------------------------------------------------------------------------------------------
-- "An expression: children, then its cell; a variable is its memory cell." "Every read is a kind 44 (a the 42, b the index)".
-- ws x is the wire that brings the word of variable x, or the kind 42 of an array as a variable; c is the number of the next walk cell.

abbrev pub Wires : Type 0
Wires = ℕ → ℕ

-- the kind 42 of array k, where M is the first memory: "Right after the sixteenth memory stand ... array by array"
abbrev pub array_cell : ℕ → ℕ → ℕ
array_cell M k = M + 16 + 2 * k

-- the wires of the memories, and of the arrays' cells behind them
unfoldable pub memory_wires : ℕ → Wires
memory_wires M x = pick (ltb x 16) (M + x) (array_cell M (x - 16))

-- how many cells it has
unfoldable pub expr_count : Expr → ℕ
expr_count (const n) = 1
expr_count (var x) = 0
expr_count (compl e) = expr_count e + 1
expr_count (op k e f) = expr_count e + expr_count f + 1
expr_count (elem k e) = expr_count e + 1

-- the wire that has the expression's word
unfoldable pub expr_wire : Wires → Expr → ℕ → ℕ
expr_wire ws (const n) c = c
expr_wire ws (var x) c = ws x
expr_wire ws (compl e) c = c + expr_count e
expr_wire ws (op k e f) c = c + expr_count e + expr_count f
expr_wire ws (elem k e) c = c + expr_count e

unfoldable pub expr_cells : Wires → Expr → ℕ → List Cell
expr_cells ws (const n) c = cell 1 0 n 0 ∷ []
expr_cells ws (var x) c = []
expr_cells ws (compl e) c = expr_cells ws e c ++ (cell 3 0 (expr_wire ws e c) 0 ∷ [])
expr_cells ws (op k e f) c =
    expr_cells ws e c ++ (expr_cells ws f (c + expr_count e) ++ (cell k 0 (expr_wire ws e c) (expr_wire ws f (c + expr_count e)) ∷ []))
expr_cells ws (elem k e) c = expr_cells ws e c ++ (cell 44 0 (ws (array_var k)) (expr_wire ws e c) ∷ [])

-- Ors ---------------------------------------------------------------------------------------------------------------------------------

-- "k assignments in node order give k − 1 cells, each joining the result so far (as a) with the next": from number n on
unfoldable pub or_chain : ℕ → ℕ → ℕ → List ℕ → List Cell
or_chain kind acc n [] = []
or_chain kind acc n (w ∷ ws) = cell kind 0 acc w ∷ or_chain kind n (n + 1) ws

unfoldable pub or_chain_out : ℕ → ℕ → List ℕ → ℕ
or_chain_out acc n [] = acc
or_chain_out acc n (w ∷ ws) = or_chain_out n (n + 1) ws

unfoldable pub ors : ℕ → ℕ → List ℕ → List Cell
ors kind n [] = []
ors kind n (w ∷ ws) = or_chain kind w n ws

-- "A variable never assigned has clock 1 and data 2": none is that wire
unfoldable pub ors_out : ℕ → ℕ → List ℕ → ℕ
ors_out none n [] = none
ors_out none n (w ∷ ws) = or_chain_out w n ws

-- how many ors so many wires need
unfoldable pub or_count : List ℕ → ℕ
or_count [] = 0
or_count (w ∷ ws) = length ws

-- Statements --------------------------------------------------------------------------------------------------------------------------
-- s is the start wire, d the number of the next delay cell, c that of the next walk cell, δ the node's delay.

-- If, while and repeat begin with "expression, 36, 37": the 36, the 37, and the cell after them
abbrev pub on_true : Expr → ℕ → ℕ
on_true e c = c + expr_count e

abbrev pub on_false : Expr → ℕ → ℕ
on_false e c = c + expr_count e + 1

abbrev pub past_switches : Expr → ℕ → ℕ
past_switches e c = c + expr_count e + 1 + 1

-- these cells, with the pulse that they switch, and the rest of the walk
abbrev pub switches : Wires → Expr → ℕ → ℕ → List Cell → List Cell
switches ws e if_pulse c rest =
    expr_cells ws e c ++ (cell 36 0 if_pulse (expr_wire ws e c) ∷ (cell 37 0 if_pulse (expr_wire ws e c) ∷ rest))

-- "if (none when d is 0)": how many delay cells an if has of its own, which they are, and the pulse that it switches:
-- "switches take the delayed pulse, or the start in an if with d 0"
unfoldable pub if_delay_count : ℕ → ℕ
if_delay_count zero = 0
if_delay_count (suc δ) = 1

unfoldable pub if_delay_cells : ℕ → ℕ → List Cell
if_delay_cells zero s = []
if_delay_cells (suc δ) s = cell 34 (suc δ) s 0 ∷ []

unfoldable pub if_pulse : ℕ → ℕ → ℕ → ℕ
if_pulse zero s d = s
if_pulse (suc δ) s d = d

-- "tick, if (none when d is 0), while, repeat have one, and an assignment two": how many delay cells. "The loop has one delay cell";
-- a call "one delay cell, before the body starts"
unfoldable pub delay_count : Code → ℕ
delay_count ok = 0
delay_count (tick δ) = 1
delay_count (assign δ x e) = 2
delay_count (assign_elem δ k i e) = 2
delay_count (seq P Q) = delay_count P + delay_count Q
delay_count (par P Q) = delay_count P + delay_count Q
delay_count (ite δ e P Q) = if_delay_count δ + (delay_count P + delay_count Q)
delay_count (while δ e P) = 1 + delay_count P
delay_count (repeat δ e P) = 1 + delay_count P
delay_count (loop δ P) = 1 + delay_count P
delay_count exit = 0
delay_count (call δ p) = 1

-- how many exits of P end the loop around P
unfoldable pub exit_count : Code → ℕ
exit_count ok = 0
exit_count (tick δ) = 0
exit_count (assign δ x e) = 0
exit_count (assign_elem δ k i e) = 0
exit_count (seq P Q) = exit_count P + exit_count Q
exit_count (par P Q) = exit_count P + exit_count Q
exit_count (ite δ e P Q) = exit_count P + exit_count Q
exit_count (while δ e P) = exit_count P
exit_count (repeat δ e P) = exit_count P
exit_count (loop δ P) = 0
exit_count exit = 1
exit_count (call δ p) = 0

-- how many cells the walk has
unfoldable pub walk_count : Code → ℕ
walk_count ok = 0
walk_count (tick δ) = 0
walk_count (assign δ x e) = expr_count e + 1
walk_count (assign_elem δ k i e) = expr_count i + (expr_count e + 2)
walk_count (seq P Q) = walk_count P + walk_count Q
walk_count (par P Q) = walk_count P + (walk_count Q + 1)
walk_count (ite δ e P Q) = expr_count e + (2 + (walk_count P + (walk_count Q + 1)))
walk_count (while δ e P) = expr_count e + (2 + (walk_count P + 1))
walk_count (repeat δ e P) = expr_count e + (3 + walk_count P)
walk_count (loop δ P) = 1 + (walk_count P + (exit_count P - 1))
walk_count exit = 0
walk_count (call δ p) = 1

-- where the branches of an if begin: their first delay cells, and Q's first walk cell; P's is past the switches
abbrev pub then_delays : ℕ → ℕ → ℕ
then_delays δ d = d + if_delay_count δ

abbrev pub else_delays : ℕ → Code → ℕ → ℕ
else_delays δ P d = d + if_delay_count δ + delay_count P

abbrev pub else_cells : Expr → Code → ℕ → ℕ
else_cells e P c = past_switches e c + walk_count P

-- where the 35s of a loop's exits begin
abbrev pub exits_at : Code → ℕ → ℕ
exits_at P c = c + 1 + walk_count P

unfoldable mutual
  -- "The finish of ok is its start, of tick its delay, of an assignment its second delay, of a sequence that of Q." Of a parallel it is its
  -- 38, the last cell; of an if its 35, the last cell; of a while its 37; of a repeat its 36; of a loop the joined starts of its exits.
  -- "An exit's finish is ground, and so is that of a loop without exits." Of a call it is its 39.
  pub finish_wire : Code → ℕ → ℕ → ℕ → ℕ
  finish_wire ok s d c = s
  finish_wire (tick δ) s d c = d
  finish_wire (assign δ x e) s d c = d + 1
  finish_wire (assign_elem δ k i e) s d c = d + 1
  finish_wire (seq P Q) s d c = finish_wire Q (finish_wire P s d c) (d + delay_count P) (c + walk_count P)
  finish_wire (par P Q) s d c = c + walk_count P + walk_count Q
  finish_wire (ite δ e P Q) s d c = else_cells e P c + walk_count Q
  finish_wire (while δ e P) s d c = on_false e c
  finish_wire (repeat δ e P) s d c = on_true e c
  finish_wire (loop δ P) s d c = ors_out 1 (exits_at P c) (exit_wires P c (d + 1) (c + 1))
  finish_wire exit s d c = 1
  finish_wire (call δ p) s d c = c

  -- "the starts of its exits ... in node order": of the exits of P that end the loop around P
  pub exit_wires : Code → ℕ → ℕ → ℕ → List ℕ
  exit_wires ok s d c = []
  exit_wires (tick δ) s d c = []
  exit_wires (assign δ x e) s d c = []
  exit_wires (assign_elem δ k i e) s d c = []
  exit_wires (seq P Q) s d c = exit_wires P s d c ++ exit_wires Q (finish_wire P s d c) (d + delay_count P) (c + walk_count P)
  exit_wires (par P Q) s d c = exit_wires P s d c ++ exit_wires Q s (d + delay_count P) (c + walk_count P)
  exit_wires (ite δ e P Q) s d c =
      exit_wires P (on_true e c) (then_delays δ d) (past_switches e c) ++ exit_wires Q (on_false e c) (else_delays δ P d) (else_cells e P c)
  exit_wires (while δ e P) s d c = exit_wires P (on_true e c) (d + 1) (past_switches e c)
  exit_wires (repeat δ e P) s d c = exit_wires P (past_switches e c) (d + 1) (past_switches e c + 1)
  exit_wires (loop δ P) s d c = []
  exit_wires exit s d c = s ∷ []
  exit_wires (call δ p) s d c = []

-- the starts of a loop's exits
abbrev pub loop_exits : Code → ℕ → ℕ → List ℕ
loop_exits P d c = exit_wires P c (d + 1) (c + 1)

-- the finishes of an if's branches
abbrev pub then_finish : ℕ → Expr → Code → ℕ → ℕ → ℕ
then_finish δ e P d c = finish_wire P (on_true e c) (then_delays δ d) (past_switches e c)

abbrev pub else_finish : ℕ → Expr → Code → Code → ℕ → ℕ → ℕ
else_finish δ e P Q d c = finish_wire Q (on_false e c) (else_delays δ P d) (else_cells e P c)

-- "delay cells in node order": an assignment's second is "of delay 1 and fed by the first", or of delay w: "an
-- assignment's second delay is w". A while's is fed by the 35 that ends its walk,
-- a repeat's and a loop's by P's finish. "Delays not named here are fed by their node's start."
unfoldable pub delays : ℕ → Code → ℕ → ℕ → ℕ → List Cell
delays w ok s d c = []
delays w (tick δ) s d c = cell 34 δ s 0 ∷ []
delays w (assign δ x e) s d c = cell 34 δ s 0 ∷ (cell 34 w d 0 ∷ [])
delays w (assign_elem δ k i e) s d c = cell 34 δ s 0 ∷ (cell 34 w d 0 ∷ [])
delays w (seq P Q) s d c = delays w P s d c ++ delays w Q (finish_wire P s d c) (d + delay_count P) (c + walk_count P)
delays w (par P Q) s d c = delays w P s d c ++ delays w Q s (d + delay_count P) (c + walk_count P)
delays w (ite δ e P Q) s d c =
    if_delay_cells δ s
    ++ (delays w P (on_true e c) (then_delays δ d) (past_switches e c) ++ delays w Q (on_false e c) (else_delays δ P d) (else_cells e P c))
delays w (while δ e P) s d c = cell 34 δ (past_switches e c + walk_count P) 0 ∷ delays w P (on_true e c) (d + 1) (past_switches e c)
delays w (repeat δ e P) s d c =
    cell 34 δ (finish_wire P (past_switches e c) (d + 1) (past_switches e c + 1)) 0
    ∷ delays w P (past_switches e c) (d + 1) (past_switches e c + 1)
delays w (loop δ P) s d c = cell 34 δ (finish_wire P c (d + 1) (c + 1)) 0 ∷ delays w P c (d + 1) (c + 1)
delays w exit s d c = []
delays w (call δ p) s d c = cell 34 δ s 0 ∷ []

-- The walk, kind by kind:
--   "Assignment: expression, kind 41 on its first delay."
--   "An element assignment's walk is index, value, then kind 41 of the value and of the index."
--   "Q of a sequence starts with P's finish."
--   "Parallel: P, Q, 38."
--   "If: expression, 36, 37, P, Q, 35 of the two finishes."
--   "While: expression, 36 (starts P), 37 (finish), P, 35 of start and P's finish, which feeds the delay."
--   "Repeat: expression, 36 (finish), 37, 35 of start and that 37 (starts P), P, whose finish feeds the delay."
--   The loop's "walk is 35 of start and that delay (starts P), P, whose finish feeds the delay, then the starts of its exits joined by 35s in
--   node order."
--   "Each call is a one-then-two merge, control kind 39 (a its delay, b the body's finish)": F p is the finish of body p.
--   "Inputs stand in the order told".
unfoldable pub walk : Wires → (ℕ → ℕ) → Code → ℕ → ℕ → ℕ → List Cell
walk ws F ok s d c = []
walk ws F (tick δ) s d c = []
walk ws F (assign δ x e) s d c = expr_cells ws e c ++ (cell 41 0 d (expr_wire ws e c) ∷ [])
walk ws F (assign_elem δ k i e) s d c =
    expr_cells ws i c
    ++ (expr_cells ws e (c + expr_count i)
    ++ (cell 41 0 d (expr_wire ws e (c + expr_count i)) ∷ (cell 41 0 d (expr_wire ws i c) ∷ [])))
walk ws F (seq P Q) s d c = walk ws F P s d c ++ walk ws F Q (finish_wire P s d c) (d + delay_count P) (c + walk_count P)
walk ws F (par P Q) s d c =
    walk ws F P s d c
    ++ (walk ws F Q s (d + delay_count P) (c + walk_count P)
    ++ (cell 38 0 (finish_wire P s d c) (finish_wire Q s (d + delay_count P) (c + walk_count P)) ∷ []))
walk ws F (ite δ e P Q) s d c =
    switches ws e (if_pulse δ s d) c
    (walk ws F P (on_true e c) (then_delays δ d) (past_switches e c)
    ++ (walk ws F Q (on_false e c) (else_delays δ P d) (else_cells e P c) ++ (cell 35 0 (then_finish δ e P d c) (else_finish δ e P Q d c) ∷ [])))
walk ws F (while δ e P) s d c =
    switches ws e d c
    (walk ws F P (on_true e c) (d + 1) (past_switches e c)
    ++ (cell 35 0 s (finish_wire P (on_true e c) (d + 1) (past_switches e c)) ∷ []))
walk ws F (repeat δ e P) s d c =
    switches ws e d c (cell 35 0 s (on_false e c) ∷ walk ws F P (past_switches e c) (d + 1) (past_switches e c + 1))
walk ws F (loop δ P) s d c = cell 35 0 s d ∷ (walk ws F P c (d + 1) (c + 1) ++ ors 35 (exits_at P c) (loop_exits P d c))
walk ws F exit s d c = []
walk ws F (call δ p) s d c = cell 39 0 d (F p) ∷ []

-- Assignments, calls, memories and arrays --------------------------------------------------------------------------------------------------

-- an assignment's variable, with a wire of that assignment; of an element assignment it is the array as a variable. Or the procedure of a call, with
-- the call's delay
abbrev pub Source : Type 0
Source = ℕ × ℕ

-- the assignments in node order, each with its first delay cell
unfoldable pub clock_sources : Code → ℕ → List Source
clock_sources ok d = []
clock_sources (tick δ) d = []
clock_sources (assign δ x e) d = (x, d) ∷ []
clock_sources (assign_elem δ k i e) d = (array_var k, d) ∷ []
clock_sources (seq P Q) d = clock_sources P d ++ clock_sources Q (d + delay_count P)
clock_sources (par P Q) d = clock_sources P d ++ clock_sources Q (d + delay_count P)
clock_sources (ite δ e P Q) d = clock_sources P (then_delays δ d) ++ clock_sources Q (else_delays δ P d)
clock_sources (while δ e P) d = clock_sources P (d + 1)
clock_sources (repeat δ e P) d = clock_sources P (d + 1)
clock_sources (loop δ P) d = clock_sources P (d + 1)
clock_sources exit d = []
clock_sources (call δ p) d = []

-- and each with its kind 41 cell, of the value
unfoldable pub data_sources : Code → ℕ → List Source
data_sources ok c = []
data_sources (tick δ) c = []
data_sources (assign δ x e) c = (x, c + expr_count e) ∷ []
data_sources (assign_elem δ k i e) c = (array_var k, c + expr_count i + expr_count e) ∷ []
data_sources (seq P Q) c = data_sources P c ++ data_sources Q (c + walk_count P)
data_sources (par P Q) c = data_sources P c ++ data_sources Q (c + walk_count P)
data_sources (ite δ e P Q) c = data_sources P (past_switches e c) ++ data_sources Q (else_cells e P c)
data_sources (while δ e P) c = data_sources P (past_switches e c)
data_sources (repeat δ e P) c = data_sources P (past_switches e c + 1)
data_sources (loop δ P) c = data_sources P (c + 1)
data_sources exit c = []
data_sources (call δ p) c = []

-- and the element assignments, each with its kind 41 cell of the index
unfoldable pub address_sources : Code → ℕ → List Source
address_sources ok c = []
address_sources (tick δ) c = []
address_sources (assign δ x e) c = []
address_sources (assign_elem δ k i e) c = (array_var k, c + expr_count i + expr_count e + 1) ∷ []
address_sources (seq P Q) c = address_sources P c ++ address_sources Q (c + walk_count P)
address_sources (par P Q) c = address_sources P c ++ address_sources Q (c + walk_count P)
address_sources (ite δ e P Q) c = address_sources P (past_switches e c) ++ address_sources Q (else_cells e P c)
address_sources (while δ e P) c = address_sources P (past_switches e c)
address_sources (repeat δ e P) c = address_sources P (past_switches e c + 1)
address_sources (loop δ P) c = address_sources P (c + 1)
address_sources exit c = []
address_sources (call δ p) c = []

-- the calls in node order, each with its delay cell
unfoldable pub call_sources : Code → ℕ → List Source
call_sources ok d = []
call_sources (tick δ) d = []
call_sources (assign δ x e) d = []
call_sources (assign_elem δ k i e) d = []
call_sources (seq P Q) d = call_sources P d ++ call_sources Q (d + delay_count P)
call_sources (par P Q) d = call_sources P d ++ call_sources Q (d + delay_count P)
call_sources (ite δ e P Q) d = call_sources P (then_delays δ d) ++ call_sources Q (else_delays δ P d)
call_sources (while δ e P) d = call_sources P (d + 1)
call_sources (repeat δ e P) d = call_sources P (d + 1)
call_sources (loop δ P) d = call_sources P (d + 1)
call_sources exit d = []
call_sources (call δ p) d = (p, d) ∷ []

-- the wires of one variable, or the delays of the callers of one procedure
unfoldable pub wires_of : ℕ → List Source → List ℕ
wires_of x [] = []
wires_of x (w ∷ ws) = pick (eqb w.0 x) (w.1 ∷ wires_of x ws) (wires_of x ws)

-- the ors of j variables from x on
unfoldable pub ors_from : ℕ → List Source → ℕ → ℕ → ℕ → List Cell
ors_from kind ws n x zero = []
ors_from kind ws n x (suc j) = ors kind n (wires_of x ws) ++ ors_from kind ws (n + or_count (wires_of x ws)) (x + 1) j

-- and the wires that they give
unfoldable pub outs_from : ℕ → List Source → ℕ → ℕ → ℕ → List ℕ
outs_from none ws n x zero = []
outs_from none ws n x (suc j) = ors_out none n (wires_of x ws) ∷ outs_from none ws (n + or_count (wires_of x ws)) (x + 1) j

-- and how many they are
unfoldable pub or_count_from : List Source → ℕ → ℕ → ℕ
or_count_from ws x zero = 0
or_count_from ws x (suc j) = or_count (wires_of x ws) + or_count_from ws (x + 1) j

-- the memories of n variables from x on, from the clock wires and data wires of all variables
unfoldable pub memories_of : List ℕ → List ℕ → ℕ → ℕ → List Cell
memories_of ks ds x zero = []
memories_of ks ds x (suc n) = cell 40 0 (get_or ks x 0) (get_or ds x 0) ∷ memories_of ks ds (x + 1) n

-- "array by array, kind 42 (delay the array, a its clock, b its data) and next to it kind 43 (a its address": of n arrays from k on, with the
-- arrays' address wires
unfoldable pub arrays_of : List ℕ → List ℕ → List ℕ → ℕ → ℕ → List Cell
arrays_of ks ds js k zero = []
arrays_of ks ds js k (suc n) =
    cell 42 k (get_or ks (array_var k) 0) (get_or ds (array_var k) 0) ∷ (cell 43 0 (get_or js k 0) 0 ∷ arrays_of ks ds js (k + 1) n)

-- Roots -------------------------------------------------------------------------------------------------------------------------------
-- The roots are the bodies and, the last, the main program. z is the number of procedures, and so the main program's among the roots; cs are
-- all calls, r is a root's number, d its first delay cell, and c the cell at which its callers' 35s begin.

-- how many delay cells several roots have
unfoldable pub root_delay_count : List Code → ℕ
root_delay_count [] = 0
root_delay_count (P ∷ Ps) = delay_count P + root_delay_count Ps

-- "begins with the 35s that join its callers' delays in node order (ground if none)"; nobody calls the main program, whose start is cell 0
abbrev pub idle_start : ℕ → ℕ → ℕ
idle_start z r = pick (eqb r z) 0 1

abbrev pub root_start : ℕ → List Source → ℕ → ℕ → ℕ
root_start z cs r c = ors_out (idle_start z r) c (wires_of r cs)

-- where a root's own walk begins, and the next root's 35s
abbrev pub root_walk : List Source → ℕ → ℕ → ℕ
root_walk cs r c = c + or_count (wires_of r cs)

abbrev pub past_root : List Source → ℕ → Code → ℕ → ℕ
past_root cs r P c = root_walk cs r c + walk_count P

unfoldable pub root_walk_count : List Source → ℕ → List Code → ℕ
root_walk_count cs r [] = 0
root_walk_count cs r (P ∷ Ps) = or_count (wires_of r cs) + walk_count P + root_walk_count cs (r + 1) Ps

unfoldable pub root_finishes : ℕ → List Source → ℕ → List Code → ℕ → ℕ → List ℕ
root_finishes z cs r [] d c = []
root_finishes z cs r (P ∷ Ps) d c =
    finish_wire P (root_start z cs r c) d (root_walk cs r c) ∷ root_finishes z cs (r + 1) Ps (d + delay_count P) (past_root cs r P c)

unfoldable pub root_delays : ℕ → ℕ → List Source → ℕ → List Code → ℕ → ℕ → List Cell
root_delays w z cs r [] d c = []
root_delays w z cs r (P ∷ Ps) d c =
    delays w P (root_start z cs r c) d (root_walk cs r c) ++ root_delays w z cs (r + 1) Ps (d + delay_count P) (past_root cs r P c)

-- "Each body's walk comes before the main one"
unfoldable pub root_walks : Wires → (ℕ → ℕ) → ℕ → List Source → ℕ → List Code → ℕ → ℕ → List Cell
root_walks ws F z cs r [] d c = []
root_walks ws F z cs r (P ∷ Ps) d c =
    ors 35 c (wires_of r cs)
    ++ (walk ws F P (root_start z cs r c) d (root_walk cs r c) ++ root_walks ws F z cs (r + 1) Ps (d + delay_count P) (past_root cs r P c))

-- sources that go by delay cells, and those that go by cells of the walk
unfoldable pub root_sources : (Code → ℕ → List Source) → List Code → ℕ → List Source
root_sources sources [] d = []
root_sources sources (P ∷ Ps) d = sources P d ++ root_sources sources Ps (d + delay_count P)

unfoldable pub root_walk_sources : (Code → ℕ → List Source) → List Source → ℕ → List Code → ℕ → List Source
root_walk_sources sources cs r [] c = []
root_walk_sources sources cs r (P ∷ Ps) c = sources P (root_walk cs r c) ++ root_walk_sources sources cs (r + 1) Ps (past_root cs r P c)

-- The netlist --------------------------------------------------------------------------------------------------------------------------

-- "in node order": the calls and the assignments of a program
abbrev pub calls_of : Program → List Source
calls_of S = root_sources call_sources (roots S) 3

abbrev pub clocks_of : Program → List Source
clocks_of S = root_sources clock_sources (roots S) 3

-- where the clock ors, the memories, the arrays' cells, the walk, the data ors and the address ors begin. Arrays follow the variables: "clocks
-- follow the variables' clock ors, all data ors their data ors, then all address ors"
abbrev pub clock_at : Program → ℕ
clock_at S = 3 + root_delay_count (roots S)

abbrev pub memory_at : Program → ℕ
memory_at S = 3 + root_delay_count (roots S) + or_count_from (clocks_of S) 0 20

abbrev pub arrays_at : Program → ℕ
arrays_at S = memory_at S + 16

abbrev pub walk_place : Program → ℕ
walk_place S = arrays_at S + 8

abbrev pub data_at : Program → ℕ
data_at S = walk_place S + root_walk_count (calls_of S) 0 (roots S)

abbrev pub data_of : Program → List Source
data_of S = root_walk_sources data_sources (calls_of S) 0 (roots S) (walk_place S)

abbrev pub addresses_of : Program → List Source
addresses_of S = root_walk_sources address_sources (calls_of S) 0 (roots S) (walk_place S)

abbrev pub address_at : Program → ℕ
address_at S = data_at S + or_count_from (data_of S) 0 20

abbrev pub clock_wires : Program → List ℕ
clock_wires S = outs_from 1 (clocks_of S) (clock_at S) 0 20

abbrev pub data_wires : Program → List ℕ
data_wires S = outs_from 2 (data_of S) (data_at S) 0 20

abbrev pub address_wires : Program → List ℕ
address_wires S = outs_from 2 (addresses_of S) (address_at S) 16 4

-- the finish of a root: of a body, or of the main program, which is the last
abbrev pub procedures : Program → ℕ
procedures S = length S.bodies

unfoldable pub finish_of_root : Program → ℕ → ℕ
finish_of_root S r = get_or (root_finishes (procedures S) (calls_of S) 0 (roots S) 3 (walk_place S)) r 1

-- "Cell 0 is start, 1 ground, 2 constant 0. Then delay cells ... Then for variables 0 to 15 the clock ors ... Then sixteen memories. Then
-- the walk; then the data ors (kind 7)"; the arrays' cells stand "Right after the sixteenth memory"
abbrev pub head_cells : List Cell
head_cells = cell 32 0 0 0 ∷ (cell 33 0 0 0 ∷ (cell 1 0 0 0 ∷ []))

unfoldable pub netlist : Program → List Cell
netlist S =
    head_cells
    ++ (root_delays S.pulse (procedures S) (calls_of S) 0 (roots S) 3 (walk_place S)
    ++ (ors_from 35 (clocks_of S) (clock_at S) 0 20
    ++ (memories_of (clock_wires S) (data_wires S) 0 16
    ++ (arrays_of (clock_wires S) (data_wires S) (address_wires S) 0 4
    ++ (root_walks (memory_wires (memory_at S)) (finish_of_root S) (procedures S) (calls_of S) 0 (roots S) 3 (walk_place S)
    ++ (ors_from 7 (data_of S) (data_at S) 0 20
    ++ ors_from 7 (addresses_of S) (address_at S) 16 4))))))

-- the netlist and its pulse length, as they run
abbrev pub circuit_of : Program → Netlist
circuit_of S = record { cells = netlist S; pulse = S.pulse }

unfoldable pub finish : Program → ℕ
finish S = finish_of_root S (procedures S)
