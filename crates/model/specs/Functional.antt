-- The functional netlist of a program, cell for cell: "document 001's functional circuits for the kinds of document 01". "The wiring is free", so this is ours.
-- A statement's cells stand together, from number c on; s is its start wire and ws x the wire that brings it the word of variable x. It hands on words on
-- wires of its own (`outs`), and only loops latch them.
-- Refusal 28 leaves no statement of another kind; what stands here for one is never compiled.
-- Assumes nothing: definitions.
use Rattle.std.specs.Prelude.{Bool, ◌||◌, List, [], ◌∷◌, ◌++◌, ℕ, zero, suc, ◌+◌, eqb}
use Rattle.model.specs.declared.Cell.{Cell}
use Rattle.model.specs.Word.{pick}
use Rattle.model.specs.Program.{Expr, Stmt, ok, tick, assign, assign_elem, seq, par, ite, while, repeat, loop, exit, writes, call}
use Rattle.model.specs.Circuit.{cell}
use Rattle.model.specs.Numbering.{Wires, expr_count, expr_wire, expr_cells, switches, if_delay_count, if_delay_cells, if_pulse, head_cells}

-- where the memories stand, and the arrays' cells
abbrev pub memory_at : ℕ
memory_at = 3

abbrev pub arrays_at : ℕ
arrays_at = 19

-- A cell for each variable -------------------------------------------------------------------------------------------------------------------

-- a cell for each of n variables from x on
unfoldable pub rows : (ℕ → Cell) → ℕ → ℕ → List Cell
rows f x zero = []
rows f x (suc n) = f x ∷ rows f (x + 1) n

abbrev pub sixteen : (ℕ → Cell) → List Cell
sixteen f = rows f 0 16

-- and for each of b among them
unfoldable pub rows_of : (ℕ → Bool) → (ℕ → Cell) → ℕ → ℕ → List Cell
rows_of b f x zero = []
rows_of b f x (suc n) = pick (b x) (f x ∷ rows_of b f (x + 1) n) (rows_of b f (x + 1) n)

abbrev pub each : (ℕ → Bool) → (ℕ → Cell) → List Cell
each b f = rows_of b f 0 16

-- how many of b are among n variables from x on
unfoldable pub among : (ℕ → Bool) → ℕ → ℕ → ℕ
among b x zero = 0
among b x (suc n) = pick (b x) (1 + among b (x + 1) n) (among b (x + 1) n)

-- how many of b are below x, and how many in all
abbrev pub rank : (ℕ → Bool) → ℕ → ℕ
rank b x = among b 0 x

abbrev pub many : (ℕ → Bool) → ℕ
many b = among b 0 16

-- the wires of cells at a, one for each of b; the others are those of ws
abbrev pub placed : (ℕ → Bool) → ℕ → Wires → Wires
placed b a ws x = pick (b x) (a + rank b x) (ws x)

-- for each variable of b the or of two cells: the firsts at a, then the seconds, then the ors, with the result, at `joins_at b a`
abbrev pub joins_at : (ℕ → Bool) → ℕ → ℕ
joins_at b a = a + many b + many b

unfoldable pub choices : (ℕ → Bool) → (ℕ → Cell) → (ℕ → Cell) → ℕ → List Cell
choices b f g a = each b f ++ (each b g ++ each b (λ x. cell 7 0 (a + rank b x) (a + many b + rank b x)))

-- the variables that an if writes
abbrev pub branches : Stmt → Stmt → ℕ → Bool
branches P Q x = writes P x || writes Q x

-- Statements ------------------------------------------------------------------------------------------------------------------------------------

-- how many cells
unfoldable pub count : Stmt → ℕ
count ok = 0
count (tick δ) = 1
count (assign δ x e) = expr_count e + 1
count (assign_elem δ k i e) = 0
count (seq P Q) = count P + count Q
count (par P Q) = count P + (count Q + 1)
count (ite δ e P Q) =
    expr_count e + (if_delay_count δ + (2 + (count P + (count Q + (4 + (many (branches P Q) + (many (branches P Q) + many (branches P Q))))))))
count (while δ e P) = many (writes P) + (2 + (expr_count e + (2 + (count P + (1 + (many (writes P) + (many (writes P) + many (writes P))))))))
count (repeat δ e P) = many (writes P) + (1 + (count P + (1 + (expr_count e + (3 + (many (writes P) + (many (writes P) + many (writes P))))))))
count (loop δ P) = 0
count exit = 0
count (call _ none) = elim none [ ]

-- An if: expression, its delay (none when d is 0), 36, 37, P, Q, 35; then the masks (8: the condition is 0; 5: all ones where it is; 3: all ones where it
-- is not), and of each variable that P or Q writes the words of both branches, masked and joined.
module _ (δ : ℕ) (e : Expr) (P Q : Stmt) (c : ℕ) where
  abbrev pub if_delay : ℕ
  if_delay = c + expr_count e

  abbrev pub if_true : ℕ
  if_true = c + expr_count e + if_delay_count δ

  abbrev pub if_then : ℕ
  if_then = c + expr_count e + if_delay_count δ + 1 + 1

  abbrev pub if_else : ℕ
  if_else = c + expr_count e + if_delay_count δ + 1 + 1 + count P

  abbrev pub if_end : ℕ
  if_end = c + expr_count e + if_delay_count δ + 1 + 1 + count P + count Q

-- "Latching a loop's words takes one instant: in while before each test's delay, in repeat before each run of P."
-- A while: a latch at c for each variable that P writes, the delay of 1, that of d, expression, 36, 37, P, 35; then of each such variable the two words
-- that may be loaded, gated and joined.
module _ (e : Expr) (P : Stmt) (c : ℕ) where
  abbrev pub while_true : ℕ
  while_true = c + many (writes P) + 1 + 1 + expr_count e

  abbrev pub while_body : ℕ
  while_body = c + many (writes P) + 1 + 1 + expr_count e + 1 + 1

  abbrev pub while_load : ℕ
  while_load = c + many (writes P) + 1 + 1 + expr_count e + 1 + 1 + count P

-- A repeat: latches at c as a while, the delay of 1, P, the delay of d, expression, 36, 37, 35; then as a while.
module _ (e : Expr) (P : Stmt) (c : ℕ) where
  abbrev pub repeat_body : ℕ
  repeat_body = c + many (writes P) + 1

  abbrev pub repeat_delay : ℕ
  repeat_delay = c + many (writes P) + 1 + count P

  abbrev pub repeat_true : ℕ
  repeat_true = c + many (writes P) + 1 + count P + 1 + expr_count e

  abbrev pub repeat_load : ℕ
  repeat_load = c + many (writes P) + 1 + count P + 1 + expr_count e + 1 + 1

-- the wire that tells the end: the pulse of a statement that starts with s and has its cells from c on
unfoldable pub finish_wire : Stmt → ℕ → ℕ → ℕ
finish_wire ok s c = s
finish_wire (tick δ) s c = c
finish_wire (assign δ x e) s c = c + expr_count e
finish_wire (assign_elem δ k i e) s c = 1
finish_wire (seq P Q) s c = finish_wire Q (finish_wire P s c) (c + count P)
finish_wire (par P Q) s c = c + count P + count Q
finish_wire (ite δ e P Q) s c = if_end δ e P Q c
finish_wire (while δ e P) s c = while_true e P c + 1
finish_wire (repeat δ e P) s c = repeat_true e P c
finish_wire (loop δ P) s c = 1
finish_wire exit s c = 1
finish_wire (call _ none) s c = elim none [ ]

-- the wires on which the words are handed on
unfoldable pub outs : Stmt → Wires → ℕ → Wires
outs ok ws c = ws
outs (tick δ) ws c = ws
outs (assign δ x e) ws c = λ y. pick (eqb y x) (expr_wire ws e c) (ws y)
outs (assign_elem δ k i e) ws c = ws
outs (seq P Q) ws c = outs Q (outs P ws c) (c + count P)
outs (par P Q) ws c = λ y. pick (writes P y) (outs P ws c y) (pick (writes Q y) (outs Q ws (c + count P) y) (ws y))
outs (ite δ e P Q) ws c = placed (branches P Q) (joins_at (branches P Q) (if_end δ e P Q c + 1 + 1 + 1 + 1)) ws
outs (while δ e P) ws c = placed (writes P) c ws
outs (repeat δ e P) ws c = outs P (placed (writes P) c ws) (repeat_body e P c)
outs (loop δ P) ws c = ws
outs exit ws c = ws
outs (call _ none) ws c = elim none [ ]

-- a statement's cells. "An assignment takes d."
unfoldable pub walk : Stmt → ℕ → Wires → ℕ → List Cell
walk ok s ws c = []
walk (tick δ) s ws c = cell 34 δ s 0 ∷ []
walk (assign δ x e) s ws c = expr_cells ws e c ++ (cell 34 δ s 0 ∷ [])
walk (assign_elem δ k i e) s ws c = []
walk (seq P Q) s ws c = walk P s ws c ++ walk Q (finish_wire P s c) (outs P ws c) (c + count P)
walk (par P Q) s ws c =
    walk P s ws c ++ (walk Q s ws (c + count P) ++ (cell 38 0 (finish_wire P s c) (finish_wire Q s (c + count P)) ∷ []))
walk (ite δ e P Q) s ws c =
    let w = expr_wire ws e c in
    let g = if_pulse δ s (if_delay δ e P Q c) in
    let p = if_true δ e P Q c in
    let cP = if_then δ e P Q c in
    let cQ = if_else δ e P Q c in
    let m = if_end δ e P Q c in
    expr_cells ws e c
    ++ (if_delay_cells δ s
    ++ (cell 36 0 g w
    ∷ (cell 37 0 g w
    ∷ (walk P p ws cP
    ++ (walk Q (p + 1) ws cQ
    ++ (cell 35 0 (finish_wire P p cP) (finish_wire Q (p + 1) cQ)
    ∷ (cell 8 0 w 2
    ∷ (cell 5 0 2 (m + 1)
    ∷ (cell 3 0 (m + 1 + 1) 0
    ∷ choices (branches P Q) (λ y. cell 6 0 (outs P ws cP y) (m + 1 + 1 + 1)) (λ y. cell 6 0 (outs Q ws cQ y) (m + 1 + 1)) (m + 1 + 1 + 1 + 1))))))))))
walk (while δ e P) s ws c =
    let latches : Wires = placed (writes P) c ws in
    let q = c + many (writes P) + 1 in
    let p = while_true e P c in
    let cP = while_body e P c in
    let m = while_load e P c in
    let f = finish_wire P p cP in
    each (writes P) (λ y. cell 45 0 m (joins_at (writes P) (m + 1) + rank (writes P) y))
    ++ (cell 34 1 m 0
    ∷ (cell 34 δ (c + many (writes P)) 0
    ∷ switches latches e q (q + 1)
    (walk P p latches cP
    ++ (cell 35 0 s f
    ∷ choices (writes P) (λ y. cell 41 0 s (ws y)) (λ y. cell 41 0 f (outs P latches cP y)) (m + 1)))))
walk (repeat δ e P) s ws c =
    let latches : Wires = placed (writes P) c ws in
    let cP = repeat_body e P c in
    let q = repeat_delay e P c in
    let us : Wires = outs P latches cP in
    let p = repeat_true e P c in
    let m = repeat_load e P c in
    each (writes P) (λ y. cell 45 0 m (joins_at (writes P) (m + 1) + rank (writes P) y))
    ++ (cell 34 1 m 0
    ∷ (walk P (c + many (writes P)) latches cP
    ++ (cell 34 δ (finish_wire P (c + many (writes P)) cP) 0
    ∷ switches us e q (q + 1)
    (cell 35 0 s (p + 1) ∷ choices (writes P) (λ y. cell 41 0 s (ws y)) (λ y. cell 41 0 (p + 1) (us y)) (m + 1)))))
walk (loop δ P) s ws c = []
walk exit s ws c = []
walk (call _ none) s ws c = elim none [ ]

-- The netlist --------------------------------------------------------------------------------------------------------------------------------

-- the wires of the memories, where the walk begins, and the last sixteen cells
abbrev pub start_wires : Wires
start_wires x = memory_at + x

abbrev pub walk_place : ℕ
walk_place = arrays_at + 8

abbrev pub last_at : Stmt → ℕ
last_at P = walk_place + count P

abbrev pub last_wires : Stmt → Wires
last_wires P = outs P start_wires walk_place

-- the arrays' cells of n arrays from k on, which "stand, in every netlist": no clock, no data, no address
unfoldable pub idle_arrays : ℕ → ℕ → List Cell
idle_arrays k zero = []
idle_arrays k (suc n) = cell 42 k 1 2 ∷ (cell 43 0 2 0 ∷ idle_arrays (k + 1) n)

-- "Memories keep the start words"; "the last sixteen cells, each kind 7 with cell 2 as b, carry the last words in order"
unfoldable pub netlist_of : Stmt → List Cell
netlist_of P =
    head_cells
    ++ (sixteen (λ x. cell 40 0 1 2)
    ++ (idle_arrays 0 4
    ++ (walk P 0 start_wires walk_place
    ++ sixteen (λ x. cell 7 0 (last_wires P x) 2))))

unfoldable pub finish_of : Stmt → ℕ
finish_of P = finish_wire P 0 walk_place
