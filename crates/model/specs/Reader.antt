-- The reader of a text: one pass over its tokens, with a stack of what is still open, that makes the program's nodes as it goes.
-- It is how the calls find a reading; what a reading is, model/Text says, and model/TextPromises states that the two agree.
-- Assumes nothing: definitions.
use Rattle.std.specs.Prelude.{Bool, true, false, ◌&&◌, ◌||◌, List, [], ◌∷◌, ◌++◌, ℕ, ◌+◌, ◌*◌, eqb, ltb, leb, length, get_or, take, drop, set}
use Rattle.model.specs.declared.Node.{Node}
use Rattle.model.specs.declared.texts.Token.{Token}
use Rattle.model.specs.declared.texts.Mode.{Mode}
use Rattle.model.specs.declared.texts.Mode.TheVariants.{Statement, AfterStatement, Operand, AfterOperand, Becomes, Ticks, Delay, Body, Broken}
use Rattle.model.specs.Word.{pick}
use Rattle.model.specs.Program.{node}
use Rattle.model.specs.Text.{c_then, c_else, c_do, c_until, c_end, c_at, c_open, c_close, c_left, c_right, Lexeme}

-- What the reader keeps ----------------------------------------------------------------------------------------------------------------

-- something that is still open: the code of its token, and the number of its first node
pub record Frame : Type 0 where
  pub code : ℕ
  pub start : ℕ

abbrev pub frame : ℕ → ℕ → Frame
frame c p = record { code = c; start = p }

-- start: the first node of what was just read. cursor: where the next node goes, which is behind all nodes but in the condition of a
-- repeat, whose nodes stand before those of its body.
pub record Reader : Type 0 where
  pub mode : Mode
  pub start : ℕ
  pub frames : List Frame
  pub cursor : ℕ
  pub nodes : List Node

abbrev pub reader : Mode → ℕ → List Frame → ℕ → List Node → Reader
reader m p fs c ns = record { mode = m; start = p; frames = fs; cursor = c; nodes = ns }

abbrev pub reader_at_first : Reader
reader_at_first = reader Statement 0 [] 0 []

abbrev pub broken : Reader → Reader
broken r = reader Broken r.start r.frames r.cursor r.nodes

-- Binding ------------------------------------------------------------------------------------------------------------------------------

-- How tightly an operator on the stack holds what follows it, and how far a new one reaches back for what stands before it. One that holds
-- more tightly than the new one reaches is complete. "`;` binds tighter than `||`, and both group to the right. In expressions `!` (complement)
-- binds tightest, then + and - to the left, then one = or < that doesn't chain, then &, then |, both to the left". What is no operator holds 0.
-- Levels from 1 on, the tighter the higher. One that groups to the left is complete when another of its level follows; one that groups to the
-- right is not; a comparison reaches back to none of its own level, so that it does not chain.
abbrev pub holds_left : ℕ → ℕ
holds_left level = 2 * level + 1

abbrev pub reaches_left : ℕ → ℕ
reaches_left level = 2 * level

abbrev pub holds_right : ℕ → ℕ
holds_right level = 2 * level

abbrev pub reaches_right : ℕ → ℕ
reaches_right level = 2 * level + 1

abbrev pub additive : ℕ → Bool
additive c = eqb c 4 || eqb c 5

-- "one = or < that doesn't chain"
abbrev pub comparison : ℕ → Bool
comparison c = eqb c 8 || eqb c 9

abbrev pub comparison_reach : ℕ
comparison_reach = reaches_right 3

unfoldable pub hold_of : ℕ → ℕ
hold_of c =
    pick (eqb c 3) (holds_right 5)
    (pick (additive c) (holds_left 4)
    (pick (comparison c) (holds_left 3)
    (pick (eqb c 6) (holds_left 2)
    (pick (eqb c 7) (holds_left 1)
    (pick (eqb c 19) (holds_right 2)
    (pick (eqb c 20) (holds_right 1) 0))))))

unfoldable pub reach_of : ℕ → ℕ
reach_of c =
    pick (additive c) (reaches_left 4)
    (pick (comparison c) comparison_reach
    (pick (eqb c 6) (reaches_left 2)
    (pick (eqb c 7) (reaches_left 1)
    (pick (eqb c 19) (reaches_right 2)
    (pick (eqb c 20) (reaches_right 1) 0)))))

-- the operators on top that are complete are taken off; what was read then begins where the last of them does
pub record Popped : Type 0 where
  pub start : ℕ
  pub frames : List Frame

unfoldable pub pop : ℕ → ℕ → List Frame → Popped
pop reach p [] = record { start = p; frames = [] }
pop reach p (f ∷ fs) =
    elim (ltb reach (hold_of f.code)) [ true ↦ pop reach f.start fs | false ↦ record { start = p; frames = f ∷ fs } ]

-- the code and the first node of the frame on top; 0 where there is none
unfoldable pub top_code : List Frame → ℕ
top_code [] = 0
top_code (f ∷ fs) = f.code

unfoldable pub top_start : List Frame → ℕ
top_start [] = 0
top_start (f ∷ fs) = f.start

-- Steps --------------------------------------------------------------------------------------------------------------------------------

abbrev pub insert_at : ℕ → Node → List Node → List Node
insert_at i n ns = take i ns ++ (n ∷ drop i ns)

-- node p with a delay
abbrev pub with_node_delay : ℕ → ℕ → List Node → List Node
with_node_delay p d ns = set ns p (node (get_or ns p (node 0 0 0)).kind d (get_or ns p (node 0 0 0)).n)

-- a node more, at the cursor
unfoldable pub leaf : Mode → Node → Reader → Reader
leaf m n r = reader m r.cursor r.frames (r.cursor + 1) (insert_at r.cursor n r.nodes)

-- a frame more, that begins at the cursor
unfoldable pub opened : Mode → ℕ → Reader → Reader
opened m c r = reader m r.start (frame c r.cursor ∷ r.frames) r.cursor r.nodes

-- both: a node that is still open
unfoldable pub opened_node : Mode → ℕ → Node → Reader → Reader
opened_node m c n r =
    reader m r.start (frame c r.cursor ∷ r.frames) (r.cursor + 1) (insert_at r.cursor n r.nodes)

-- an operator between two operands: its node goes before all of what was read
unfoldable pub between : Mode → ℕ → Reader → Reader
between m c r =
    let p = pop (reach_of c) r.start r.frames in
    reader m p.start (frame c p.start ∷ p.frames) (r.cursor + 1) (insert_at p.start (node c 0 0) r.nodes)

-- the frame on top is complete, and is taken off
unfoldable pub closed : Mode → Reader → Reader
closed m r = reader m (top_start r.frames) (drop 1 r.frames) r.cursor r.nodes

-- the frame on top goes on under another code
unfoldable pub turned : Mode → ℕ → Reader → Reader
turned m c r = reader m r.start (frame c (top_start r.frames) ∷ drop 1 r.frames) r.cursor r.nodes

-- everything above the frame that is still to be closed is complete
unfoldable pub reduced : Reader → Reader
reduced r =
    let p = pop 0 r.start r.frames in
    reader r.mode p.start p.frames r.cursor r.nodes

-- the node at p gets its delay, and the cursor goes behind all nodes
unfoldable pub with_delay : Mode → ℕ → ℕ → Reader → Reader
with_delay m p d r = reader m p r.frames (length r.nodes) (with_node_delay p d r.nodes)

-- a statement is expected
unfoldable pub on_statement : Token → Reader → Reader
on_statement t r =
    let c = t.code in
    pick (eqb c 16) (leaf AfterStatement (node 16 0 0) r)
    (pick (eqb c 17) (leaf Ticks (node 17 0 0) r)
    (pick (eqb c 2) (opened_node Becomes 18 (node 18 0 t.value) r)
    (pick (eqb c 21 || eqb c 22) (opened_node Operand c (node c 0 0) r)
    (pick (eqb c 23) (opened_node Statement 23 (node 23 0 0) r)
    (pick (eqb c c_left) (opened Statement c_left r) (broken r))))))

-- an expression, or the rest of one, is expected
unfoldable pub on_operand : Token → Reader → Reader
on_operand t r =
    let c = t.code in
    pick (eqb c 1 || eqb c 2) (leaf AfterOperand (node c 0 t.value) r)
    (pick (eqb c 3) (opened_node Operand 3 (node 3 0 0) r)
    (pick (eqb c c_open) (opened Operand c_open r) (broken r)))

-- an operand was read; r' is r with what is complete taken off
unfoldable pub on_after_operand : Token → Reader → Reader
on_after_operand t r =
    let c = t.code in
    let r' = reduced r in
    let top = top_code r'.frames in
    pick (leb 4 c && leb c 9)
    (pick (comparison c && comparison (top_code (pop comparison_reach r.start r.frames).frames)) (broken r) (between Operand c r))
    (pick (eqb c c_close && eqb top c_open) (closed AfterOperand r')
    (pick (eqb c c_at && ((eqb top 18 || eqb top 21) || (eqb top 22 || eqb top c_until)))
    (reader Delay r'.start r'.frames r'.cursor r'.nodes)
    (broken r)))

-- a statement was read
unfoldable pub on_after_statement : Token → Reader → Reader
on_after_statement t r =
    let c = t.code in
    let r' = reduced r in
    let top = top_code r'.frames in
    let p = top_start r'.frames in
    pick (eqb c 19 || eqb c 20) (between Statement c r)
    (pick (eqb c c_right && eqb top c_left) (closed AfterStatement r')
    (pick (eqb c c_else && eqb top c_then) (turned Statement c_else r')
    (pick (eqb c c_end && (eqb top c_else || eqb top c_do)) (closed AfterStatement r')
    (pick (eqb c c_until && eqb top 23)
    (reader Operand r'.start (frame c_until p ∷ drop 1 r'.frames) (p + 1) r'.nodes)
    (broken r)))))

-- the delay of what is open is expected
unfoldable pub on_delay : Token → Reader → Reader
on_delay t r =
    let p = top_start r.frames in
    pick (eqb t.code 1)
    (pick (eqb (top_code r.frames) 18)
    (closed AfterStatement (with_delay Body p t.value r))
    (with_delay Body p t.value r))
    (broken r)

-- the word after a condition and its delay is expected
unfoldable pub on_body : Token → Reader → Reader
on_body t r =
    let c = t.code in
    let top = top_code r.frames in
    pick (eqb c c_then && eqb top 21) (turned Statement c_then r)
    (pick (eqb c c_do && eqb top 22) (turned Statement c_do r)
    (pick (eqb c c_end && eqb top c_until) (closed AfterStatement r) (broken r)))

unfoldable pub step_of : Mode → Token → Reader → Reader
step_of Statement t r = on_statement t r
step_of AfterStatement t r = on_after_statement t r
step_of Operand t r = on_operand t r
step_of AfterOperand t r = on_after_operand t r
step_of Becomes t r = pick (eqb t.code 18) (reader Operand r.start r.frames r.cursor r.nodes) (broken r)
step_of Ticks t r = pick (eqb t.code 1) (with_delay AfterStatement r.start t.value r) (broken r)
step_of Delay t r = on_delay t r
step_of Body t r = on_body t r
step_of Broken t r = r

abbrev pub step : Token → Reader → Reader
step t r = step_of r.mode t r

-- The reading --------------------------------------------------------------------------------------------------------------------------

unfoldable pub is_broken : Mode → Bool
is_broken Statement = false
is_broken AfterStatement = false
is_broken Operand = false
is_broken AfterOperand = false
is_broken Becomes = false
is_broken Ticks = false
is_broken Delay = false
is_broken Body = false
is_broken Broken = true

-- a whole statement was read, and nothing is open
unfoldable pub complete : Mode → List Frame → Bool
complete Statement fs = false
complete AfterStatement fs = eqb (length (pop 0 0 fs).frames) 0
complete Operand fs = false
complete AfterOperand fs = false
complete Becomes fs = false
complete Ticks fs = false
complete Delay fs = false
complete Body fs = false
complete Broken fs = false

-- the nodes that the words stand for, or the place where the grammar is broken
pub data Reading : Type 0 where
  good : List Node → Reading
  bad : ℕ → Reading

unfoldable pub read_from : ℕ → Reader → List Lexeme → Reading
read_from end r [] = elim (complete r.mode r.frames) [ true ↦ good r.nodes | false ↦ bad end ]
read_from end r (w ∷ ws) =
    let r' = step w.token r in
    elim (is_broken r'.mode) [ true ↦ bad w.place | false ↦ read_from end r' ws ]
