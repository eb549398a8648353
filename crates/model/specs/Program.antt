-- The program: its nodes, the table of kinds, the trees that the nodes are, times, reads and writes.
-- "Each node is followed by its children in the order named; node 0 is the root and a statement." "Up to eight procedures, each one statement,
-- stand before the main program".
-- Assumes nothing: definitions.
use Rattle.std.specs.Prelude.{Bool, false, ◌||◌, List, [], ◌∷◌, ◌++◌, map, ℕ, zero, suc, ◌+◌, ◌-◌, ◌*◌, ◌/◌, max, length, get_or, take, drop, ltb, eqb}
use Rattle.model.specs.declared.Node.{Node}
use Rattle.model.specs.declared.kinds.Row.{Row}
use Rattle.model.specs.Word.{pick, get16, bytes16}

-- Nodes -----------------------------------------------------------------------------------------------------------------------------

-- "A program has 1 to 200 nodes of 4 bytes: kind, delay, and a two-byte number n."
unfoldable pub node_at : List ℕ → ℕ → Node
node_at s i = record { kind = get_or s (4 * i) 0; delay = get_or s (4 * i + 1) 0; n = get16 s (4 * i + 2) }

abbrev pub node_count : List ℕ → ℕ
node_count s = length s / 4

-- so many nodes from node i on
unfoldable pub nodes_from : List ℕ → ℕ → ℕ → List Node
nodes_from s i zero = []
nodes_from s i (suc k) = node_at s i ∷ nodes_from s (i + 1) k

-- all nodes from node i on
abbrev pub nodes_at : List ℕ → ℕ → List Node
nodes_at s i = nodes_from s i (node_count s - i)

abbrev pub node : ℕ → ℕ → ℕ → Node
node k d n = record { kind = k; delay = d; n = n }

-- the bytes of nodes
unfoldable pub node_bytes : List Node → List ℕ
node_bytes [] = []
node_bytes (a ∷ rest) = a.kind ∷ a.delay ∷ (bytes16 a.n ++ node_bytes rest)

-- The table --------------------------------------------------------------------------------------------------------------------------

-- sort: 0 unknown, 1 an expression, 2 a statement. delay: used or not. number: 0 no use, 1 a constant, 2 a variable, 3 an array, 4 a
-- procedure. exprs, stmts: so many expressions and then so many statements are its children.
abbrev row : ℕ → ℕ → ℕ → ℕ → ℕ → Row
row s d n e p = record { sort = s; delay = d; number = n; exprs = e; stmts = p }

abbrev unknown : Row
unknown = row 0 0 0 0 0

-- the paper's table, but for its times: entry k is the row of kind k
abbrev pub kind_table : List Row
kind_table =
    unknown  -- 0
    ∷ row 1 0 1 0 0  -- 1 constant n
    ∷ row 1 0 2 0 0  -- 2 variable n
    ∷ row 1 0 0 1 0  -- 3 complement of all bits
    ∷ row 1 0 0 2 0  -- 4 sum
    ∷ row 1 0 0 2 0  -- 5 difference
    ∷ row 1 0 0 2 0  -- 6 bitwise and
    ∷ row 1 0 0 2 0  -- 7 bitwise or
    ∷ row 1 0 0 2 0  -- 8 equal
    ∷ row 1 0 0 2 0  -- 9 less
    ∷ row 1 0 3 1 0  -- 10 element of array n
    ∷ unknown ∷ unknown ∷ unknown ∷ unknown ∷ unknown
    ∷ row 2 0 0 0 0  -- 16 ok
    ∷ row 2 1 0 0 0  -- 17 tick
    ∷ row 2 1 2 1 0  -- 18 variable n := e
    ∷ row 2 0 0 0 2  -- 19 sequence
    ∷ row 2 0 0 0 2  -- 20 parallel
    ∷ row 2 1 0 1 2  -- 21 if e then P else Q
    ∷ row 2 1 0 1 1  -- 22 while e do P
    ∷ row 2 1 0 1 1  -- 23 repeat P until e
    ∷ row 2 1 3 2 0  -- 24 element of array n := e
    ∷ row 2 1 0 0 1  -- 25 loop P
    ∷ row 2 0 0 0 0  -- 26 exit
    ∷ row 2 1 4 0 0  -- 27 call of procedure n
    ∷ []

unfoldable pub row_of : ℕ → Row
row_of k = get_or kind_table k unknown

-- The tree ---------------------------------------------------------------------------------------------------------------------------

-- op k a b: the operator of kind k, 4 to 9; elem k e: the element of array k with index e
pub data Expr : Type 0 where
  const : ℕ → Expr
  var : ℕ → Expr
  compl : Expr → Expr
  op : ℕ → Expr → Expr → Expr
  elem : ℕ → Expr → Expr

-- a statement; a number in front is the node's delay, and a C names the procedure that is called. assign_elem d k i e: the element of array k with
-- index i gets e
pub data Statement (C : Type 0) : Type 0 where
  ok : Statement C
  tick : ℕ → Statement C
  assign : ℕ → ℕ → Expr → Statement C
  assign_elem : ℕ → ℕ → Expr → Expr → Statement C
  seq : Statement C → Statement C → Statement C
  par : Statement C → Statement C → Statement C
  ite : ℕ → Expr → Statement C → Statement C → Statement C
  while : ℕ → Expr → Statement C → Statement C
  repeat : ℕ → Expr → Statement C → Statement C
  loop : ℕ → Statement C → Statement C
  exit : Statement C
  call : ℕ → C → Statement C

-- the nodes' own: "A call (kind 27, n the procedure from 0)"
abbrev pub Code : Type 0
Code = Statement ℕ

-- and one without calls, of which the rules are: there is nothing to name a procedure by
abbrev pub Stmt : Type 0
Stmt = Statement ⊥

pub data Tree : Type 0 where
  expr : Expr → Tree
  stmt : Code → Tree

-- what stands for a child that is missing, or of the wrong sort: refusals 5 and 6 leave no such child
abbrev pub none : Tree
none = expr (const 0)

unfoldable pub as_expr : Tree → Expr
as_expr (expr e) = e
as_expr (stmt P) = const 0

unfoldable pub as_stmt : Tree → Code
as_stmt (expr e) = ok
as_stmt (stmt P) = P

unfoldable pub expr_of : Node → Expr → Expr → Expr
expr_of a e f =
    pick (eqb a.kind 1) (const a.n)
    (pick (eqb a.kind 2) (var a.n)
    (pick (eqb a.kind 3) (compl e)
    (pick (eqb a.kind 10) (elem a.n e)
    (op a.kind e f))))

-- of kinds 19 and 20 the children are O and P, of kind 24 e and f, of kind 25 O, of the others e, P and Q
unfoldable pub stmt_of : Node → Expr → Expr → Code → Code → Code → Code
stmt_of a e f O P Q =
    pick (eqb a.kind 16) ok
    (pick (eqb a.kind 17) (tick a.delay)
    (pick (eqb a.kind 18) (assign a.delay a.n e)
    (pick (eqb a.kind 19) (seq O P)
    (pick (eqb a.kind 20) (par O P)
    (pick (eqb a.kind 21) (ite a.delay e P Q)
    (pick (eqb a.kind 22) (while a.delay e P)
    (pick (eqb a.kind 24) (assign_elem a.delay a.n e f)
    (pick (eqb a.kind 25) (loop a.delay O)
    (pick (eqb a.kind 26) exit
    (pick (eqb a.kind 27) (call a.delay a.n)
    (repeat a.delay e P)))))))))))

unfoldable pub tree_of : Node → Tree → Tree → Tree → Tree
tree_of a x y z =
    pick (ltb a.kind 16)
    (expr (expr_of a (as_expr x) (as_expr y)))
    (stmt (stmt_of a (as_expr x) (as_expr y) (as_stmt x) (as_stmt y) (as_stmt z)))

abbrev pub arity : ℕ → ℕ
arity k = (row_of k).exprs + (row_of k).stmts

-- "Each node is followed by its children in the order named": the trees that nodes make, each node taking its children from the
-- front of the trees of the nodes after it
unfoldable pub grow : Node → List Tree → List Tree
grow a ts = tree_of a (get_or ts 0 none) (get_or ts 1 none) (get_or ts 2 none) ∷ drop (arity a.kind) ts

unfoldable pub forest : List Node → List Tree
forest [] = []
forest (a ∷ rest) = grow a (forest rest)

-- the trees of all nodes from node i on; the first of them is that of node i
unfoldable pub trees_at : List ℕ → ℕ → List Tree
trees_at s i = forest (nodes_at s i)

unfoldable pub expr_at : List ℕ → ℕ → Expr
expr_at s i = as_expr (get_or (trees_at s i) 0 none)

unfoldable pub stmt_at : List ℕ → ℕ → Code
stmt_at s i = as_stmt (get_or (trees_at s i) 0 none)

-- "Up to eight procedures, each one statement, stand before the main program"; pulse is the length of its circuit's pulses, "given with the program"
pub record Program : Type 0 where
  pub bodies : List Code
  pub main : Code
  pub pulse : ℕ

-- the program that nodes are, with pulse length w and k procedures: of the trees from node 0 on, the first are the bodies, and the next is the main
-- program
unfoldable pub program_of : ℕ → ℕ → List ℕ → Program
program_of w k s = record { bodies = map as_stmt (take k (trees_at s 0)); main = as_stmt (get_or (trees_at s 0) k none); pulse = w }

-- a program without procedures, with pulses of one instant: "node 0 is the root and a statement"
abbrev pub alone : Code → Program
alone P = record { bodies = []; main = P; pulse = 1 }

-- the roots in node order; the main program is the last
abbrev pub roots : Program → List Code
roots S = S.bodies ++ (S.main ∷ [])

-- the nodes of a tree, "in the order named"
unfoldable pub preorder_e : Expr → List Node
preorder_e (const n) = node 1 0 n ∷ []
preorder_e (var n) = node 2 0 n ∷ []
preorder_e (compl e) = node 3 0 0 ∷ preorder_e e
preorder_e (op k a b) = node k 0 0 ∷ preorder_e a ++ preorder_e b
preorder_e (elem k e) = node 10 0 k ∷ preorder_e e

unfoldable pub preorder : Code → List Node
preorder ok = node 16 0 0 ∷ []
preorder (tick d) = node 17 d 0 ∷ []
preorder (assign d x e) = node 18 d x ∷ preorder_e e
preorder (assign_elem d k i e) = node 24 d k ∷ preorder_e i ++ preorder_e e
preorder (seq P Q) = node 19 0 0 ∷ preorder P ++ preorder Q
preorder (par P Q) = node 20 0 0 ∷ preorder P ++ preorder Q
preorder (ite d e P Q) = node 21 d 0 ∷ preorder_e e ++ (preorder P ++ preorder Q)
preorder (while d e P) = node 22 d 0 ∷ preorder_e e ++ preorder P
preorder (repeat d e P) = node 23 d 0 ∷ preorder_e e ++ preorder P
preorder (loop d P) = node 25 d 0 ∷ preorder P
preorder exit = node 26 0 0 ∷ []
preorder (call d p) = node 27 d p ∷ []

-- of several roots
unfoldable pub preorders : List Code → List Node
preorders [] = []
preorders (P ∷ Ps) = preorder P ++ preorders Ps

-- Times, reads and writes --------------------------------------------------------------------------------------------------------------

-- "The time of an expression is its operator time plus the larger time of its children"; τ k is the operator time of kind k
unfoldable pub time : (ℕ → ℕ) → Expr → ℕ
time τ (const n) = τ 1
time τ (var n) = τ 2
time τ (compl e) = τ 3 + time τ e
time τ (op k a b) = τ k + max (time τ a) (time τ b)
time τ (elem k e) = τ 10 + time τ e

-- the time of kind k in a list of operator times
abbrev pub time_in : List ℕ → ℕ → ℕ
time_in times k = get_or times k 0

-- the table's operator times: entry k is that of kind k
unfoldable pub built_in_times : List ℕ
built_in_times =
    0  -- 0 unknown
    ∷ 0  -- 1 constant n
    ∷ 0  -- 2 variable n
    ∷ 1  -- 3 complement of all bits
    ∷ 16  -- 4 sum
    ∷ 17  -- 5 difference
    ∷ 1  -- 6 bitwise and
    ∷ 1  -- 7 bitwise or
    ∷ 6  -- 8 equal
    ∷ 17  -- 9 less
    ∷ 4  -- 10 element of array n
    ∷ []

-- "For w above 1 every loop's and call's delay is at least w + 1": how long after its end a part may be started again
unfoldable pub gap : ℕ → ℕ
gap w = pick (eqb w 1) 1 (suc w)

-- "A node's delay d is at least its expression's time, and at least 1 for kinds 17, 18, 22 and 23. If may have 0."
-- "An element's delay covers both children's times and is at least 1." "loop P (kind 25) with a delay of at least 1"
-- "A call (kind 27, n the procedure from 0) has a delay of at least 1". Of loops and calls it is the gap of the pulse length w.
unfoldable pub least : (ℕ → ℕ) → ℕ → Code → ℕ
least τ w ok = 0
least τ w (tick d) = 1
least τ w (assign d x e) = max 1 (time τ e)
least τ w (assign_elem d k i e) = max 1 (max (time τ i) (time τ e))
least τ w (seq P Q) = 0
least τ w (par P Q) = 0
least τ w (ite d e P Q) = time τ e
least τ w (while d e P) = max (gap w) (time τ e)
least τ w (repeat d e P) = max (gap w) (time τ e)
least τ w (loop d P) = gap w
least τ w exit = 0
least τ w (call d p) = gap w

-- "For refusals 4 and 8 an array is one variable": array k is variable 16 + k
abbrev pub array_var : ℕ → ℕ
array_var k = 16 + k

-- variable x is read in e
unfoldable pub reads : Expr → ℕ → Bool
reads (const n) x = false
reads (var n) x = eqb x n
reads (compl e) x = reads e x
reads (op k a b) x = reads a x || reads b x
reads (elem k e) x = eqb x (array_var k) || reads e x

-- it is written in P
unfoldable pub writes : Stmt → ℕ → Bool
writes ok x = false
writes (tick d) x = false
writes (assign d y e) x = eqb x y
writes (assign_elem d k i e) x = eqb x (array_var k)
writes (seq P Q) x = writes P x || writes Q x
writes (par P Q) x = writes P x || writes Q x
writes (ite d e P Q) x = writes P x || writes Q x
writes (while d e P) x = writes P x
writes (repeat d e P) x = writes P x
writes (loop d P) x = writes P x
writes exit x = false
writes (call _ none) x = elim none [ ]

-- it is read or written in P
unfoldable pub touches : Stmt → ℕ → Bool
touches ok x = false
touches (tick d) x = false
touches (assign d y e) x = eqb x y || reads e x
touches (assign_elem d k i e) x = eqb x (array_var k) || (reads i x || reads e x)
touches (seq P Q) x = touches P x || touches Q x
touches (par P Q) x = touches P x || touches Q x
touches (ite d e P Q) x = reads e x || (touches P x || touches Q x)
touches (while d e P) x = reads e x || touches P x
touches (repeat d e P) x = reads e x || touches P x
touches (loop d P) x = touches P x
touches exit x = false
touches (call _ none) x = elim none [ ]
