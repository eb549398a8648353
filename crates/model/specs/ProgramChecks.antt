-- The check of a program: refusals 1 to 8, 22, 24 and 25, and for a functional circuit 28, with their places and in their order.
-- Assumes nothing: definitions.
use Rattle.std.specs.Prelude.{Bool, true, false, ◌&&◌, ◌||◌, not, List, [], ◌∷◌, ◌++◌, ℕ, zero, suc, ◌+◌, ◌%◌, length, take, drop, replicate, ltb, leb, eqb}
use Rattle.model.specs.declared.Node.{Node}
use Rattle.model.specs.declared.Options.{Options}
use Rattle.model.specs.Word.{pick}
use Rattle.model.specs.Refusals.{refuse, refuse_if, first, first_fault, fault_if, Checked, Accepted}
use Rattle.model.specs.Program.{Code, Stmt, ok, tick, assign, assign_elem, seq, par, ite, while, repeat, loop, exit, call, Program, node_at, node_count, nodes_at, row_of, stmt_at, program_of, roots, preorder_e, preorder, time_in, least, writes, touches}
use Rattle.model.specs.Procedures.{inline, inlined, reaches, reached}

-- Nodes ----------------------------------------------------------------------------------------------------------------------------------

-- "1. Program length 0, above 800 or not a multiple of 4 (place 0)."
unfoldable pub program_length_wrong : List ℕ → Bool
program_length_wrong s = eqb (length s) 0 || (ltb 800 (length s) || ltb 0 (length s % 4))

-- "Up to eight procedures ..., their count given beside it (above 8: refusal 1)"
unfoldable pub too_many_procedures : ℕ → Bool
too_many_procedures k = ltb 8 k

-- "3. a field without a use not zero"
unfoldable pub unused_set : ℕ → ℕ → Bool
unused_set used v = pick (eqb used 0) (ltb 0 v) false

-- "4. variable above 15": n, where used says what it is; an array has "numbers 0 to 3"
unfoldable pub absent : ℕ → ℕ → Bool
absent used n = (eqb used 2 && ltb 15 n) || (eqb used 3 && ltb 3 n)

-- "2. Unknown kind; 3. a field without a use not zero; 4. variable above 15. Node by node, in this order (node)."
unfoldable pub node_fault : Node → ℕ
node_fault a =
    let row = row_of a.kind in
    pick (eqb row.sort 0) 2
    (pick (unused_set row.delay a.delay || unused_set row.number a.n) 3
    (fault_if (absent row.number a.n) 4))

-- the sorts of a node's children, in order
unfoldable pub children : ℕ → List ℕ
children k = replicate (row_of k).exprs 1 ++ replicate (row_of k).stmts 2

-- "5. A statement where an expression belongs or the reverse (node); 6. nodes run out (node count) or are left (first left).
-- Whichever reading meets first": of nodes that begin at node i, where nodes of the sorts in the first list are still to be read
unfoldable pub reading : List ℕ → ℕ → List Node → Checked
reading [] i [] = Accepted
reading [] i (a ∷ rest) = refuse 6 i
reading (w ∷ ws) i [] = refuse 6 i
reading (w ∷ ws) i (a ∷ rest) =
    pick (eqb (row_of a.kind).sort w) (reading (children a.kind ++ ws) (i + 1) rest) (refuse 5 i)

-- as many statements as there are procedures, and then the main program
abbrev pub root_sorts : ℕ → List ℕ
root_sorts k = replicate (suc k) 2

-- Exits and calls ------------------------------------------------------------------------------------------------------------------------

-- the first refusal at an exit or a call in P, which stands at node i: of an exit by whether a loop is around it with no parallel node between,
-- which inside tells of P, and by its node; of a call by the procedure and its node
unfoldable pub searched : (Bool → ℕ → Checked) → (ℕ → ℕ → Checked) → Bool → Code → ℕ → Checked
searched exits calls inside ok i = Accepted
searched exits calls inside (tick d) i = Accepted
searched exits calls inside (assign d x e) i = Accepted
searched exits calls inside (assign_elem d k j e) i = Accepted
searched exits calls inside (seq P Q) i =
    first (searched exits calls inside P (i + 1) ∷ searched exits calls inside Q (i + 1 + length (preorder P)) ∷ [])
searched exits calls inside (par P Q) i =
    first (searched exits calls false P (i + 1) ∷ searched exits calls false Q (i + 1 + length (preorder P)) ∷ [])
searched exits calls inside (ite d e P Q) i =
    let j = i + 1 + length (preorder_e e) in
    first (searched exits calls inside P j ∷ searched exits calls inside Q (j + length (preorder P)) ∷ [])
searched exits calls inside (while d e P) i = searched exits calls inside P (i + 1 + length (preorder_e e))
searched exits calls inside (repeat d e P) i = searched exits calls inside P (i + 1 + length (preorder_e e))
searched exits calls inside (loop d P) i = searched exits calls true P (i + 1)
searched exits calls inside exit i = exits inside i
searched exits calls inside (call d p) i = calls p i

-- "22: an exit with no kind 25 around it, or with a parallel node between it and that loop, place the exit node"
abbrev pub loose_in : Bool → Code → ℕ → Checked
loose_in inside P i = searched (λ inside i. refuse_if (not inside) 22 i) (λ p i. Accepted) inside P i

-- "24: call of itself, of a later or of an absent procedure, place the call node": in root r, which may call the procedures below r
abbrev pub late_in : ℕ → Code → ℕ → Checked
late_in r P i = searched (λ inside i. Accepted) (λ p i. refuse_if (leb r p) 24 i) false P i

-- the first refusal of roots that begin with number r, at node i; test takes a root's number, the root and its node
unfoldable pub in_roots : (ℕ → Code → ℕ → Checked) → ℕ → List Code → ℕ → Checked
in_roots test r [] i = Accepted
in_roots test r (P ∷ Ps) i = first (test r P i ∷ in_roots test (r + 1) Ps (i + length (preorder P)) ∷ [])

-- "an exit stays within its body"
abbrev pub loose_exit : List Code → Checked
loose_exit Ps = in_roots (λ r P i. loose_in false P i) 0 Ps 0

abbrev pub late_call : List Code → Checked
late_call Ps = in_roots late_in 0 Ps 0

-- Delays and parallel nodes --------------------------------------------------------------------------------------------------------------

-- "7. Delay too small (first node)."
unfoldable pub delay_fault : (ℕ → ℕ) → ℕ → List ℕ → ℕ → ℕ
delay_fault τ w s i = fault_if (ltb (node_at s i).delay (least τ w (stmt_at s i))) 7

-- a procedure below n that is reached from P and from Q
unfoldable pub shared : (ℕ → ℕ → Bool) → ℕ → Code → Code → Bool
shared R zero P Q = false
shared R (suc n) P Q = (reaches R P n && reaches R Q n) || shared R n P Q

unfoldable pub shares : (ℕ → ℕ → Bool) → ℕ → Code → Bool
shares R n ok = false
shares R n (tick d) = false
shares R n (assign d x e) = false
shares R n (assign_elem d k i e) = false
shares R n (seq P Q) = false
shares R n (par P Q) = shared R n P Q
shares R n (ite d e P Q) = false
shares R n (while d e P) = false
shares R n (repeat d e P) = false
shares R n (loop d P) = false
shares R n exit = false
shares R n (call d p) = false

-- "25: one procedure reached from both sides, place the parallel node"
unfoldable pub shared_fault : List Code → List ℕ → ℕ → ℕ
shared_fault bodies s i = fault_if (shares (reached bodies) (length bodies) (stmt_at s i)) 25

-- "A variable written on one side of a parallel node and read or written on the other": one below n
unfoldable pub conflict : ℕ → Stmt → Stmt → Bool
conflict zero P Q = false
conflict (suc n) P Q = ((writes P n && touches Q n) || (writes Q n && touches P n)) || conflict n P Q

unfoldable pub conflicts : Stmt → Bool
conflicts ok = false
conflicts (tick d) = false
conflicts (assign d x e) = false
conflicts (assign_elem d k i e) = false
conflicts (seq P Q) = false
conflicts (par P Q) = conflict 20 P Q
conflicts (ite d e P Q) = false
conflicts (while d e P) = false
conflicts (repeat d e P) = false
conflicts (loop d P) = false
conflicts exit = false
conflicts (call _ none) = elim none [ ]

-- "8. A variable written on one side of a parallel node and read or written on the other (first such node, in node order)."
-- "Refusal 8 looks through calls."
unfoldable pub conflict_fault : List Code → List ℕ → ℕ → ℕ
conflict_fault bodies s i = fault_if (conflicts (inline (inlined bodies) (stmt_at s i))) 8

-- The check ------------------------------------------------------------------------------------------------------------------------------

-- refusals 1 to 8 in their order, 22 "after 6 and before 7", 24 "after 22" and 25 "before 8"; of a program with pulse length w, k procedures and operator
-- times τ
abbrev pub program_checks : (ℕ → ℕ) → ℕ → ℕ → List ℕ → List Checked
program_checks τ w k s =
    let S = program_of w k s in
    refuse_if (too_many_procedures k || program_length_wrong s) 1 0
    ∷ first_fault (λ i. node_fault (node_at s i)) 0 (node_count s)
    ∷ reading (root_sorts k) 0 (nodes_at s 0)
    ∷ loose_exit (roots S)
    ∷ late_call (roots S)
    ∷ first_fault (delay_fault τ w s) 0 (node_count s)
    ∷ first_fault (shared_fault S.bodies s) 0 (node_count s)
    ∷ first_fault (conflict_fault S.bodies s) 0 (node_count s)
    ∷ []

-- the program that bytes are, with what is given beside it
abbrev pub program_with : Options → List ℕ → Program
program_with options s = program_of options.pulse options.procedures s

unfoldable pub check_of : Options → List ℕ → Checked
check_of options s = first (program_checks (time_in options.times) options.pulse options.procedures s)

-- For a functional circuit ---------------------------------------------------------------------------------------------------------------

-- "a kind above that document 01 doesn't have": an element, its assignment, loop, exit, call
unfoldable pub added : ℕ → Bool
added k = eqb k 10 || (leb 24 k && leb k 27)

-- "28: a node of a kind above that document 01 doesn't have, place that node"
unfoldable pub added_fault : List ℕ → ℕ → ℕ
added_fault s i = fault_if (added (node_at s i).kind) 28

-- 28 "after 6 and before 22", among the checks of a program "without procedures" and with the pulse length that is 1
abbrev pub functional_checks : (ℕ → ℕ) → List ℕ → List Checked
functional_checks τ s =
    let checks = program_checks τ 1 0 s in
    take 3 checks ++ (first_fault (added_fault s) 0 (node_count s) ∷ drop 3 checks)

-- what is given beside it is "a table alone": its procedures and its pulse length are not looked at
unfoldable pub check_functional : Options → List ℕ → Checked
check_functional options s = first (functional_checks (time_in options.times) s)
