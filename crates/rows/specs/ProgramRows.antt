-- Programs without procedures and what their check says, worked out by hand from the papers: refusals 1 to 8 and 22 with their places, 24 of a call,
-- and what is just allowed. ProcedureRows has programs with procedures.
-- Calls and promises cite the same checks, and so leave them free.
-- Assumes nothing.
use Rattle.std.specs.Prelude.{◌≡◌, refl, List, [], ◌∷◌, ◌++◌, map, ℕ}
use Rattle.model.specs.Refusals.{refuse, Checked, Accepted}
use Rattle.model.specs.Program.{node_bytes, Expr, const, var, compl, op, elem, Code, ok, tick, assign, assign_elem, seq, par, ite, while, repeat, loop, exit, preorder}
use Rattle.model.specs.TimeTables.{defaults}
use Rattle.model.specs.Calls.{check_call}
use Rattle.model.specs.Cases.{raw, repeated, check_of_program}

-- Kinds --------------------------------------------------------------------------------------------------------------------------------

-- a kind, then what is said of a program of one such node with delay 1, and with number 1. Where the field has no use it is 3, even if the
-- node is no statement (5) or lacks children (6, place the node count 1).
kinds : List (ℕ × Checked × Checked)
kinds =
    (0, refuse 2 0, refuse 2 0)
    ∷ (1, refuse 3 0, refuse 5 0)
    ∷ (2, refuse 3 0, refuse 5 0)
    ∷ (3, refuse 3 0, refuse 3 0)
    ∷ (4, refuse 3 0, refuse 3 0)
    ∷ (5, refuse 3 0, refuse 3 0)
    ∷ (6, refuse 3 0, refuse 3 0)
    ∷ (7, refuse 3 0, refuse 3 0)
    ∷ (8, refuse 3 0, refuse 3 0)
    ∷ (9, refuse 3 0, refuse 3 0)
    ∷ (10, refuse 3 0, refuse 5 0)
    ∷ (11, refuse 2 0, refuse 2 0)
    ∷ (15, refuse 2 0, refuse 2 0)
    ∷ (16, refuse 3 0, refuse 3 0)
    ∷ (17, Accepted, refuse 3 0)
    ∷ (18, refuse 6 1, refuse 6 1)
    ∷ (19, refuse 3 0, refuse 3 0)
    ∷ (20, refuse 3 0, refuse 3 0)
    ∷ (21, refuse 6 1, refuse 3 0)
    ∷ (22, refuse 6 1, refuse 3 0)
    ∷ (23, refuse 6 1, refuse 3 0)
    ∷ (24, refuse 6 1, refuse 6 1)
    ∷ (25, refuse 6 1, refuse 3 0)
    ∷ (26, refuse 3 0, refuse 3 0)
    ∷ (27, refuse 24 0, refuse 24 0)
    ∷ (28, refuse 2 0, refuse 2 0)
    -- a cell's kind
    ∷ (32, refuse 2 0, refuse 2 0)
    ∷ (255, refuse 2 0, refuse 2 0)
    ∷ []

kinds-right :
    (map (λ r. check_call defaults (raw r.0 1 0)) kinds ≡ map (λ r. r.1) kinds)
    × (map (λ r. check_call defaults (raw r.0 0 1)) kinds ≡ map (λ r. r.2) kinds)
unfolding kinds check_of_program
kinds-right = (refl, refl)

-- Programs -----------------------------------------------------------------------------------------------------------------------------

-- the bytes of a statement; nodes are counted in the order in which they are written
abbrev bytes_of : Code → List ℕ
bytes_of P = node_bytes (preorder P)

-- x := n with d 1, and x := y
abbrev gets : ℕ → ℕ → Code
gets x n = assign 1 x (const n)

abbrev copies : ℕ → ℕ → Code
copies x y = assign 1 x (var y)

-- element n of array k := 1 with d 1
abbrev sets : ℕ → ℕ → Code
sets k n = assign_elem 1 k (const n) (const 1)

-- x0 = 0, of time 6
abbrev is_nought : Expr
is_nought = op 8 (var 0) (const 0)

-- a program, and what is said of it
programs : List (List ℕ × Checked)
programs =
    -- 1: not a multiple of 4, above 800
    (16 ∷ 0 ∷ 0 ∷ [], refuse 1 0)
    ∷ (raw 16 0 0 ++ (0 ∷ []), refuse 1 0)
    ∷ (repeated 200 (raw 16 0 0) ++ (0 ∷ []), refuse 1 0)
    -- 2: at its node, before the nodes are read as a tree
    ∷ (raw 19 0 0 ++ raw 16 0 0 ++ raw 28 0 0, refuse 2 2)
    ∷ (raw 16 0 0 ++ raw 0 0 0, refuse 2 1)
    -- 3: at its node; the high byte of a number counts
    ∷ (raw 18 1 0 ++ raw 1 1 5, refuse 3 1)
    ∷ (raw 19 0 0 ++ raw 16 0 0 ++ raw 16 0 1, refuse 3 2)
    ∷ (16 ∷ 0 ∷ 0 ∷ 1 ∷ [], refuse 3 0)
    -- 4: x15 is good and x16 is not, written or read; 256 is above 15; constants have all sixteen bits
    ∷ (raw 18 1 15 ++ raw 2 0 15, Accepted)
    ∷ (raw 18 1 16 ++ raw 1 0 0, refuse 4 0)
    ∷ (raw 18 1 0 ++ raw 2 0 16, refuse 4 1)
    ∷ (raw 18 1 0 ++ (2 ∷ 0 ∷ 0 ∷ 1 ∷ []), refuse 4 1)
    ∷ (raw 18 1 0 ++ (1 ∷ 0 ∷ 255 ∷ 255 ∷ []), Accepted)
    -- arrays are 0 to 3, written or read
    ∷ (raw 24 4 3 ++ raw 10 0 3 ++ raw 1 0 0 ++ raw 1 0 0, Accepted)
    ∷ (raw 24 1 4 ++ raw 1 0 0 ++ raw 1 0 0, refuse 4 0)
    ∷ (24 ∷ 1 ∷ 0 ∷ 1 ∷ raw 1 0 0 ++ raw 1 0 0, refuse 4 0)
    ∷ (raw 18 4 0 ++ raw 10 0 4 ++ raw 1 0 0, refuse 4 1)
    -- 2, 3 and 4 node by node; at one node 3 before 4
    ∷ (raw 18 1 16 ++ raw 0 0 0, refuse 4 0)
    ∷ (raw 18 1 0 ++ raw 2 1 16, refuse 3 1)
    ∷ (raw 18 4 0 ++ raw 10 1 4 ++ raw 1 0 0, refuse 3 1)
    -- 5: a statement where an expression belongs, or the reverse; the root is a statement
    ∷ (raw 1 0 5, refuse 5 0)
    ∷ (raw 18 1 0 ++ raw 16 0 0, refuse 5 1)
    ∷ (raw 18 16 0 ++ raw 4 0 0 ++ raw 2 0 0 ++ raw 16 0 0, refuse 5 3)
    ∷ (raw 19 0 0 ++ raw 16 0 0 ++ raw 1 0 5, refuse 5 2)
    ∷ (raw 21 0 0 ++ raw 2 0 0 ++ raw 16 0 0 ++ raw 2 0 0, refuse 5 3)
    ∷ (raw 22 1 0 ++ raw 16 0 0 ++ raw 16 0 0, refuse 5 1)
    -- an element assignment has two expressions
    ∷ (raw 24 1 0 ++ raw 1 0 0 ++ raw 16 0 0, refuse 5 2)
    -- a loop has a statement
    ∷ (raw 25 1 0 ++ raw 1 0 1, refuse 5 1)
    -- a repeat has its expression first
    ∷ (raw 23 1 0 ++ raw 16 0 0 ++ raw 2 0 0, refuse 5 1)
    -- 6: nodes run out, place the node count; or are left, place the first
    ∷ (raw 19 0 0 ++ raw 16 0 0, refuse 6 2)
    ∷ (raw 18 16 0 ++ raw 4 0 0 ++ raw 2 0 0, refuse 6 3)
    ∷ (raw 21 0 0 ++ raw 2 0 0 ++ raw 16 0 0, refuse 6 3)
    ∷ (raw 24 1 0 ++ raw 1 0 0, refuse 6 2)
    ∷ (raw 24 1 0 ++ raw 1 0 0 ++ raw 1 0 0 ++ raw 1 0 0, refuse 6 3)
    ∷ (raw 16 0 0 ++ raw 16 0 0 ++ raw 16 0 0, refuse 6 1)
    ∷ (raw 18 1 0 ++ raw 2 0 0 ++ raw 2 0 1, refuse 6 2)
    -- whichever reading meets first: the sequence lacks a node too; a node that is left is not 5
    ∷ (raw 19 0 0 ++ raw 1 0 0, refuse 5 1)
    ∷ (raw 16 0 0 ++ raw 1 0 0, refuse 6 1)
    -- 22: an exit with no loop around it, place the exit; nodes of expressions count
    ∷ (bytes_of exit, refuse 22 0)
    ∷ (bytes_of (loop 1 exit), Accepted)
    ∷ (bytes_of (loop 1 ok), Accepted)
    ∷ (bytes_of (seq (loop 1 exit) exit), refuse 22 3)
    ∷ (bytes_of (seq (assign 18 2 (op 4 (const 1) (compl (var 1)))) exit), refuse 22 6)
    ∷ (bytes_of (seq (sets 0 1) exit), refuse 22 4)
    ∷ (bytes_of (ite 6 is_nought ok exit), refuse 22 5)
    ∷ (bytes_of (while 6 is_nought exit), refuse 22 4)
    ∷ (bytes_of (repeat 6 is_nought exit), refuse 22 4)
    -- or with a parallel node between it and that loop
    ∷ (bytes_of (loop 1 (par exit ok)), refuse 22 2)
    ∷ (bytes_of (loop 1 (par ok (seq ok exit))), refuse 22 5)
    ∷ (bytes_of (loop 1 (par (loop 1 exit) (loop 1 exit))), Accepted)
    ∷ (bytes_of (par (loop 1 (seq (tick 1) exit)) (seq (tick 1) exit)), refuse 22 7)
    -- any other statement may stand between
    ∷ (bytes_of (loop 1 (while 1 (var 0) (repeat 1 (var 0) (seq ok (ite 0 (var 0) exit ok))))), Accepted)
    -- the first such exit, the one that no run comes to among them
    ∷ (bytes_of (seq exit exit), refuse 22 1)
    ∷ (bytes_of (loop 1 (seq exit (par ok exit))), refuse 22 5)
    -- after 5 and 6 and before every 7
    ∷ (raw 19 0 0 ++ raw 26 0 0 ++ raw 1 0 0, refuse 5 2)
    ∷ (raw 26 0 0 ++ raw 26 0 0, refuse 6 1)
    ∷ (bytes_of (seq (tick 0) exit), refuse 22 2)
    -- 7: the first node whose delay is too small, which is that of the statement
    ∷ (bytes_of (tick 0), refuse 7 0)
    ∷ (bytes_of (seq ok (seq (tick 0) (tick 0))), refuse 7 3)
    ∷ (bytes_of (assign 0 0 (const 5)), refuse 7 0)
    ∷ (bytes_of (ite 5 is_nought ok ok), refuse 7 0)
    ∷ (bytes_of (ite 6 is_nought ok ok), Accepted)
    ∷ (bytes_of (seq ok (while 5 is_nought ok)), refuse 7 2)
    ∷ (bytes_of (repeat 5 is_nought ok), refuse 7 0)
    ∷ (bytes_of (repeat 6 is_nought ok), Accepted)
    ∷ (bytes_of (loop 0 exit), refuse 7 0)
    ∷ (bytes_of (loop 1 (seq exit (tick 0))), refuse 7 3)
    -- an element assignment's covers the larger of index and value
    ∷ (bytes_of (assign_elem 0 0 (const 5) (const 5)), refuse 7 0)
    ∷ (bytes_of (assign_elem 5 0 is_nought (elem 0 (var 1))), refuse 7 0)
    ∷ (bytes_of (assign_elem 6 0 is_nought (elem 0 (var 1))), Accepted)
    ∷ (bytes_of (assign_elem 5 0 (elem 0 (var 1)) is_nought), refuse 7 0)
    ∷ (bytes_of (assign_elem 6 0 (elem 0 (var 1)) is_nought), Accepted)
    -- sixteen sums one in the other take 256, more than any delay; fifteen take 240
    ∷ (raw 18 255 0 ++ repeated 16 (raw 4 0 0) ++ repeated 17 (raw 1 0 1), refuse 7 0)
    ∷ (raw 18 240 0 ++ repeated 15 (raw 4 0 0) ++ repeated 16 (raw 1 0 1), Accepted)
    -- 8: written on both sides, x0 to x15; written on one and read on the other, in both directions
    ∷ (bytes_of (par (gets 0 1) (gets 0 2)), refuse 8 0)
    ∷ (bytes_of (par (gets 15 1) (gets 15 2)), refuse 8 0)
    ∷ (bytes_of (par (gets 1 1) (copies 2 1)), refuse 8 0)
    ∷ (bytes_of (par (copies 2 1) (gets 1 1)), refuse 8 0)
    ∷ (bytes_of (par (gets 1 1) (assign 18 2 (op 4 (const 1) (compl (var 1))))), refuse 8 0)
    -- both sides may read one variable, and a side what it writes
    ∷ (bytes_of (par (copies 1 0) (copies 2 0)), Accepted)
    ∷ (bytes_of (par (copies 1 1) (copies 2 2)), Accepted)
    ∷ (bytes_of (seq (gets 1 1) (gets 1 2)), Accepted)
    -- an array is one variable, whatever the element, and none of x0 to x15; its index is read
    ∷ (bytes_of (par (sets 0 1) (sets 0 2)), refuse 8 0)
    ∷ (bytes_of (par (sets 3 1) (assign 4 2 (elem 3 (const 2)))), refuse 8 0)
    ∷ (bytes_of (par (assign 4 2 (elem 3 (const 2))) (sets 3 1)), refuse 8 0)
    ∷ (bytes_of (par (gets 1 1) (assign_elem 1 0 (var 1) (const 1))), refuse 8 0)
    ∷ (bytes_of (par (gets 1 1) (assign 4 2 (elem 0 (var 1)))), refuse 8 0)
    ∷ (bytes_of (par (sets 0 1) (sets 1 1)), Accepted)
    ∷ (bytes_of (par (sets 0 1) (gets 0 1)), Accepted)
    ∷ (bytes_of (par (assign 4 1 (elem 0 (const 1))) (assign 4 2 (elem 0 (const 1)))), Accepted)
    -- a condition's variables are read; what stands inside a statement counts
    ∷ (bytes_of (par (gets 3 1) (ite 0 (var 3) ok ok)), refuse 8 0)
    ∷ (bytes_of (par (while 1 (var 3) ok) (gets 3 1)), refuse 8 0)
    ∷ (bytes_of (par (gets 3 1) (repeat 1 (var 3) ok)), refuse 8 0)
    ∷ (bytes_of (par (ite 0 (var 0) ok (gets 3 1)) (seq ok (copies 2 3))), refuse 8 0)
    ∷ (bytes_of (par (while 1 (var 0) (gets 3 1)) (repeat 1 (var 0) (gets 3 1))), refuse 8 0)
    ∷ (bytes_of (par (gets 3 1) (loop 1 (copies 2 3))), refuse 8 0)
    ∷ (bytes_of (par (loop 1 (seq exit (gets 3 1))) (copies 2 3)), refuse 8 0)
    -- the first such node, the outer before the inner
    ∷ (bytes_of (seq ok (par (gets 1 1) (gets 1 2))), refuse 8 2)
    ∷ (bytes_of (par ok (par (gets 1 1) (gets 1 2))), refuse 8 2)
    ∷ (bytes_of (par (gets 1 1) (par (gets 1 2) (gets 1 3))), refuse 8 0)
    ∷ (bytes_of (par (gets 1 1) (par (gets 2 2) (gets 2 3))), refuse 8 3)
    -- every 7 comes before 8
    ∷ (bytes_of (par (gets 1 1) (assign 0 1 (const 2))), refuse 7 3)
    ∷ []

programs-right : map (λ r. check_call defaults r.0) programs ≡ map (λ r. r.1) programs
unfolding programs check_of_program
programs-right = refl
