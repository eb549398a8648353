-- A functional netlist of n nodes has at most 43 + 35 n cells: 7,043 for 200 nodes. Assumes nothing.
use Rattle.model.specs.Refusals.{Accepted}
use Rattle.std.specs.Prelude.{◌≡◌, refl, Bool, true, false, List, [], ◌∷◌, ◌++◌, ℕ, zero, suc, ◌+◌, ◌*◌, ◌≤◌, length}
use Rattle.std.proofs.Common.{ap, arith, length-append}
use Rattle.model.specs.Word.{pick}
use Rattle.model.specs.declared.Cell.{Cell}
use Rattle.model.specs.declared.Options.{Options}
use Rattle.model.specs.Program.{Expr, const, var, compl, op, elem, Code, Stmt, ok, tick, assign, assign_elem, seq, par, ite, while, repeat, loop, exit, call, writes}
use Rattle.model.specs.Procedures.{inline, inlined, meaning}
use Rattle.model.specs.ProgramChecks.{program_with}
use Rattle.model.specs.Numbering.{Wires, expr_count, if_delay_count}
use Rattle.model.specs.Calls.{check_call}
use Rattle.laws.specs.Numbering.Count.{e_nodes, nodes, root_nodes}
use Rattle.laws.specs.Numbering.Lengths.{e-len, own-len}
use Rattle.laws.specs.Program.Fit.{Basic}
use Rattle.laws.specs.Program.Size.{few-nodes}
use Rattle.model.specs.Functional.{rows, rows_of, each, among, many, placed, branches, choices, count, finish_wire, outs, walk, idle_arrays, netlist_of, if_true, if_then, if_else, while_true, while_body, repeat_body}

-- Lengths --------------------------------------------------------------------------------------------------------------------------------------

pub rows-len : (f : ℕ → Cell) (x n : ℕ) → length (rows f x n) ≡ n
unfolding rows
rows-len f x zero = refl
rows-len f x (suc n) = ap suc (rows-len f (x + 1) n)

pub rows_of-len : (b : ℕ → Bool) (f : ℕ → Cell) (x n : ℕ) → length (rows_of b f x n) ≡ among b x n
unfolding rows_of among
rows_of-len b f x zero = refl
rows_of-len b f x (suc n) = go (b x) (rows_of-len b f (x + 1) n)
  where
    go : (p : Bool) → length (rows_of b f (x + 1) n) ≡ among b (x + 1) n
        → length (pick p (f x ∷ rows_of b f (x + 1) n) (rows_of b f (x + 1) n)) ≡ pick p (1 + among b (x + 1) n) (among b (x + 1) n)
    go true e = omega arith
    go false e = e

pub each-len : (b : ℕ → Bool) (f : ℕ → Cell) → length (each b f) ≡ many b
each-len b f = rows_of-len b f 0 16

pub choices-len : (b : ℕ → Bool) (f g : ℕ → Cell) (a : ℕ) → length (choices b f g a) ≡ many b + (many b + many b)
unfolding choices
choices-len b f g a = simp (length-append, each-len)

among-most : (b : ℕ → Bool) (x n : ℕ) → among b x n ≤ n
unfolding among
among-most b x zero = omega arith
among-most b x (suc n) = go (b x) (among-most b (x + 1) n)
  where
    go : (p : Bool) → among b (x + 1) n ≤ n → pick p (1 + among b (x + 1) n) (among b (x + 1) n) ≤ suc n
    go true h = omega arith
    go false h = omega arith

pub many-most : (b : ℕ → Bool) → many b ≤ 16
many-most b = among-most b 0 16

pub w-len : (P : Stmt) (s : ℕ) (ws : Wires) (c : ℕ) → length (walk P s ws c) ≡ count P
unfolding walk count
w-len ok s ws c = refl
w-len (tick δ) s ws c = refl
w-len (assign δ x e) s ws c = simp (length-append, e-len)
w-len (assign_elem δ k i e) s ws c = refl
w-len (seq P Q) s ws c = simp (length-append, w-len P s ws c, w-len Q (finish_wire P s c) (outs P ws c) (c + count P))
w-len (par P Q) s ws c = simp (length-append, w-len P s ws c, w-len Q s ws (c + count P))
w-len (ite δ e P Q) s ws c =
    simp (
      length-append,
      e-len,
      own-len,
      w-len P (if_true δ e P Q c) ws (if_then δ e P Q c),
      w-len Q (if_true δ e P Q c + 1) ws (if_else δ e P Q c),
      choices-len,
    )
    (omega arith)
w-len (while δ e P) s ws c =
    simp (length-append, each-len, e-len, w-len P (while_true e P c) (placed (writes P) c ws) (while_body e P c), choices-len) (omega arith)
w-len (repeat δ e P) s ws c =
    simp (length-append, each-len, e-len, w-len P (c + many (writes P)) (placed (writes P) c ws) (repeat_body e P c), choices-len) (omega arith)
w-len (loop δ P) s ws c = refl
w-len exit s ws c = refl
w-len (call _ none) s ws c = elim none [ ]

pub arrays-len : (k n : ℕ) → length (idle_arrays k n) ≡ 2 * n
unfolding idle_arrays
arrays-len k zero = refl
arrays-len k (suc n) = omega (arith, arrays-len (k + 1) n)

pub net-len : (P : Stmt) → length (netlist_of P) ≡ 43 + count P
unfolding netlist_of
net-len P = simp (length-append, rows-len, arrays-len, w-len) (omega arith)

-- The bound --------------------------------------------------------------------------------------------------------------------------------------

e-count : (e : Expr) → (expr_count e ≤ e_nodes e) × (1 ≤ e_nodes e)
unfolding expr_count e_nodes
e-count (const n) = omega arith
e-count (var x) = omega arith
e-count (compl e) = let h = e-count e in omega arith
e-count (op k e f) = let h = e-count e in let h' = e-count f in omega arith
e-count (elem k e) = let h = e-count e in omega arith

own-count : (δ : ℕ) → if_delay_count δ ≤ 1
unfolding if_delay_count
own-count zero = omega arith
own-count (suc δ) = omega arith

-- by the nodes, of a statement that calls nothing
pub count_low : (I : ℕ → Stmt) (P : Code) → Basic P → count (inline I P) ≤ 35 * nodes P
unfolding count nodes inline
count_low I ok b = omega arith
count_low I (tick δ) b = omega arith
count_low I (assign δ x e) b = let h = e-count e in omega arith
count_low I (assign_elem δ k i e) b = absurd b
count_low I (seq P Q) b = let p = count_low I P b.0 in let q = count_low I Q b.1 in omega arith
count_low I (par P Q) b = let p = count_low I P b.0 in let q = count_low I Q b.1 in omega arith
count_low I (ite δ e P Q) b =
    let k = many-most (branches (inline I P) (inline I Q)) in
    let h = e-count e in
    let o = own-count δ in
    let p = count_low I P b.1 in
    let q = count_low I Q b.2 in
    omega arith
count_low I (while δ e P) b = let k = many-most (writes (inline I P)) in let h = e-count e in let p = count_low I P b.1 in omega arith
count_low I (repeat δ e P) b = let k = many-most (writes (inline I P)) in let h = e-count e in let p = count_low I P b.1 in omega arith
count_low I (loop δ P) b = absurd b
count_low I exit b = absurd b
count_low I (call δ p) b = absurd b

last-nodes : (Qs : List Code) (P : Code) → nodes P ≤ root_nodes (Qs ++ (P ∷ []))
unfolding root_nodes
last-nodes [] P = omega arith
last-nodes (Q ∷ Qs) P = omega (arith, last-nodes Qs P)

-- "every program that passes the checks fits": 7,043 cells are enough
pub fits : (options : Options) (s : List ℕ) → check_call options s ≡ Accepted → Basic (program_with options s).main
    → (43 ≤ length (netlist_of (meaning (program_with options s)))) × (length (netlist_of (meaning (program_with options s))) ≤ 7043)
unfolding meaning
fits options s e b =
    let S = program_with options s in
    let n = net-len (meaning S) in
    let c = count_low (inlined S.bodies) S.main b in
    let l = last-nodes S.bodies S.main in
    let f = few-nodes options s e in
    (omega arith, omega arith)
