-- A program of n nodes has at most 27 + 3 n cells.
use Rattle.std.specs.Prelude.{◌≡◌, refl, Bool, true, false, List, [], ◌∷◌, ◌≢◌, ℕ, zero, suc, ◌+◌, ◌*◌, ◌<◌, ◌≤◌, eqb, length}
use Rattle.std.proofs.Common.{arith, eqb→eq, length-append}
use Rattle.model.specs.Word.{pick}
use Rattle.model.specs.Program.{Expr, const, var, compl, op, elem, Code, ok, tick, assign, assign_elem, seq, par, ite, while, repeat, loop, exit, call, Program, roots}
use Rattle.model.specs.Numbering.{expr_count, if_delay_count, delay_count, exit_count, walk_count, clock_sources, data_sources, address_sources, call_sources, Source, wires_of, or_count, or_count_from, root_delay_count, root_walk, past_root, root_walk_count, root_sources, root_walk_sources, calls_of, clocks_of, data_of, addresses_of, netlist}
use Rattle.model.specs.Numbering.{walk_place}
use Rattle.laws.specs.Refusals.Laws.{is_false}
use Rattle.laws.specs.Numbering.Parts.{net-length}

unfoldable pub e_nodes : Expr → ℕ
e_nodes (const n) = 1
e_nodes (var x) = 1
e_nodes (compl e) = 1 + e_nodes e
e_nodes (op k e f) = 1 + e_nodes e + e_nodes f
e_nodes (elem k e) = 1 + e_nodes e

unfoldable pub nodes : Code → ℕ
nodes ok = 1
nodes (tick δ) = 1
nodes (assign δ x e) = 1 + e_nodes e
nodes (assign_elem δ k i e) = 1 + e_nodes i + e_nodes e
nodes (seq P Q) = 1 + nodes P + nodes Q
nodes (par P Q) = 1 + nodes P + nodes Q
nodes (ite δ e P Q) = 1 + e_nodes e + nodes P + nodes Q
nodes (while δ e P) = 1 + e_nodes e + nodes P
nodes (repeat δ e P) = 1 + e_nodes e + nodes P
nodes (loop δ P) = 1 + nodes P
nodes exit = 1
nodes (call δ p) = 1

unfoldable pub root_nodes : List Code → ℕ
root_nodes [] = 0
root_nodes (P ∷ Ps) = nodes P + root_nodes Ps

e-count : (e : Expr) → (expr_count e ≤ e_nodes e) × (1 ≤ e_nodes e)
unfolding expr_count e_nodes
e-count (const n) = omega arith
e-count (var x) = omega arith
e-count (compl e) = let h = e-count e in omega arith
e-count (op k e f) = let h = e-count e in let h' = e-count f in omega arith
e-count (elem k e) = let h = e-count e in omega arith

own-count : (δ : ℕ) → if_delay_count δ ≤ 1
unfolding if_delay_count
own-count zero = omega arith
own-count (suc δ) = omega arith

-- delay cells, walk cells and an or of each sort for each assignment; an exit that ends a loop around P will need at most one or, and counts as
-- a cell already, and so does a call, whose procedure will need at most one or for it
count : (P : Code) (d c : ℕ)
    → delay_count P + walk_count P + exit_count P + length (clock_sources P d) + length (data_sources P c) + length (address_sources P c)
    + length (call_sources P d)
    ≤ 3 * nodes P
unfolding delay_count exit_count walk_count clock_sources data_sources address_sources call_sources nodes
count ok d c = omega arith
count (tick δ) d c = omega arith
count (assign δ x e) d c = let h = e-count e in omega arith
count (assign_elem δ k i e) d c = let h = e-count i in let h' = e-count e in omega arith
count (seq P Q) d c = simp length-append (let h = count P d c in let h' = count Q (d + delay_count P) (c + walk_count P) in omega arith)
count (par P Q) d c = simp length-append (let h = count P d c in let h' = count Q (d + delay_count P) (c + walk_count P) in omega arith)
count (ite δ e P Q) d c =
    simp length-append
    (let h = count P (d + if_delay_count δ) (c + expr_count e + 1 + 1) in
    let h' = count Q (d + if_delay_count δ + delay_count P) (c + expr_count e + 1 + 1 + walk_count P) in
    let he = e-count e in
    let ho = own-count δ in
    omega arith)
count (while δ e P) d c = let h = count P (d + 1) (c + expr_count e + 1 + 1) in let he = e-count e in omega arith
count (repeat δ e P) d c = let h = count P (d + 1) (c + expr_count e + 1 + 1 + 1) in let he = e-count e in omega arith
count (loop δ P) d c = let h = count P (d + 1) (c + 1) in omega arith
count exit d c = omega arith
count (call δ p) d c = omega arith

-- the ors of variables x and on are no more than the wires
n_ors-le : (ws : List ℕ) → or_count ws ≤ length ws
unfolding or_count
n_ors-le [] = omega arith
n_ors-le (w ∷ ws) = omega arith

-- how many wires the variables from x on have
wires : List Source → ℕ → ℕ → ℕ
wires ws x zero = 0
wires ws x (suc j) = length (wires_of x ws) + wires ws (x + 1) j

ors-wires : (ws : List Source) (x j : ℕ) → or_count_from ws x j ≤ wires ws x j
unfolding or_count_from wires
ors-wires ws x zero = omega arith
ors-wires ws x (suc j) = let h = ors-wires ws (x + 1) j in let h' = n_ors-le (wires_of x ws) in omega arith

wires-nil : (x j : ℕ) → wires [] x j ≡ 0
unfolding wires wires_of
wires-nil x zero = refl
wires-nil x (suc j) = rw (wires-nil (x + 1) j)

-- a wire of a lower variable adds nothing, and any wire adds at most one
one-miss : (w : Source) (ws : List Source) (x : ℕ) → w.0 ≢ x → wires_of x (w ∷ ws) ≡ wires_of x ws
unfolding wires_of
one-miss w ws x n = rw (is_false (eqb w.0 x) (λ z. n (eqb→eq w.0 x z)))

miss : (w : Source) (ws : List Source) (x j : ℕ) → w.0 < x → wires (w ∷ ws) x j ≡ wires ws x j
unfolding wires
miss w ws x zero l = refl
miss w ws x (suc j) l = rw (one-miss w ws x (omega arith), miss w ws (x + 1) j (omega arith))

add-one-wire : (w : Source) (ws : List Source) (x j : ℕ) → wires (w ∷ ws) x j ≤ wires ws x j + 1
unfolding wires wires_of
add-one-wire w ws x zero = omega arith
add-one-wire w ws x (suc j) = go (eqb w.0 x) refl (add-one-wire w ws (x + 1) j)
  where
    go : (q : Bool) → eqb w.0 x ≡ q → wires (w ∷ ws) (x + 1) j ≤ wires ws (x + 1) j + 1
        → length (pick (eqb w.0 x) (w.1 ∷ wires_of x ws) (wires_of x ws)) + wires (w ∷ ws) (x + 1) j
        ≤ length (wires_of x ws) + wires ws (x + 1) j + 1
    go true e h =
        let l : w.0 ≡ x = eqb→eq w.0 x (rw e tt) in
        rw (e, miss w ws (x + 1) j (omega arith)) (omega arith)
    go false e h = rw e (omega arith)

wires-le : (ws : List Source) (x j : ℕ) → wires ws x j ≤ length ws
wires-le [] x j = rw wires-nil (omega arith)
wires-le (w ∷ ws) x j = let h = wires-le ws x j in let h' = add-one-wire w ws x j in omega arith

-- of several roots: the ors of their callers are no more than the calls
roots-count : (cs : List Source) (r : ℕ) (Ps : List Code) (d c : ℕ)
    → root_delay_count Ps + root_walk_count cs r Ps + length (root_sources clock_sources Ps d) + length (root_walk_sources data_sources cs r Ps c)
    + length (root_walk_sources address_sources cs r Ps c)
    + length (root_sources call_sources Ps d)
    ≤ 3 * root_nodes Ps + wires cs r (length Ps)
unfolding root_delay_count root_walk_count root_sources root_walk_sources root_nodes wires
roots-count cs r [] d c = omega arith
roots-count cs r (P ∷ Ps) d c =
    simp length-append
    (let h = count P d (root_walk cs r c) in
    let h' = roots-count cs (r + 1) Ps (d + delay_count P) (past_root cs r P c) in
    let l = n_ors-le (wires_of r cs) in
    omega arith)

pub size : (S : Program) → length (netlist S) ≤ 27 + 3 * root_nodes (roots S)
size S =
    omega (
      arith,
      roots-count (calls_of S) 0 (roots S) 3 (walk_place S),
      wires-le (calls_of S) 0 (length (roots S)),
      net-length S,
      ors-wires (clocks_of S) 0 20,
      wires-le (clocks_of S) 0 20,
      ors-wires (data_of S) 0 20,
      wires-le (data_of S) 0 20,
      ors-wires (addresses_of S) 16 4,
      wires-le (addresses_of S) 16 4,
    )

pub fits : (S : Program) → root_nodes (roots S) ≤ 200 → (27 ≤ length (netlist S)) × (length (netlist S) ≤ 627)
fits S h = let s = size S in omega (arith, net-length S)
