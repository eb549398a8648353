-- A statement of n nodes has at most n assignments and calls, n exits, n delay cells and 2 n walk cells. Assumes nothing.
use mathlib.Core.List.{List, [], ◌∷◌}
use Prim.Native.Nat.{ℕ, zero, suc, ◌+◌, ◌*◌, ◌≤◌, ◌<◌}
use native.Mathlib.Omega.{arith}
use lib.ListN.{length, get_or}
use Rattle.model.specs.Program.{Expr, const, var, compl, op, elem, Code, ok, tick, assign, assign_elem, seq, par, ite, while, repeat, loop, exit, call}
use Rattle.model.specs.Numbering.{expr_count, if_delay_count, delay_count, exit_count, walk_count, or_count, wires_of, root_delay_count, root_walk_count}
use Rattle.laws.specs.Numbering.Count.{e_nodes, nodes, root_nodes}
use Rattle.compiler.specs.Walk.{assignments, all_exits}
use Rattle.compiler.specs.Whole.{root_assignments}

few-expr : (e : Expr) → (expr_count e ≤ e_nodes e) × (1 ≤ e_nodes e)
unfolding expr_count e_nodes
few-expr (const n) = omega arith
few-expr (var x) = omega arith
few-expr (compl e) = omega (arith, few-expr e)
few-expr (op k e f) = omega (arith, few-expr e, few-expr f)
few-expr (elem k e) = omega (arith, few-expr e)

few-own : (δ : ℕ) → if_delay_count δ ≤ 1
unfolding if_delay_count
few-own zero = omega arith
few-own (suc δ) = omega arith

-- those that end the loop around it are some of its exits
pub some-exits : (P : Code) → exit_count P ≤ all_exits P
unfolding exit_count all_exits
some-exits ok = omega arith
some-exits (tick δ) = omega arith
some-exits (assign δ x e) = omega arith
some-exits (assign_elem δ k i e) = omega arith
some-exits (seq P Q) = omega (arith, some-exits P, some-exits Q)
some-exits (par P Q) = omega (arith, some-exits P, some-exits Q)
some-exits (ite δ e P Q) = omega (arith, some-exits P, some-exits Q)
some-exits (while δ e P) = some-exits P
some-exits (repeat δ e P) = some-exits P
some-exits (loop δ P) = omega arith
some-exits exit = omega arith
some-exits (call δ p) = omega arith

-- an exit that ends the loop around P will need at most one walk cell, and counts as one already
pub few : (P : Code) → (assignments P ≤ nodes P) × (all_exits P ≤ nodes P) × (delay_count P ≤ nodes P) × (walk_count P + exit_count P ≤ 2 * nodes P)
unfolding assignments all_exits delay_count exit_count walk_count nodes
few ok = omega arith
few (tick δ) = omega arith
few (assign δ x e) = omega (arith, few-expr e)
few (assign_elem δ k i e) = omega (arith, few-expr i, few-expr e)
few (seq P Q) = omega (arith, few P, few Q)
few (par P Q) = omega (arith, few P, few Q)
few (ite δ e P Q) = omega (arith, few-expr e, few-own δ, few P, few Q)
few (while δ e P) = omega (arith, few-expr e, few P)
few (repeat δ e P) = omega (arith, few-expr e, few P)
few (loop δ P) = omega (arith, few P)
few exit = omega arith
few (call δ p) = omega arith

-- and so have several roots, whose first walk joins no callers
pub few-roots : (r : ℕ) (Ps : List Code)
    → (root_assignments Ps ≤ root_nodes Ps) × (root_delay_count Ps ≤ root_nodes Ps) × (root_walk_count [] r Ps ≤ 2 * root_nodes Ps)
unfolding root_assignments root_delay_count root_walk_count root_nodes wires_of or_count
few-roots r [] = omega arith
few-roots r (P ∷ Ps) = omega (arith, few P, few-roots (r + 1) Ps)

pub one-root : (Ps : List Code) (r : ℕ) → r < length Ps → nodes (get_or Ps r ok) ≤ root_nodes Ps
unfolding root_nodes
one-root [] r l = absurd (omega arith)
one-root (P ∷ Ps) zero l = omega arith
one-root (P ∷ Ps) (suc r) l = omega (arith, one-root Ps r (omega arith))
