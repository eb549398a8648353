-- How many cells an expression, ors, the delays and the walk of a statement are.
-- Assumes nothing.
use Rattle.std.specs.Prelude.{◌≡◌, refl, List, [], ◌∷◌, ℕ, zero, suc, ◌+◌, ◌-◌, length}
use Rattle.std.proofs.Common.{ap, ◌∙◌, arith, length-append}
use Rattle.model.specs.Program.{Expr, const, var, compl, op, elem, Code, ok, tick, assign, assign_elem, seq, par, ite, while, repeat, loop, exit, call}
use Rattle.model.specs.Numbering.{Wires, expr_count, expr_cells, if_delay_count, if_delay_cells, or_chain, ors, or_count, delay_count, exit_count, walk_count, exits_at, finish_wire, exit_wires, delays, walk, Source, wires_of, root_delay_count, root_start, root_walk, past_root, root_walk_count, root_finishes, root_delays, root_walks}

pub e-len : (M : Wires) (e : Expr) (c : ℕ) → length (expr_cells M e c) ≡ expr_count e
unfolding expr_cells expr_count
e-len M (const n) c = refl
e-len M (var x) c = refl
e-len M (compl e) c = simp (length-append, e-len M e c) (omega arith)
e-len M (op k e f) c = simp (length-append, e-len M e c, e-len M f (c + expr_count e)) (omega arith)
e-len M (elem k e) c = simp (length-append, e-len M e c) (omega arith)

pub chain-len : (kind acc n : ℕ) (ws : List ℕ) → length (or_chain kind acc n ws) ≡ length ws
unfolding or_chain
chain-len kind acc n [] = refl
chain-len kind acc n (w ∷ ws) = ap suc (chain-len kind n (n + 1) ws)

pub ors-len : (kind n : ℕ) (ws : List ℕ) → length (ors kind n ws) ≡ or_count ws
unfolding ors or_count
ors-len kind n [] = refl
ors-len kind n (w ∷ ws) = chain-len kind w n ws

pub own-len : (δ s : ℕ) → length (if_delay_cells δ s) ≡ if_delay_count δ
unfolding if_delay_cells if_delay_count
own-len zero s = refl
own-len (suc δ) s = refl

pub d-len : (w : ℕ) (P : Code) (s d c : ℕ) → length (delays w P s d c) ≡ delay_count P
unfolding delays delay_count
d-len w ok s d c = refl
d-len w (tick δ) s d c = refl
d-len w (assign δ x e) s d c = refl
d-len w (assign_elem δ k i e) s d c = refl
d-len w (seq P Q) s d c = simp (length-append, d-len w P s d c, d-len w Q (finish_wire P s d c) (d + delay_count P) (c + walk_count P))
d-len w (par P Q) s d c = simp (length-append, d-len w P s d c, d-len w Q s (d + delay_count P) (c + walk_count P))
d-len w (ite δ e P Q) s d c =
    simp (
      length-append,
      own-len,
      d-len w P (c + expr_count e) (d + if_delay_count δ) (c + expr_count e + 1 + 1),
      d-len w Q (c + expr_count e + 1) (d + if_delay_count δ + delay_count P) (c + expr_count e + 1 + 1 + walk_count P),
    )
d-len w (while δ e P) s d c = rw (d-len w P (c + expr_count e) (d + 1) (c + expr_count e + 1 + 1)) (omega arith)
d-len w (repeat δ e P) s d c = rw (d-len w P (c + expr_count e + 1 + 1) (d + 1) (c + expr_count e + 1 + 1 + 1)) (omega arith)
d-len w (loop δ P) s d c = rw (d-len w P c (d + 1) (c + 1)) (omega arith)
d-len w exit s d c = refl
d-len w (call δ p) s d c = refl

-- the exits, and the ors that join them
pub x_len : (P : Code) (s d c : ℕ) → length (exit_wires P s d c) ≡ exit_count P
unfolding exit_wires exit_count
x_len ok s d c = refl
x_len (tick δ) s d c = refl
x_len (assign δ x e) s d c = refl
x_len (assign_elem δ k i e) s d c = refl
x_len (seq P Q) s d c = simp (length-append, x_len P s d c, x_len Q (finish_wire P s d c) (d + delay_count P) (c + walk_count P))
x_len (par P Q) s d c = simp (length-append, x_len P s d c, x_len Q s (d + delay_count P) (c + walk_count P))
x_len (ite δ e P Q) s d c =
    simp (
      length-append,
      x_len P (c + expr_count e) (d + if_delay_count δ) (c + expr_count e + 1 + 1),
      x_len Q (c + expr_count e + 1) (d + if_delay_count δ + delay_count P) (c + expr_count e + 1 + 1 + walk_count P),
    )
x_len (while δ e P) s d c = x_len P (c + expr_count e) (d + 1) (c + expr_count e + 1 + 1)
x_len (repeat δ e P) s d c = x_len P (c + expr_count e + 1 + 1) (d + 1) (c + expr_count e + 1 + 1 + 1)
x_len (loop δ P) s d c = refl
x_len exit s d c = refl
x_len (call δ p) s d c = refl

pub or_count_lem : (ws : List ℕ) → or_count ws ≡ length ws - 1
unfolding or_count
or_count_lem [] = refl
or_count_lem (w ∷ ws) = omega arith

pub exit-ors : (P : Code) (s d c : ℕ) → or_count (exit_wires P s d c) ≡ exit_count P - 1
exit-ors P s d c = or_count_lem (exit_wires P s d c) ∙ ap (λ (k : ℕ). k - 1) (x_len P s d c)

pub w-len : (M : Wires) (F : ℕ → ℕ) (P : Code) (s d c : ℕ) → length (walk M F P s d c) ≡ walk_count P
unfolding walk walk_count
w-len M F ok s d c = refl
w-len M F (tick δ) s d c = refl
w-len M F (assign δ x e) s d c = simp (length-append, e-len)
w-len M F (assign_elem δ k i e) s d c = simp (length-append, e-len)
w-len M F (seq P Q) s d c = simp (length-append, w-len M F P s d c, w-len M F Q (finish_wire P s d c) (d + delay_count P) (c + walk_count P))
w-len M F (par P Q) s d c = simp (length-append, w-len M F P s d c, w-len M F Q s (d + delay_count P) (c + walk_count P))
w-len M F (ite δ e P Q) s d c =
    simp (
      length-append,
      e-len,
      w-len M F P (c + expr_count e) (d + if_delay_count δ) (c + expr_count e + 1 + 1),
      w-len M F Q (c + expr_count e + 1) (d + if_delay_count δ + delay_count P) (c + expr_count e + 1 + 1 + walk_count P),
    )
    (omega arith)
w-len M F (while δ e P) s d c = simp (length-append, e-len, w-len M F P (c + expr_count e) (d + 1) (c + expr_count e + 1 + 1)) (omega arith)
w-len M F (repeat δ e P) s d c = simp (length-append, e-len, w-len M F P (c + expr_count e + 1 + 1) (d + 1) (c + expr_count e + 1 + 1 + 1)) (omega arith)
w-len M F (loop δ P) s d c =
    simp (length-append, w-len M F P c (d + 1) (c + 1), ors-len 35 (exits_at P c) (exit_wires P c (d + 1) (c + 1)), exit-ors P c (d + 1) (c + 1)) (omega arith)
w-len M F exit s d c = refl
w-len M F (call δ p) s d c = refl

-- of several roots
pub root-d-len : (w z : ℕ) (cs : List Source) (r : ℕ) (Ps : List Code) (d c : ℕ) → length (root_delays w z cs r Ps d c) ≡ root_delay_count Ps
unfolding root_delays root_delay_count
root-d-len w z cs r [] d c = refl
root-d-len w z cs r (P ∷ Ps) d c =
    simp (
      length-append,
      d-len w P (root_start z cs r c) d (root_walk cs r c),
      root-d-len w z cs (r + 1) Ps (d + delay_count P) (past_root cs r P c),
    )

pub root-w-len : (M : Wires) (F : ℕ → ℕ) (z : ℕ) (cs : List Source) (r : ℕ) (Ps : List Code) (d c : ℕ)
    → length (root_walks M F z cs r Ps d c) ≡ root_walk_count cs r Ps
unfolding root_walks root_walk_count
root-w-len M F z cs r [] d c = refl
root-w-len M F z cs r (P ∷ Ps) d c =
    simp (
      length-append,
      ors-len 35 c (wires_of r cs),
      w-len M F P (root_start z cs r c) d (root_walk cs r c),
      root-w-len M F z cs (r + 1) Ps (d + delay_count P) (past_root cs r P c),
    )
    (omega arith)

pub finishes-len : (z : ℕ) (cs : List Source) (r : ℕ) (Ps : List Code) (d c : ℕ) → length (root_finishes z cs r Ps d c) ≡ length Ps
unfolding root_finishes
finishes-len z cs r [] d c = refl
finishes-len z cs r (P ∷ Ps) d c = ap suc (finishes-len z cs (r + 1) Ps (d + delay_count P) (past_root cs r P c))
