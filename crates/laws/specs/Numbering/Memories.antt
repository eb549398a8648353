-- Which cells are memories or an array's: the delays, the ors and the walk have neither.
-- Assumes nothing.
use Rattle.std.specs.Prelude.{◌≡◌, Bool, true, false, not, ◌&&◌, ◌||◌, eqb}
use Rattle.std.proofs.Math.Path.{refl}
use Rattle.std.proofs.Common.{sym, arith, ne_eqb}
use Rattle.std.proofs.Math.Bool.{and_assoc}
use mathlib.Core.List.{List, [], ◌∷◌, ◌++◌}
use Prim.Native.Nat.{ℕ, zero, suc, ◌+◌, ◌≤◌}
use Rattle.std.proofs.lemmas.Bool.{not-true}
use Rattle.model.specs.declared.Cell.{Cell}
use Rattle.model.specs.Word.{bit}
use Rattle.model.specs.Program.{Expr, const, var, compl, op, elem, Code, ok, tick, assign, assign_elem, seq, par, ite, while, repeat, loop, exit, call}
use Rattle.model.specs.Circuit.{memories}
use Rattle.model.specs.NetlistFile.{of_array}
use Rattle.model.specs.Numbering.{Wires, expr_count, expr_cells, if_delay_count, if_delay_cells, delay_count, walk_count, exits_at, finish_wire, exit_wires, delays, walk, Source, wires_of, root_start, root_walk, past_root, root_delays, root_walks}
use Rattle.model.specs.Numbering.{or_chain, ors, or_count, ors_from, memories_of}
use Rattle.laws.specs.Refusals.Laws.{and-true, or-false}
use Rattle.laws.specs.Program.Fit.{FormedExpr, Formed, EveryRoot, Numberable}

pub memories-append : (xs ys : List Cell) → memories (xs ++ ys) ≡ memories xs + memories ys
unfolding memories
memories-append [] ys = omega arith
memories-append (c ∷ xs) ys = rw (memories-append xs ys) (omega arith)

-- a kind of neither, and cells of such kinds
unfoldable pub plain_kind : ℕ → Bool
unfolding of_array
plain_kind k = not (eqb k 40 || of_array k)

unfoldable pub plain : List Cell → Bool
unfolding plain_kind
plain [] = true
plain (c ∷ cs) = plain_kind c.kind && plain cs

pub plain-kind : (k : ℕ) → plain_kind k ≡ true → (eqb k 40 ≡ false) × (of_array k ≡ false)
unfolding plain_kind
plain-kind k e = or-false (eqb k 40) (of_array k) (not-true _ e)

pub plain-append : (xs ys : List Cell) → plain (xs ++ ys) ≡ (plain xs && plain ys)
unfolding plain
plain-append [] ys = refl
plain-append (c ∷ xs) ys = rw (plain-append xs ys) (sym (and_assoc (plain_kind c.kind) (plain xs) (plain ys)))

pub plain-free : (cs : List Cell) → plain cs ≡ true → memories cs ≡ 0
unfolding memories plain bit
plain-free [] e = refl
plain-free (c ∷ cs) e =
    let p = and-true (plain_kind c.kind) (plain cs) e in
    rw ((plain-kind c.kind p.0).0, plain-free cs p.1)

-- ---- delays and ors

pub own-plain : (δ s : ℕ) → plain (if_delay_cells δ s) ≡ true
unfolding plain if_delay_cells
own-plain zero s = refl
own-plain (suc δ) s = refl

pub delays-plain : (w : ℕ) (P : Code) (s d c : ℕ) → plain (delays w P s d c) ≡ true
unfolding plain delays
delays-plain w ok s d c = refl
delays-plain w (tick δ) s d c = refl
delays-plain w (assign δ x e) s d c = refl
delays-plain w (assign_elem δ k i e) s d c = refl
delays-plain w (seq P Q) s d c = simp (plain-append, delays-plain w P s d c, delays-plain w Q (finish_wire P s d c) (d + delay_count P) (c + walk_count P))
delays-plain w (par P Q) s d c = simp (plain-append, delays-plain w P s d c, delays-plain w Q s (d + delay_count P) (c + walk_count P))
delays-plain w (ite δ e P Q) s d c =
    simp (
      plain-append,
      own-plain,
      delays-plain w P (c + expr_count e) (d + if_delay_count δ) (c + expr_count e + 1 + 1),
      delays-plain w Q (c + expr_count e + 1) (d + if_delay_count δ + delay_count P) (c + expr_count e + 1 + 1 + walk_count P),
    )
delays-plain w (while δ e P) s d c = rw (delays-plain w P (c + expr_count e) (d + 1) (c + expr_count e + 1 + 1))
delays-plain w (repeat δ e P) s d c = rw (delays-plain w P (c + expr_count e + 1 + 1) (d + 1) (c + expr_count e + 1 + 1 + 1))
delays-plain w (loop δ P) s d c = rw (delays-plain w P c (d + 1) (c + 1))
delays-plain w exit s d c = refl
delays-plain w (call δ p) s d c = refl

pub root-delays-plain : (w z : ℕ) (cs : List Source) (r : ℕ) (Ps : List Code) (d c : ℕ) → plain (root_delays w z cs r Ps d c) ≡ true
unfolding plain root_delays
root-delays-plain w z cs r [] d c = refl
root-delays-plain w z cs r (P ∷ Ps) d c =
    simp (
      plain-append,
      delays-plain w P (root_start z cs r c) d (root_walk cs r c),
      root-delays-plain w z cs (r + 1) Ps (d + delay_count P) (past_root cs r P c),
    )

module _ (kind : ℕ) (other : plain_kind kind ≡ true) where
  chain-plain : (acc n : ℕ) (ws : List ℕ) → plain (or_chain kind acc n ws) ≡ true
  unfolding plain or_chain
  chain-plain acc n [] = refl
  chain-plain acc n (w ∷ ws) = rw (other, chain-plain n (n + 1) ws)

  ors-plain : (n : ℕ) (ws : List ℕ) → plain (ors kind n ws) ≡ true
  unfolding plain ors
  ors-plain n [] = refl
  ors-plain n (w ∷ ws) = chain-plain w n ws

  pub ors_from-plain : (ws : List Source) (n x j : ℕ) → plain (ors_from kind ws n x j) ≡ true
  unfolding plain ors_from
  ors_from-plain ws n x zero = refl
  ors_from-plain ws n x (suc j) = simp (plain-append, ors-plain, ors_from-plain ws (n + or_count (wires_of x ws)) (x + 1) j)

-- ---- the walk

op-plain : (k : ℕ) → 4 ≤ k → k ≤ 9 → plain_kind k ≡ true
unfolding plain_kind
op-plain k h h' = rw (ne_eqb k 40 (λ e. omega arith), ne_eqb k 42 (λ e. omega arith), ne_eqb k 43 (λ e. omega arith))

pub e-plain : (M : Wires) (e : Expr) → FormedExpr e → (c : ℕ) → plain (expr_cells M e c) ≡ true
unfolding plain expr_cells
e-plain M (const v) w c = refl
e-plain M (var x) w c = refl
e-plain M (compl e) w c = simp (plain-append, e-plain M e w c)
e-plain M (op k e f) w c = simp (plain-append, e-plain M e w.2 c, e-plain M f w.3 (c + expr_count e), op-plain k w.0 w.1)
e-plain M (elem k e) w c = simp (plain-append, e-plain M e w.1 c)

pub walk-plain : (M : Wires) (F : ℕ → ℕ) (P : Code) → Formed P → (s d c : ℕ) → plain (walk M F P s d c) ≡ true
unfolding plain plain_kind walk
walk-plain M F ok w s d c = refl
walk-plain M F (tick δ) w s d c = refl
walk-plain M F (assign δ x e) w s d c = simp (plain-append, e-plain M e w.2 c)
walk-plain M F (assign_elem δ k i e) w s d c = simp (plain-append, e-plain M i w.2 c, e-plain M e w.3 (c + expr_count i))
walk-plain M F (seq P Q) w s d c =
    simp (plain-append, walk-plain M F P w.0 s d c, walk-plain M F Q w.1 (finish_wire P s d c) (d + delay_count P) (c + walk_count P))
walk-plain M F (par P Q) w s d c = simp (plain-append, walk-plain M F P w.0 s d c, walk-plain M F Q w.1 s (d + delay_count P) (c + walk_count P))
walk-plain M F (ite δ e P Q) w s d c =
    simp (
      plain-append,
      e-plain M e w.1 c,
      walk-plain M F P w.2 (c + expr_count e) (d + if_delay_count δ) (c + expr_count e + 1 + 1),
      walk-plain M F Q w.3 (c + expr_count e + 1) (d + if_delay_count δ + delay_count P) (c + expr_count e + 1 + 1 + walk_count P),
    )
walk-plain M F (while δ e P) w s d c =
    simp (plain-append, e-plain M e w.1 c, walk-plain M F P w.2 (c + expr_count e) (d + 1) (c + expr_count e + 1 + 1))
walk-plain M F (repeat δ e P) w s d c =
    simp (plain-append, e-plain M e w.1 c, walk-plain M F P w.2 (c + expr_count e + 1 + 1) (d + 1) (c + expr_count e + 1 + 1 + 1))
walk-plain M F (loop δ P) w s d c = simp (plain-append, walk-plain M F P w.1 c (d + 1) (c + 1), ors-plain 35 refl (exits_at P c) (exit_wires P c (d + 1) (c + 1)))
walk-plain M F exit w s d c = refl
walk-plain M F (call δ p) w s d c = refl

pub root-walks-plain : (M : Wires) (F : ℕ → ℕ) (z : ℕ) (cs : List Source) (r : ℕ) (Ps : List Code) → EveryRoot Numberable r Ps → (d c : ℕ)
    → plain (root_walks M F z cs r Ps d c) ≡ true
unfolding plain plain_kind root_walks
root-walks-plain M F z cs r [] w d c = refl
root-walks-plain M F z cs r (P ∷ Ps) w d c =
    simp (
      plain-append,
      ors-plain 35 refl c (wires_of r cs),
      walk-plain M F P w.0.0 (root_start z cs r c) d (root_walk cs r c),
      root-walks-plain M F z cs (r + 1) Ps w.1 (d + delay_count P) (past_root cs r P c),
    )

-- ---- memories

pub mems-all : (ks ds : List ℕ) (x n : ℕ) → memories (memories_of ks ds x n) ≡ n
unfolding memories memories_of bit
mems-all ks ds x zero = refl
mems-all ks ds x (suc n) = rw (mems-all ks ds (x + 1) n) (omega arith)
