-- Cells in a list of six bytes each; and which cells a cell looks at. Assumes nothing.
use mathlib.Core.Bool.{Bool, true, false}
use Rattle.std.specs.Int.{from_bool}
use mathlib.Core.List.{List, [], ◌∷◌}
use mathlib.Core.Path.{◌≡◌, refl, sym, ◌∙◌, ap}
use Prim.Native.Nat.{ℕ, zero, suc, ◌+◌, ◌*◌, ◌<◌, ◌≤◌}
use native.Mathlib.Omega.{arith}
use native.Mathlib.Nat.{zero-add, le_of_suc-le-suc}
use lib.Dec.{eqb}
use lib.ListN.{length, get_or, take}
use borrow.Author.Tests.{eqb-true}
use Rattle.model.specs.declared.Cell.{Cell}
use Rattle.model.specs.Word.{bit}
use Rattle.model.specs.Circuit.{cell_at, merges, memories, Shape, cell_table, shape}
use Rattle.model.specs.Circuit.{k_constant, k_complement, k_operator, k_start, k_ground, k_delay, k_or, k_when_true, k_when_false, k_merge, k_return, k_memory, k_gated, k_array, k_address, k_read, k_latch, k_unknown}
use Rattle.model.specs.NetlistFile.{cell_from, in_list}
use Rattle.laws.specs.Circuit.Ordered.{Looks, kinds, Ordered}
use Rattle.laws.specs.Refusals.Laws.{not-both}
use Rattle.laws.specs.Circuit.Shapes.{only-kind}
use Rattle.laws.specs.Circuit.Unique.{feeds}
use Rattle.laws.specs.NetlistFile.Passed.{length-cells}
use Rattle.laws.specs.NetlistFile.CellBytes.{cell-of}
use Rattle.slow.specs.Ring.{net_of, Sees}

-- a truth as a number, as the conversion gives it
pub truth : (b : Bool) → from_bool b ≡ bit b
unfolding bit
truth true = refl
truth false = refl

pub net-length : (cells : List ℕ) (n : ℕ) → length (net_of cells n) ≡ n
net-length cells n = length-cells in_list cells 0 n

pub net-cell : (cells : List ℕ) (n k : ℕ) → k < n → cell_at (net_of cells n) k ≡ cell_from cells (6 * k)
net-cell cells n k h = cell-of in_list cells 0 n k h ∙ ap (λ (j : ℕ). cell_from cells (6 * j)) (zero-add k)

pub net-delay : (cells : List ℕ) (n k : ℕ) → k < n → (cell_at (net_of cells n) k).delay ≡ get_or cells (6 * k + 1) 0
unfolding cell_from
net-delay cells n k h = ap (λ (c : Cell). c.delay) (net-cell cells n k h)

-- the cells that a cell of a shape looks at
looks-low : (sh : Shape) (K : ℕ → ℕ) (n k : ℕ) (c : Cell) → k < n → Looks (cell_table sh).row K n k c → ((sh ≡ k_constant → ⊥) → c.a < n) × (c.b < n)
unfolding cell_table
looks-low k_constant K n k c l o = (λ z. absurd (z refl), omega (arith, o.2))
looks-low k_complement K n k c l o = (λ z. omega (arith, o.1.0), omega (arith, o.2))
looks-low k_operator K n k c l o = (λ z. omega (arith, o.1.0), omega (arith, o.2.0))
looks-low k_start K n k c l o = (λ z. omega (arith, o.1), omega (arith, o.2))
looks-low k_ground K n k c l o = (λ z. omega (arith, o.1), omega (arith, o.2))
looks-low k_delay K n k c l o = (λ z. o.1.0, omega (arith, o.2))
looks-low k_or K n k c l o = (λ z. omega (arith, o.1.0), omega (arith, o.2.0))
looks-low k_when_true K n k c l o = (λ z. omega (arith, o.1.0), omega (arith, o.2.0))
looks-low k_when_false K n k c l o = (λ z. omega (arith, o.1.0), omega (arith, o.2.0))
looks-low k_merge K n k c l o = (λ z. omega (arith, o.1.0), omega (arith, o.2.0))
looks-low k_return K n k c l o = (λ z. omega (arith, o.1.0), omega (arith, o.2.0))
looks-low k_memory K n k c l o = (λ z. omega (arith, o.1.0), o.2.0)
looks-low k_gated K n k c l o = (λ z. omega (arith, o.1.0), omega (arith, o.2.0))
looks-low k_array K n k c l o = (λ z. omega (arith, o.1.0), o.2.0)
looks-low k_address K n k c l o = (λ z. o.1.0, omega (arith, o.2))
looks-low k_read K n k c l o = (λ z. omega (arith, o.1.0), omega (arith, o.2.0))
looks-low k_latch K n k c l o = (λ z. o.1.0, o.2.0)
looks-low k_unknown K n k c l o = absurd o.0

module _ (cells : List ℕ) (n k : ℕ) (l : k < n) (o : Ordered (net_of cells n)) where
  abbrev net : List Cell
  net = net_of cells n

  inside : k < length net
  inside = omega (arith, net-length cells n)

  constant-kind : (j : ℕ) → shape j ≡ k_constant → j ≡ 1
  unfolding cell_table
  constant-kind j e = only-kind j 1 (ap (λ (x : Shape). (cell_table x).first) e) (ap (λ (x : Shape). (cell_table x).last) e)

  pub sees-cell : Sees cells n (cell_at net k)
  unfolding cell_table shape
  sees-cell =
      let c = cell_at net k in
      let r = looks-low (shape c.kind) (kinds net) (length net) k c inside (o.looks k inside) in
      record {
        a = λ z. omega (arith, r.0 (λ e. z (constant-kind c.kind e)), net-length cells n);
        b = omega (arith, r.1, net-length cells n);
        array = λ z.
            let y : Looks (cell_table (shape 44)).row (kinds net) (length net) k c = rw z at (o.looks k inside) in
            (o.stands c.a (omega (arith, y.1.0, inside)) (eqb-true _ _ y.1.1)).0;
      }

  -- the same of the cell as it was read
  module _ (c : Cell) (e : c ≡ cell_from cells (6 * k)) where
    pub is-cell : cell_at net k ≡ c
    is-cell = net-cell cells n k l ∙ sym e

    pub sees-read : Sees cells n c
    sees-read = rw is-cell at sees-cell

    pub next-read : c.kind ≡ 42 → (k + 1 < n) × (c.delay < 4) × ((cell_from cells (6 * (k + 1))).a < n)
    next-read z =
        let q : (cell_at net k).kind ≡ 42 = ap (λ (x : Cell). x.kind) is-cell ∙ z in
        let st = o.stands k inside q in
        let p = o.arrays (cell_at net k).delay st.0 in
        let f = feeds net o k inside q in
        let b : k + 1 < n = omega (arith, p.0, st.1, net-length cells n) in (
          b,
          rw is-cell at st.0,
          omega (arith, f.2, net-length cells n, ap (λ (x : Cell). x.a) (net-cell cells n (k + 1) b)),
        )

-- no constant is a merge, no array and no read
pub merge-one : (k : ℕ) → merges k ≡ true → k ≡ 1 → ⊥
unfolding merges
merge-one k m e = not-both m (rw e refl)

pub merge-array : (k : ℕ) → merges k ≡ true → k ≡ 42 → ⊥
unfolding merges
merge-array k m e = not-both m (rw e refl)

pub merge-read : (k : ℕ) → merges k ≡ true → k ≡ 44 → ⊥
unfolding merges
merge-read k m e = not-both m (rw e refl)

-- memories below a cell
pub memories-next : (net : List Cell) (k : ℕ) → k < length net → memories (take (k + 1) net) ≡ memories (take k net) + bit (eqb (cell_at net k).kind 40)
unfolding memories
memories-next [] k l = absurd (omega arith)
memories-next (c ∷ cs) zero l = omega arith
memories-next (c ∷ cs) (suc k) l =
    let e : suc k + 1 ≡ suc (k + 1) = omega arith in
    rw e (omega (arith, memories-next cs k (le_of_suc-le-suc l)))

pub memories-few : (net : List Cell) (k : ℕ) → memories (take k net) ≤ memories net
unfolding memories
memories-few [] zero = omega arith
memories-few [] (suc k) = omega arith
memories-few (c ∷ cs) zero = omega arith
memories-few (c ∷ cs) (suc k) = omega (arith, memories-few cs k)
