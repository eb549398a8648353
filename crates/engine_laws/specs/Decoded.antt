-- What the engine reads from a netlist: the fields of its cells, one list for each, and numbers for its delays and registers. Assumes nothing.
use Rattle.std.specs.Prelude.{List, ◌≡◌, refl, ℕ, zero, suc, ◌+◌, ◌<◌, eqb, length, get_or, set}
use Rattle.std.proofs.Common.{sym, ◌∙◌, ap, arith, get_or-set_same, get_or-set_other, eq-eqb, ne_eqb}
use Rattle.std.proofs.Math.Decide.{ℕ_discrete}
use Rattle.model.specs.declared.Cell.{Cell}
use Rattle.model.specs.Word.{bit}
use Rattle.model.specs.Circuit.{cell, cell_at}

-- what lists of fields have at k
abbrev pub cell_in : List ℕ → List ℕ → List ℕ → List ℕ → ℕ → Cell
cell_in kinds delays a b k = cell (get_or kinds k 0) (get_or delays k 0) (get_or a k 0) (get_or b k 0)

-- the first n cells are in the lists
abbrev pub Decoded : List Cell → List ℕ → List ℕ → List ℕ → List ℕ → ℕ → Type 0
Decoded cells kinds delays a b n = (k : ℕ) → k < n → cell_at cells k ≡ cell_in kinds delays a b k

-- a list with one more entry at k
pub set_below : (P : ℕ → ℕ → Type 0) (s : List ℕ) (k x : ℕ) → k < length s → ((j : ℕ) → j < k → P j (get_or s j 0)) → P k x
    → (j : ℕ) → j < k + 1 → P j (get_or (set s k x) j 0)
set_below P s k x l h p j b = go (ℕ_discrete j k)
  where
    go : Dec (j ≡ k) → P j (get_or (set s k x) j 0)
    go (yes e) = rw (e, get_or-set_same s k x 0 l) p
    go (no n) = rw (get_or-set_other s k j x 0 n) (h j (omega (arith, n)))

pub decoded-more : (cells : List Cell) (kinds delays a b : List ℕ) (k : ℕ) (c : Cell) → k < length kinds → k < length delays → k < length a → k < length b
    → c ≡ cell_at cells k → Decoded cells kinds delays a b k
    → Decoded cells (set kinds k c.kind) (set delays k c.delay) (set a k c.a) (set b k c.b) (k + 1)
decoded-more cells kinds delays a b k c lk ld la lb e h j g = go (ℕ_discrete j k)
  where
    go : Dec (j ≡ k) → cell_at cells j ≡ cell_in (set kinds k c.kind) (set delays k c.delay) (set a k c.a) (set b k c.b) j
    go (yes q) =
        rw (q, get_or-set_same kinds k c.kind 0 lk, get_or-set_same delays k c.delay 0 ld, get_or-set_same a k c.a 0 la, get_or-set_same b k c.b 0 lb) (sym e)
    go (no n) =
        rw (get_or-set_other kinds k j c.kind 0 n, get_or-set_other delays k j c.delay 0 n, get_or-set_other a k j c.a 0 n, get_or-set_other b k j c.b 0 n)
        (h j (omega (arith, n)))

-- Numbers --------------------------------------------------------------------------------------------------------------------------------

-- how many cells below k are of kind j; K i is the kind of cell i
unfoldable pub below : ℕ → (ℕ → ℕ) → ℕ → ℕ
below j K zero = 0
below j K (suc k) = below j K k + bit (eqb (K k) j)

pub below_one : (j : ℕ) (K : ℕ → ℕ) (k : ℕ) → K k ≡ j → below j K (k + 1) ≡ below j K k + 1
unfolding below bit
below_one j K k e = let q : k + 1 ≡ suc k = omega arith in rw (q, eq-eqb (K k) j e) refl

pub below_other : (j : ℕ) (K : ℕ → ℕ) (k : ℕ) → (K k ≡ j → ⊥) → below j K (k + 1) ≡ below j K k
unfolding below bit
below_other j K k e = let q : k + 1 ≡ suc k = omega arith in rw (q, ne_eqb (K k) j e) (omega arith)

pub below-first : (j : ℕ) (K : ℕ → ℕ) → below j K 0 ≡ 0
unfolding below
below-first j K = refl

-- the number of a cell of kind j is below that of any later one
pub below_less : (j : ℕ) (K : ℕ → ℕ) (n k : ℕ) → k < n → K k ≡ j → below j K k < below j K n
unfolding below
below_less j K zero k l e = absurd (omega arith)
below_less j K (suc n) k l e = go (ℕ_discrete k n) (λ h. below_less j K n k h e)
  where
    last : below j K (n + 1) ≡ below j K (suc n)
    last = let q : n + 1 ≡ suc n = omega arith in rw q refl

    go : Dec (k ≡ n) → (k < n → below j K k < below j K n) → below j K k < below j K (suc n)
    go (yes q) ih = let z : K n ≡ j = ap K (sym q) ∙ e in rw q (omega (arith, below_one j K n z, last))
    go (no q) ih = omega (arith, ih (omega (arith, q)))

-- kinds that agree below k
pub below-same : (j : ℕ) (K L : ℕ → ℕ) (k : ℕ) → ((i : ℕ) → i < k → K i ≡ L i) → below j K k ≡ below j L k
unfolding below
below-same j K L zero h = refl
below-same j K L (suc k) h = rw (h k (omega arith), below-same j K L k (λ i l. h i (omega arith))) refl

-- r is the number of cell k: of a delay or a memory how many of them stand below it, of array i 16 + i; D k is the cell's delay
abbrev pub Rank : (ℕ → ℕ) → (ℕ → ℕ) → ℕ → ℕ → Type 0
Rank K D k r =
    (K k ≡ 34 → r ≡ below 34 K k) × (K k ≡ 40 → below 40 K k < 16 → r ≡ below 40 K k) × (K k ≡ 42 → D k < 4 → r ≡ 16 + D k)

-- the numbers of the first n cells
abbrev pub Ranks : (ℕ → ℕ) → (ℕ → ℕ) → List ℕ → ℕ → Type 0
Ranks K D ranks n = (k : ℕ) → k < n → Rank K D k (get_or ranks k 0)

pub ranks-other : (K D : ℕ → ℕ) (ranks : List ℕ) (k : ℕ) → (K k ≡ 34 → ⊥) → (K k ≡ 40 → ⊥) → (K k ≡ 42 → ⊥) → Ranks K D ranks k → Ranks K D ranks (k + 1)
ranks-other K D ranks k d m a h j l = go (ℕ_discrete j k)
  where
    go : Dec (j ≡ k) → Rank K D j (get_or ranks j 0)
    go (yes q) = rw q (λ e. absurd (d e), λ e f. absurd (m e), λ e f. absurd (a e))
    go (no n) = h j (omega (arith, n))

-- the delays among the first n cells, in order
pub record Delays (K : ℕ → ℕ) (n : ℕ) (delays : List ℕ) (count : ℕ) : Type 0 where
  pub number : count ≡ below 34 K n
  pub found : (k : ℕ) → k < n → K k ≡ 34 → get_or delays (below 34 K k) 0 ≡ k
  pub cells : (r : ℕ) → r < count → (get_or delays r 0 < n) × (K (get_or delays r 0) ≡ 34) × (below 34 K (get_or delays r 0) ≡ r)

pub delays-none : (K : ℕ → ℕ) (delays : List ℕ) → Delays K 0 delays 0
delays-none K delays = record { number = sym (below-first 34 K); found = λ k l e. absurd (omega arith); cells = λ r l. absurd (omega arith) }

pub delays-other : (K : ℕ → ℕ) (k : ℕ) (delays : List ℕ) (count : ℕ) → (K k ≡ 34 → ⊥) → Delays K k delays count → Delays K (k + 1) delays count
delays-other K k delays count n d =
    record {
      number = d.number ∙ sym (below_other 34 K k n);
      found = λ j l e. d.found j (omega (arith, here j e)) e;
      cells = λ r l. let z = d.cells r l in (omega (arith, z.0), z.1, z.2);
    }
  where
    here : (j : ℕ) → K j ≡ 34 → j ≡ k → ⊥
    here j e q = n (ap K (sym q) ∙ e)

pub delays-more : (K : ℕ → ℕ) (k : ℕ) (delays : List ℕ) (count : ℕ) → K k ≡ 34 → count < length delays → Delays K k delays count
    → Delays K (k + 1) (set delays count k) (count + 1)
delays-more K k delays count e room d =
    record {
      number = omega (arith, d.number, below_one 34 K k e);
      found = λ j l q. found j q (ℕ_discrete j k) l;
      cells = λ r l. cells r l (ℕ_discrete r count);
    }
  where
    found : (j : ℕ) → K j ≡ 34 → Dec (j ≡ k) → j < k + 1 → get_or (set delays count k) (below 34 K j) 0 ≡ j
    found j q (yes z) l = rw (z, ← d.number) (get_or-set_same delays count k 0 room)
    found j q (no z) l =
        let h : j < k = omega (arith, z) in
        get_or-set_other delays count (below 34 K j) k 0 (λ y. omega (arith, d.number, below_less 34 K k j h q)) ∙ d.found j h q

    cells : (r : ℕ) → r < count + 1 → Dec (r ≡ count)
        → (get_or (set delays count k) r 0 < k + 1) × (K (get_or (set delays count k) r 0) ≡ 34) × (below 34 K (get_or (set delays count k) r 0) ≡ r)
    cells r l (yes z) = rw (z, get_or-set_same delays count k 0 room) (omega arith, e, sym d.number)
    cells r l (no z) =
        let h = d.cells r (omega (arith, z)) in
        rw (get_or-set_other delays count r k 0 z) (omega (arith, h.0), h.1, h.2)
