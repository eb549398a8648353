-- Cells in bytes: what is written of cells is read as those cells, and bytes that are read as cells are what is written of them.
-- Assumes nothing.
use Rattle.std.proofs.Common.{eq-eqb, sym, ◌∙◌, ap, ap₂, suc-le-suc, add-zero, le_of_suc-le-suc, arith, get_or-append-add}
use Rattle.std.specs.Prelude.{true, ◌≡◌, List, [], ◌∷◌, ◌++◌, ℕ, zero, suc, ◌+◌, ◌*◌, ◌<◌, ◌≤◌, length, get_or, drop, take}
use Rattle.std.proofs.Math.Path.{refl}
use Rattle.model.specs.NetlistFile.{all_zero}
use Rattle.model.specs.declared.Cell.{Cell}
use Rattle.model.specs.Word.{get16, bytes16, Bytes}
use Rattle.model.specs.Circuit.{cell, cell_at}
use Rattle.model.specs.NetlistFile.{cell_bytes, cell_from, cells_at}

-- What was written ---------------------------------------------------------------------------------------------------------------------

get_d-shift : (p q : List ℕ) (i j : ℕ) → i ≡ length p + j → get_or (p ++ q) i 0 ≡ get_or q j 0
get_d-shift p q i j e = rw e (get_or-append-add p q j 0)

-- a cell is told by its six bytes
pub same-cell : (s t : List ℕ) (i j : ℕ) → ((k : ℕ) → k < 6 → get_or s (i + k) 0 ≡ get_or t (j + k) 0) → cell_from s i ≡ cell_from t j
unfolding cell_from get16
same-cell s t i j h =
    rw (
      at 0 i j (omega arith) (omega arith) (omega arith),
      at 1 (i + 1) (j + 1) refl refl (omega arith),
      at 2 (i + 2) (j + 2) refl refl (omega arith),
      at 3 (i + 2 + 1) (j + 2 + 1) (omega arith) (omega arith) (omega arith),
      at 4 (i + 4) (j + 4) refl refl (omega arith),
      at 5 (i + 4 + 1) (j + 4 + 1) (omega arith) (omega arith) (omega arith),
    )
  where
    at : (k m n : ℕ) → i + k ≡ m → j + k ≡ n → k < 6 → get_or s m 0 ≡ get_or t n 0
    at k m n e f l = ap (λ (m : ℕ). get_or s m 0) (sym e) ∙ h k l ∙ ap (λ (n : ℕ). get_or t n 0) f

pub from-shift : (p q : List ℕ) (i j : ℕ) → i ≡ length p + j → cell_from (p ++ q) i ≡ cell_from q j
from-shift p q i j e = same-cell (p ++ q) q i j (λ k l. get_d-shift p q (i + k) (j + k) (omega arith))

-- a cell's own six bytes
six_of : Cell → List ℕ
six_of c = c.kind ∷ c.delay ∷ (bytes16 c.a ++ bytes16 c.b)

from-six : (c : Cell) (q : List ℕ) → cell_from (six_of c ++ q) 0 ≡ c
unfolding cell_from six_of bytes16 get16
from-six c q = ap₂ (λ (a b : ℕ). cell c.kind c.delay a b) (omega arith) (omega arith)

six-more : (c : Cell) (cs : List Cell) (q : List ℕ) → cell_bytes (c ∷ cs) ++ q ≡ six_of c ++ (cell_bytes cs ++ q)
unfolding cell_bytes six_of bytes16
six-more c cs q = refl

six-length : (c : Cell) → length (six_of c) ≡ 6
unfolding six_of bytes16
six-length c = refl

pub bytes-length : (cs : List Cell) → length (cell_bytes cs) ≡ 6 * length cs
unfolding cell_bytes bytes16
bytes-length [] = refl
bytes-length (c ∷ cs) = omega (arith, bytes-length cs)

pub bytes-append : (cs ds : List Cell) → cell_bytes (cs ++ ds) ≡ cell_bytes cs ++ cell_bytes ds
unfolding cell_bytes bytes16
bytes-append [] ds = refl
bytes-append (c ∷ cs) ds = rw (bytes-append cs ds) refl

pub from_bytes : (cs : List Cell) (q : List ℕ) (k : ℕ) → k < length cs → cell_from (cell_bytes cs ++ q) (6 * k) ≡ cell_at cs k
from_bytes [] q k l = absurd (omega arith)
from_bytes (c ∷ cs) q zero l = ap (λ (s : List ℕ). cell_from s 0) (six-more c cs q) ∙ from-six c (cell_bytes cs ++ q)
from_bytes (c ∷ cs) q (suc k) l =
    ap (λ (s : List ℕ). cell_from s (6 * suc k)) (six-more c cs q)
    ∙ from-shift (six_of c) (cell_bytes cs ++ q) (6 * suc k) (6 * k) (omega (arith, six-length c))
    ∙ from_bytes cs q k (le_of_suc-le-suc l)

-- cells that stand where they are looked for
pub cells_are : (at : ℕ → ℕ) (s : List ℕ) (cs : List Cell) (k n : ℕ) → length cs ≡ n
    → ((i : ℕ) → i < n → cell_from s (at (k + i)) ≡ cell_at cs i) → cells_at at s k n ≡ cs
unfolding cells_at
cells_are at s [] k zero e h = refl
cells_are at s [] k (suc n) e h = absurd (omega arith)
cells_are at s (c ∷ cs) k zero e h = absurd (omega arith)
cells_are at s (c ∷ cs) k (suc n) e h =
    ap₂ (λ (x : Cell) (xs : List Cell). x ∷ xs) (rw add-zero at (h 0 (omega arith)))
    (cells_are at s cs (k + 1) n (omega arith)
    (λ i l.
    let z : k + 1 + i ≡ k + suc i = omega arith in
    rw z (h (suc i) (suc-le-suc l))))

pub cell-of : (at : ℕ → ℕ) (s : List ℕ) (k n i : ℕ) → i < n → cell_at (cells_at at s k n) i ≡ cell_from s (at (k + i))
unfolding cells_at
cell-of at s k zero i l = absurd (omega arith)
cell-of at s k (suc n) zero l = rw add-zero
cell-of at s k (suc n) (suc i) l =
    let e : k + 1 + i ≡ k + suc i = omega arith in
    rw e at (cell-of at s (k + 1) n i (le_of_suc-le-suc l))

-- What was read ------------------------------------------------------------------------------------------------------------------------

pub two_back : (x y v : ℕ) → x < 256 → v ≡ x + 256 * y → bytes16 v ≡ x ∷ y ∷ []
unfolding bytes16
two_back x y v h e = ap₂ (λ (a b : ℕ). a ∷ b ∷ []) (omega arith) (omega arith)

-- the six bytes of a cell
six-back : (c : Cell) (cs : List Cell) (x₀ x₁ x₂ x₃ x₄ x₅ : ℕ) (q r : List ℕ) → x₂ < 256 → x₄ < 256
    → c ≡ cell x₀ x₁ (x₂ + 256 * x₃) (x₄ + 256 * x₅) → cell_bytes cs ++ q ≡ r → cell_bytes (c ∷ cs) ++ q ≡ x₀ ∷ x₁ ∷ x₂ ∷ x₃ ∷ x₄ ∷ x₅ ∷ r
unfolding cell_bytes
six-back c cs x₀ x₁ x₂ x₃ x₄ x₅ q r h g e i =
    rw (e, two_back x₂ x₃ (x₂ + 256 * x₃) h refl, two_back x₄ x₅ (x₄ + 256 * x₅) g refl, i)

pub cells-back : (cs : List Cell) (r : List ℕ) → Bytes r → ((i : ℕ) → i < length cs → cell_at cs i ≡ cell_from r (6 * i)) → 6 * length cs ≤ length r
    → cell_bytes cs ++ drop (6 * length cs) r ≡ r
unfolding cell_from get16
cells-back [] r b h l = unfold cell_bytes in refl
cells-back (c ∷ cs) [] b h l = absurd (omega arith)
cells-back (c ∷ cs) (x₀ ∷ []) b h l = absurd (omega arith)
cells-back (c ∷ cs) (x₀ ∷ x₁ ∷ []) b h l = absurd (omega arith)
cells-back (c ∷ cs) (x₀ ∷ x₁ ∷ x₂ ∷ []) b h l = absurd (omega arith)
cells-back (c ∷ cs) (x₀ ∷ x₁ ∷ x₂ ∷ x₃ ∷ []) b h l = absurd (omega arith)
cells-back (c ∷ cs) (x₀ ∷ x₁ ∷ x₂ ∷ x₃ ∷ x₄ ∷ []) b h l = absurd (omega arith)
cells-back (c ∷ cs) (x₀ ∷ x₁ ∷ x₂ ∷ x₃ ∷ x₄ ∷ x₅ ∷ r) b h l =
    let e : 6 * length (c ∷ cs) ≡ suc (suc (suc (suc (suc (suc (6 * length cs)))))) = omega arith in
    let p : List ℕ = x₀ ∷ x₁ ∷ x₂ ∷ x₃ ∷ x₄ ∷ x₅ ∷ [] in
    rw e
    (six-back c cs x₀ x₁ x₂ x₃ x₄ x₅ (drop (6 * length cs) r) r (b 2) (b 4) (h 0 (omega arith))
    (cells-back cs r (λ i. b (suc (suc (suc (suc (suc (suc i)))))))
    (λ i g. h (suc i) (suc-le-suc g) ∙ from-shift p r (6 * suc i) (6 * i) (omega arith)) (omega arith)))

-- Zeros ----------------------------------------------------------------------------------------------------------------------------------

pub zero-run : (m : ℕ) (s : List ℕ) → ((i : ℕ) → i < m → get_or s i 0 ≡ 0) → all_zero (take m s) ≡ true
unfolding all_zero
zero-run zero [] h = refl
zero-run zero (x ∷ s) h = refl
zero-run (suc m) [] h = refl
zero-run (suc m) (x ∷ s) h = rw (eq-eqb x 0 (h 0 (omega arith))) (zero-run m s (λ i l. h (suc i) (suc-le-suc l)))
