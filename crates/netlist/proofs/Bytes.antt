-- Cells in bytes: where they stand, how lists of them are taken apart, and their bytes and words. Assumes nothing.
use Rattle.std.proofs.Common.{◌≡◌, ℕ, zero, suc, ◌+◌, ◌-◌, ◌*◌, ◌<◌, ◌≤◌, List, [], ◌∷◌, ◌++◌, length, get_or, take, drop, set, refl, sym, ◌∙◌, ap, ltb, lt-ltb, ltb-true, arith, drop-drop, get_or-take, get_or-drop}
use native.Mathlib.Numerals.{towards_suc}
use lib.Seq.{sets}
use Rattle.model.specs.declared.Cell.{Cell}
use Rattle.model.specs.Word.{pick, bytes16, get16, put16}
use Rattle.model.specs.Circuit.{cell_at, no_cell}
use Rattle.laws.specs.Refusals.Laws.{by_bool}
use Rattle.model.specs.NetlistFile.{cell_limit, cell_bytes, cell_from, cells_at}
use Rattle.laws.specs.NetlistFile.CellBytes.{bytes-length, bytes-append}
use Rattle.netlist.specs.declared.cells.Layout.{Layout}
use Rattle.netlist.specs.declared.cells.Layout.TheVariants.{InList, InFile}
use Rattle.netlist.specs.Offsets.{offset, size, Room}
use Rattle.laws.specs.Lists.Writes.{sets-append}

-- Where cells stand --------------------------------------------------------------------------------------------------------------------

offset-size : (layout : Layout) (k n : ℕ) → k < n → offset layout k + 6 ≤ size layout n
offset-size InList k n h = omega arith
offset-size InFile k n h = omega arith

-- a list with room for n cells has room for each
pub cell-fits : {layout : Layout} {s : List ℕ} {n : ℕ} → Room layout s n → (k : ℕ) → k < n → offset layout k + 6 ≤ length s
cell-fits {layout} {s} {n} r k h = omega (arith, offset-size layout k n h, r.fits)

-- and for the one that is looked at for input j of a cell k of its own
pub input-fits : {layout : Layout} {s : List ℕ} {n : ℕ} → Room layout s n → (j k : ℕ) {i : ℕ} → i ≡ pick (ltb j n) j k → k < n
    → (i < cell_limit) × (offset layout i + 6 ≤ length s)
input-fits {layout} {s} {n} r j k {i} e h =
    let l : i < n = rw e (by_bool (ltb j n) (λ t. rw t (ltb-true j n t)) (λ t. rw t h)) in
    (omega (arith, l, r.few), cell-fits r i l)

-- Lists of cells -----------------------------------------------------------------------------------------------------------------------

module _ (at : ℕ → ℕ) (s : List ℕ) where
  pub cells-length : (k n : ℕ) → length (cells_at at s k n) ≡ n
  unfolding cells_at
  cells-length k zero = refl
  cells-length k (suc n) = ap suc (cells-length (k + 1) n)

  pub cells-get : (k n j : ℕ) → j < n → cell_at (cells_at at s k n) j ≡ cell_from s (at (k + j))
  unfolding cells_at
  cells-get k zero j h = absurd (omega arith)
  cells-get k (suc n) zero h = let e : k + 0 ≡ k = omega arith in rw e refl
  cells-get k (suc n) (suc j) h = let e : k + suc j ≡ k + 1 + j = omega arith in rw e (cells-get (k + 1) n j (omega arith))

  pub cell-of : (n j : ℕ) → j < n → cell_at (cells_at at s 0 n) j ≡ cell_from s (at j)
  cell-of n j h = let e : 0 + j ≡ j = omega arith in rw e at (cells-get 0 n j h)

  pub kind-of : (n j : ℕ) → j < n → (cell_at (cells_at at s 0 n) j).kind ≡ get_or s (at j) 0
  unfolding cell_from
  kind-of n j h = rw (cell-of n j h) refl

  -- of the cell that is looked at for input j
  pub kind-input : (n j k : ℕ) {i a : ℕ} → i ≡ pick (ltb j n) j k → a ≡ get_or s (at i) 0 → j < length (cells_at at s 0 n)
      → a ≡ (cell_at (cells_at at s 0 n) j).kind
  kind-input n j k e f l =
      let h : j < n = omega (arith, l, cells-length 0 n) in
      rw (f, e, lt-ltb j n h) (sym (kind-of n j h))

  pub cells-more : (k n : ℕ) → 0 < n → cells_at at s k n ≡ cell_from s (at k) ∷ cells_at at s (k + 1) (n - 1)
  unfolding cells_at
  cells-more k n h = let e : n ≡ suc (n - 1) = omega arith in ap (λ (x : ℕ). cells_at at s k x) e

  pub cells-none : (k n : ℕ) → n ≡ 0 → cells_at at s k n ≡ []
  unfolding cells_at
  cells-none k n h = rw h refl

  pub drop_cells : (j k n : ℕ) → drop j (cells_at at s k n) ≡ cells_at at s (k + j) (n - j)
  unfolding cells_at
  drop_cells zero k n = let e : k + 0 ≡ k = omega arith in let f : n - 0 ≡ n = omega arith in rw (e, f) refl
  drop_cells (suc j) k zero = let e : 0 - suc j ≡ 0 = omega arith in rw e refl
  drop_cells (suc j) k (suc n) =
      let e : k + suc j ≡ k + 1 + j = omega arith in let f : suc n - suc j ≡ n - j = omega arith in rw (e, f) (drop_cells j (k + 1) n)

-- Cells one after another -----------------------------------------------------------------------------------------------------------------

-- from cell k of a netlist on these are left
pub record Standing (net : List Cell) (k : ℕ) (left : List Cell) : Type 0 where
  pub all : k + length left ≡ length net
  pub rest : drop k net ≡ left

pub standing-first : (net : List Cell) {left : List Cell} → net ≡ left → Standing net 0 left
standing-first net e = record { all = omega (arith, ap length e); rest = e }

pub passed : {net left : List Cell} {k : ℕ} → Standing net k left → left ≡ [] → length net ≤ k
passed S e = omega (arith, S.all, ap length e)

module _ {net left rest : List Cell} {k : ℕ} {c : Cell} (S : Standing net k left) (e : left ≡ c ∷ rest) where
  pub cell-among : k < length net
  cell-among = omega (arith, S.all, ap length e)

  pub standing-next : Standing net (k + 1) rest
  standing-next = record { all = omega (arith, S.all, ap length e); rest = sym (drop-drop 1 k net) ∙ ap (drop 1) (S.rest ∙ e) }

  pub cell-here : cell_at net k ≡ c
  cell-here =
      let z : k + 0 ≡ k = omega arith in
      rw z at (sym (get_or-drop k net 0 no_cell) ∙ ap (λ (cs : List Cell). cell_at cs 0) (S.rest ∙ e))

-- A list's cells as pieces of six bytes -----------------------------------------------------------------------------------------------

pub piece-cell : (s : List ℕ) (k : ℕ) (x : List ℕ) → x ≡ take 6 (drop (6 * k) s) → cell_from x 0 ≡ cell_from s (6 * k)
unfolding cell_from get16
piece-cell s k x e =
    let at : (j : ℕ) → j < 6 → get_or x j 0 ≡ get_or s (6 * k + j) 0 = λ j h. rw e (get_or-take 6 (drop (6 * k) s) j 0 h ∙ get_or-drop (6 * k) s j 0) in
    let a : 6 * k + 0 ≡ 6 * k = omega arith in
    let b : 6 * k + 2 + 1 ≡ 6 * k + 3 = omega arith in
    let d : 6 * k + 4 + 1 ≡ 6 * k + 5 = omega arith in
    rw (at 0 (omega arith), at 1 (omega arith), at 2 (omega arith), at 3 (omega arith), at 4 (omega arith), at 5 (omega arith), a, b, d) refl

-- One cell put in ----------------------------------------------------------------------------------------------------------------------

pub cell-put : (d : List ℕ) (i : ℕ) (c : Cell) {d₁ d₂ : List ℕ} → d₁ ≡ put16 (set (set d i c.kind) (i + 1) c.delay) (i + 2) c.a
    → d₂ ≡ put16 d₁ (i + 4) c.b → d₂ ≡ sets d i (cell_bytes (c ∷ []))
unfolding cell_bytes bytes16 put16
cell-put d i c e f = rw (f, e) (simp towards_suc)

-- Cells put in one after another: what is still to be put in --------------------------------------------------------------------------

pub put-more : {cs rest : List Cell} (c : Cell) → cs ≡ c ∷ rest → (d : List ℕ) (i : ℕ) {d' : List ℕ} → d' ≡ sets d i (cell_bytes (c ∷ []))
    → sets d i (cell_bytes cs) ≡ sets d' (i + 6) (cell_bytes rest)
put-more {rest = rest} c e d i f =
    let l : length (cell_bytes (c ∷ [])) ≡ 6 = bytes-length (c ∷ []) in
    let q : sets d i (cell_bytes (c ∷ []) ++ cell_bytes rest) ≡ sets (sets d i (cell_bytes (c ∷ []))) (i + 6) (cell_bytes rest) =
    rw l at (sets-append d i (cell_bytes (c ∷ [])) (cell_bytes rest)) in
    rw (e, bytes-append (c ∷ []) rest, f) q

pub put-done : {cs : List Cell} → cs ≡ [] → (d : List ℕ) (i : ℕ) → sets d i (cell_bytes cs) ≡ d
unfolding cell_bytes
put-done e d i = rw e refl
