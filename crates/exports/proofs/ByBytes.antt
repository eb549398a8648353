-- Renumbering over six bytes for each cell: one cell more, and none left. Assumes nothing.
use Rattle.std.proofs.Common.{◌≡◌, ℕ, zero, suc, ◌+◌, ◌-◌, ◌*◌, ◌<◌, ◌≤◌, List, [], ◌∷◌, ◌++◌, map, length, get_or, take, drop, sym, refl, ap, ◌∙◌, ap₂, arith, length-append, length-take, get_or-drop}
use lib.Seq.{sets, sets-eq, drop-append_seam}
use Rattle.model.specs.declared.Cell.{Cell}
use Rattle.model.specs.NetlistFile.{cell_bytes, cell_from, cells_at, in_list}
use Rattle.model.specs.CellSlices.{moved, moved_bytes}
use Rattle.laws.specs.NetlistFile.CellBytes.{bytes-length, same-cell, bytes-append}
use Rattle.laws.specs.Lists.Writes.{sets-append}
use Rattle.netlist.proofs.Bytes.{cells-more, cells-none}

-- Cell after cell ----------------------------------------------------------------------------------------------------------------------

-- what stands behind a write is as it was
drop-behind : (s v : List ℕ) (i : ℕ) → i + length v ≤ length s → drop (i + length v) (sets s i v) ≡ drop (i + length v) s
drop-behind s v i h =
    let z : length (take i s ++ v) ≡ i + length v = simp (length-append, length-take) (omega (arith, h)) in
    rw (sets-eq v s i h) (rw z at (drop-append_seam (take i s ++ v) (drop (i + length v) s)))

module _ (s t : List ℕ) (n : ℕ) (e : drop n s ≡ drop n t) where
  get-same : (j : ℕ) → n ≤ j → get_or s j 0 ≡ get_or t j 0
  get-same j h =
      let z : n + (j - n) ≡ j = omega arith in
      let a : get_or (drop n s) (j - n) 0 ≡ get_or s j 0 = rw z at (get_or-drop n s (j - n) 0) in
      let b : get_or (drop n t) (j - n) 0 ≡ get_or t j 0 = rw z at (get_or-drop n t (j - n) 0) in
      sym a ∙ ap (λ (y : List ℕ). get_or y (j - n) 0) e ∙ b

  cells_same : (k m : ℕ) → n ≤ 6 * k → cells_at in_list s k m ≡ cells_at in_list t k m
  unfolding cells_at
  cells_same k zero h = refl
  cells_same k (suc m) h =
      ap₂ (λ (c : Cell) (cs : List Cell). c ∷ cs) (same-cell s t (6 * k) (6 * k) (λ j l. get-same (6 * k + j) (omega (arith, h)))) (cells_same (k + 1) m (omega (arith, h)))

module _ (k end : ℕ) (s : List ℕ) (i : ℕ) where
  pub bytes-more : {c next : Cell} {t : List ℕ} → i < end → 6 * end ≤ length s → c ≡ cell_from s (6 * i) → next ≡ moved k c → t ≡ sets s (6 * i) (cell_bytes (next ∷ []))
      → moved_bytes k end s i ≡ moved_bytes k end t (i + 1)
  bytes-more {c} {next} {t} h g e f q =
      let six : length (cell_bytes (next ∷ [])) ≡ 6 = bytes-length (next ∷ []) in
      let cs = map (moved k) (cells_at in_list s (i + 1) (end - i - 1)) in
      let m : end - i - 1 ≡ end - (i + 1) = omega arith in
      let z : 6 * i + length (cell_bytes (next ∷ [])) ≡ 6 * (i + 1) = omega (arith, six) in
      let d : drop (6 * (i + 1)) t ≡ drop (6 * (i + 1)) s = rw (q, ← z) (drop-behind s (cell_bytes (next ∷ [])) (6 * i) (omega (arith, six, h, g))) in
      let a : cells_at in_list s (i + 1) (end - i - 1) ≡ cells_at in_list t (i + 1) (end - (i + 1)) = rw m (sym (cells_same t s (6 * (i + 1)) d (i + 1) (end - (i + 1)) (omega arith))) in
      let b : sets s (6 * i) (cell_bytes (next ∷ []) ++ cell_bytes cs) ≡ sets t (6 * (i + 1)) (cell_bytes cs) = rw (q, ← z) (sets-append s (6 * i) (cell_bytes (next ∷ [])) (cell_bytes cs)) in
      rw (cells-more in_list s i (end - i) (omega arith), ← e, ← f, bytes-append (next ∷ []) cs) (b ∙ ap (λ (ds : List Cell). sets t (6 * (i + 1)) (cell_bytes (map (moved k) ds))) a)

  pub bytes-done : end ≤ i → moved_bytes k end s i ≡ s
  unfolding cell_bytes
  bytes-done h = rw (cells-none in_list s i (end - i) (omega arith)) refl
