-- Cells of a list replaced one after another: what is still to be replaced, with one cell less, and with none; and cells that are placed and then
-- moved. Assumes nothing.
use Rattle.std.proofs.Common.{◌≡◌, ℕ, suc, ◌+◌, ◌-◌, ◌<◌, ◌≤◌, List, [], ◌++◌, length, take, drop, set, sym, refl, ◌∙◌, append_assoc, append-nil, take_all, add-one, arith, ap, length-take, length-drop, drop-drop, drop-cons, drop-set-lt}
use lib.ListN.{length-map, drop_of_length-le}
use lib.Seq.{sets, sets-eq}
use borrow.Rule.Slice.PartMut.{put_mid}
use Rattle.model.specs.declared.Cell.{Cell}
use Rattle.model.specs.Circuit.{no_cell, cell_at}
use Rattle.model.specs.NetlistFile.{cell_from, cells_at, in_file}
use Rattle.model.specs.CellSlices.{moved_from, moved, behind}
use Rattle.netlist.proofs.Bytes.{cells-more, cells-none, cells-length}

pub move-more : (k end : ℕ) (cs : List Cell) (i : ℕ) {c : Cell} → i < end → end ≤ length cs → c ≡ moved k (cell_at cs i)
    → moved_from k end cs i ≡ moved_from k end (set cs i c) (i + 1)
move-more k end cs i {c} h g e =
    let s : i + 1 ≡ suc i = add-one i in
    let m : end - i ≡ suc (end - suc i) = omega arith in
    rw (s, m, drop-set-lt (suc i) cs i c (omega arith), drop-cons cs i no_cell (omega arith), e) refl

pub move-done : (k end : ℕ) (cs : List Cell) (i : ℕ) → end ≤ i → moved_from k end cs i ≡ cs
move-done k end cs i h = let z : end - i ≡ 0 = omega arith in rw z refl

-- cells put over a whole list
over : (xs vs : List Cell) → length vs ≡ length xs → sets xs 0 vs ≡ vs
over xs vs e =
    let d : drop (0 + length vs) xs ≡ [] = drop_of_length-le xs (omega (arith, e)) in
    sets-eq vs xs 0 (omega (arith, e)) ∙ rw d (append-nil vs)

pub all-moved : (k : ℕ) (cs : List Cell) → behind k cs ≡ moved_from k (length cs) cs 0
all-moved k cs =
    let z : length cs - 0 ≡ length cs = omega arith in
    rw (z, take_all (length cs) cs (omega arith)) (sym (over cs (behind k cs) (length-map cs (moved k))))

-- the first n cells of a file in their places, but for the first j
abbrev pub placed_from : List ℕ → ℕ → List Cell → ℕ → List Cell
placed_from file n cs j = sets cs j (cells_at in_file file j (n - j))

module _ (file : List ℕ) (n : ℕ) where
  pub place-all : (cs : List Cell) → length cs ≡ n → cells_at in_file file 0 n ≡ placed_from file n cs 0
  place-all cs l =
      let z : n - 0 ≡ n = omega arith in
      rw z (sym (over cs (cells_at in_file file 0 n) (cells-length in_file file 0 n ∙ sym l)))

  pub place-more : (cs : List Cell) (j : ℕ) {c : Cell} → j < n → c ≡ cell_from file (in_file j) → placed_from file n cs j ≡ placed_from file n (set cs j c) (j + 1)
  place-more cs j {c} h e =
      let s : j + 1 ≡ suc j = add-one j in
      let m : n - j - 1 ≡ n - suc j = omega arith in
      rw (cells-more in_file file j (n - j) (omega arith), ← e, s, m) refl

  pub place-done : (cs : List Cell) (j : ℕ) → n ≤ j → placed_from file n cs j ≡ cs
  place-done cs j h = rw (cells-none in_file file j (n - j) (omega arith)) refl

-- Among other cells ---------------------------------------------------------------------------------------------------------------------

module _ (at n : ℕ) (xs : List Cell) (h : at + n ≤ length xs) where
  pub places-length : length (take (at + n - at) (drop at xs)) ≡ n
  places-length = simp (length-take, length-drop) (omega (arith, h))

  pub placed-between : (vs : List Cell) → length vs ≡ n → put_mid at (at + n - at) xs vs ≡ sets xs at vs
  placed-between vs l =
      let d : drop (at + n - at) (drop at xs) ≡ drop (at + length vs) xs = drop-drop (at + n - at) at xs ∙ ap (λ (m : ℕ). drop m xs) (omega (arith, l)) in
      ap (λ (ds : List Cell). take at xs ++ (vs ++ ds)) d ∙ sym (append_assoc (take at xs) vs (drop (at + length vs) xs)) ∙ sym (sets-eq vs xs at (omega (arith, h, l)))
