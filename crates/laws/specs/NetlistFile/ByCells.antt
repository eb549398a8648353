-- A netlist held as cells and one held as six bytes each are checked, written, renumbered and read alike.
-- model/CellPromises states it; `same-cells` is the proof.
-- Assumes nothing.
use Rattle.model.specs.Refusals.{Checked}
use Rattle.std.specs.Prelude.{Bool, true, false, ◌≡◌, ltb, length, take, drop, Ok, Err}
use mathlib.Core.List.{List, [], ◌∷◌, ◌++◌, append-nil}
use Rattle.std.proofs.Math.Path.{refl, ap₂}
use Rattle.std.proofs.Common.{sym, ◌∙◌, ap, zero-add, arith, lt-ltb, le-ltb, length-take, length-drop, get_or-take, get_or-drop}
use Prim.Native.Nat.{ℕ, zero, suc, ◌+◌, ◌-◌, ◌*◌, ◌%◌, ◌<◌, ◌≤◌}
use Rattle.std.proofs.Math.ListN.{get_or}
use Rattle.std.proofs.lemmas.List.{length-map}
use Rattle.std.proofs.lemmas.List.Edits.{sets, sets-eq}
use Rattle.model.specs.declared.Cell.{Cell}
use Rattle.model.specs.Word.{pick, bytes16, get16, Bytes}
use Rattle.model.specs.Circuit.{no_cell, cell_row, names}
use Rattle.model.specs.NetlistFile.{cell_bytes, cell_from, cells_at, cells_of, in_list, in_file, count_of, finish_of, net_check}
use Rattle.model.specs.Calls.{writing, write_call, read_call}
use Rattle.model.specs.CellSlices.{renumbered, rewired, moved, behind, moved_from, moved_bytes, placing, write_cells_call, read_cells_call}
use Rattle.model.specs.CellPromises.{SameCells}
use Rattle.laws.specs.Refusals.Laws.{by_le}
use Rattle.laws.specs.NetlistFile.CellBytes.{bytes-length, bytes-append, from_bytes, cells_are}
use Rattle.laws.specs.NetlistFile.ReadWrite.{cells-in-bytes}

-- Parts of lists -----------------------------------------------------------------------------------------------------------------------

take-bytes : (j : ℕ) (cs : List Cell) → take (6 * j) (cell_bytes cs) ≡ cell_bytes (take j cs)
unfolding cell_bytes bytes16
take-bytes zero cs = refl
take-bytes (suc j) [] = let e : 6 * suc j ≡ suc (6 * j + 5) = omega arith in rw e refl
take-bytes (suc j) (c ∷ cs) = let e : 6 * suc j ≡ suc (suc (suc (suc (suc (suc (6 * j)))))) = omega arith in rw (e, take-bytes j cs) refl

drop-bytes : (j : ℕ) (cs : List Cell) → drop (6 * j) (cell_bytes cs) ≡ cell_bytes (drop j cs)
unfolding cell_bytes bytes16
drop-bytes zero cs = refl
drop-bytes (suc j) [] = let e : 6 * suc j ≡ suc (6 * j + 5) = omega arith in rw e refl
drop-bytes (suc j) (c ∷ cs) = let e : 6 * suc j ≡ suc (suc (suc (suc (suc (suc (6 * j)))))) = omega arith in rw e (drop-bytes j cs)

sets-bytes : (cs ds : List Cell) (i : ℕ) → i + length ds ≤ length cs → sets (cell_bytes cs) (6 * i) (cell_bytes ds) ≡ cell_bytes (sets cs i ds)
sets-bytes cs ds i h =
    let l = bytes-length cs in
    let m = bytes-length ds in
    let z : 6 * i + length (cell_bytes ds) ≡ 6 * (i + length ds) = omega (arith, m) in
    let a : sets (cell_bytes cs) (6 * i) (cell_bytes ds) ≡ (take (6 * i) (cell_bytes cs) ++ cell_bytes ds) ++ drop (6 * i + length (cell_bytes ds)) (cell_bytes cs) =
    sets-eq (cell_bytes ds) (cell_bytes cs) (6 * i) (omega (arith, l, m, h)) in
    let b : sets cs i ds ≡ (take i cs ++ ds) ++ drop (i + length ds) cs = sets-eq ds cs i h in
    a ∙ rw (z, take-bytes i cs, drop-bytes (i + length ds) cs, b, bytes-append (take i cs ++ ds) (drop (i + length ds) cs), bytes-append (take i cs) ds) refl

-- the cells of a part of a list of six bytes each
part-of-bytes : (cs : List Cell) (i n : ℕ) → i + n ≤ length cs → cells_at in_list (cell_bytes cs) i n ≡ take n (drop i cs)
part-of-bytes cs i n h =
    cells_are in_list (cell_bytes cs) (take n (drop i cs)) i n (length-take n (drop i cs) ∙ simp length-drop (omega (arith, h)))
    (λ j l.
    rw (append-nil (cell_bytes cs)) at (from_bytes cs [] (i + j) (omega arith)) ∙ sym (get_or-take n (drop i cs) j no_cell l ∙ get_or-drop i cs j no_cell))

-- Checked, written, renumbered ---------------------------------------------------------------------------------------------------------

pub write-cells-bytes : (w : ℕ) (cs : List Cell) (f : ℕ) (lent : List ℕ) → write_cells_call w cs f lent ≡ write_call w (cell_bytes cs) f lent
unfolding write_cells_call write_call
write-cells-bytes w cs f lent =
    let whole : ltb 0 (length (cell_bytes cs) % 6) ≡ false = le-ltb 0 (length (cell_bytes cs) % 6) (omega (arith, bytes-length cs)) in
    rw (cells-in-bytes cs, whole) refl

pub renumber-bytes : (k end : ℕ) (cs : List Cell) (i : ℕ) → i ≤ end → end ≤ length cs → moved_bytes k end (cell_bytes cs) i ≡ cell_bytes (moved_from k end cs i)
renumber-bytes k end cs i f h =
    let ds = behind k (take (end - i) (drop i cs)) in
    let l : length ds ≡ end - i = length-map (take (end - i) (drop i cs)) (moved k) ∙ length-take (end - i) (drop i cs) ∙ simp length-drop (omega (arith, h)) in
    rw (part-of-bytes cs i (end - i) (omega arith)) (sets-bytes cs ds i (omega (arith, l, f, h)))

-- Read in front ------------------------------------------------------------------------------------------------------------------------

-- a number of two bytes that is moved by 0
still : (b : Bool) (j : ℕ) → j < 65536 → pick b (renumbered 0 j) j ≡ j
still true j l = omega arith
still false j l = refl

module _ (file : List ℕ) (y : Bytes file) where
  two_bytes : (i : ℕ) → get16 file i < 65536
  unfolding get16
  two_bytes i = omega (arith, y i, y (i + 1))

  unmoved : (i : ℕ) → moved 0 (cell_from file i) ≡ cell_from file i
  unfolding rewired cell_from
  unmoved i =
      let kind = get_or file i 0 in
      rw (still (names (cell_row kind).a) (get16 file (i + 2)) (two_bytes (i + 2)), still (names (cell_row kind).b) (get16 file (i + 4)) (two_bytes (i + 4))) refl

  all-unmoved : (at : ℕ → ℕ) (k n : ℕ) → behind 0 (cells_at at file k n) ≡ cells_at at file k n
  unfolding cells_at
  all-unmoved at k zero = refl
  all-unmoved at k (suc n) = ap₂ (λ (c : Cell) (cs : List Cell). c ∷ cs) (unmoved (at k)) (all-unmoved at (k + 1) n)

same-room : (n m : ℕ) → ltb (6 * n) (6 * m) ≡ ltb n m
same-room n m =
    by_le m n (λ l. le-ltb (6 * n) (6 * m) (omega arith) ∙ sym (le-ltb n m l)) (λ l. lt-ltb (6 * n) (6 * m) (omega arith) ∙ sym (lt-ltb n m l))

-- what is put in as cells, and as their six bytes each
put_in : (c : Checked) (cs lent : List Cell) (n f : ℕ)
    → ((writing c (cell_bytes cs) n f (cell_bytes lent)).answer ≡ (placing c 0 cs n f lent).answer)
    × ((writing c (cell_bytes cs) n f (cell_bytes lent)).lent ≡ cell_bytes (placing c 0 cs n f lent).lent)
unfolding writing placing
put_in (Ok _) cs lent n f =
    (refl, rw (zero-add (length cs), bytes-append cs (drop (length cs) lent), bytes-length cs) (ap (λ (s : List ℕ). cell_bytes cs ++ s) (drop-bytes (length cs) lent)))
put_in (Err r) cs lent n f = (refl, refl)

pub read-bytes : (file : List ℕ) (lent : List Cell) → Bytes file
    → ((read_call file (cell_bytes lent)).answer ≡ (read_cells_call file 0 lent).answer) × ((read_call file (cell_bytes lent)).lent ≡ cell_bytes (read_cells_call file 0 lent).lent)
unfolding read_call read_cells_call cells_of
read-bytes file lent y =
    rw (zero-add (count_of file), bytes-length lent, same-room (length lent) (count_of file), all-unmoved file y in_file 0 (count_of file)) (put_in _ (cells_of file) lent (count_of file) (finish_of file))

pub same-cells : SameCells
same-cells =
    record {
      checked = λ cs f. ap (λ (net : List Cell). net_check net f) (cells-in-bytes cs);
      written = write-cells-bytes;
      renumbered = renumber-bytes;
      read = read-bytes;
    }
