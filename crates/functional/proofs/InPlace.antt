-- A list of cells that becomes a file in the file's own room: cell k goes where no cell from k on stands. Assumes nothing.
use mathlib.Core.Path.{◌≡◌, sym, ◌∙◌, ap, refl}
use mathlib.Core.List.{List, [], ◌∷◌}
use Prim.Native.Nat.{ℕ, suc, ◌+◌, ◌-◌, ◌*◌, ◌/◌, ◌%◌, ◌<◌, ◌≤◌}
use native.Mathlib.Omega.{arith}
use lib.ListN.{length, get_or, set, take, drop, length-take, length-drop}
use lib.Seq.{sets, get_or-drop, drop-set-lt, take_all}
use Rattle.model.specs.Word.{get16}
use Rattle.model.specs.Circuit.{cell_at}
use Rattle.model.specs.NetlistFile.{cell_bytes, cell_from, cells_at, in_list, blocks, blocks_for}
use Rattle.laws.specs.NetlistFile.CellBytes.{bytes-length}
use Rattle.laws.specs.NetlistFile.Blocks.{blocks-length}
use Rattle.netlist.specs.Blocks.{first_of, Filled}
use Rattle.netlist.proofs.Bytes.{cells-length, cell-of}

drop-sets : (v s : List ℕ) (i j : ℕ) → i + length v ≤ j → drop j (sets s i v) ≡ drop j s
drop-sets [] s i j h = refl
drop-sets (a ∷ v) s i j h = drop-sets v (set s i a) (suc i) j (omega arith) ∙ drop-set-lt j s i a (omega arith)

-- a cell behind what was put in
cell-behind : (s t : List ℕ) (i j : ℕ) → drop (i + j) s ≡ drop (i + j) t → cell_from (drop i s) j ≡ cell_from (drop i t) j
unfolding cell_from get16
cell-behind s t i j e =
    let at : (k : ℕ) → get_or (drop i s) (j + k) 0 ≡ get_or (drop i t) (j + k) 0 =
    λ k.
    let z : i + (j + k) ≡ i + j + k = omega arith in
    get_or-drop i s (j + k) 0
    ∙ rw (z, ← get_or-drop (i + j) s k 0, e, get_or-drop (i + j) t k 0, ← z) (sym (get_or-drop i t (j + k) 0)) in
    let z₀ : j + 0 ≡ j = omega arith in
    let z₃ : j + 2 + 1 ≡ j + 3 = omega arith in
    let z₅ : j + 4 + 1 ≡ j + 5 = omega arith in
    rw (z₃, z₅, rw z₀ at (at 0), at 1, at 2, at 3, at 4, at 5) refl

-- all that stands from a byte on
pub rest-whole : (s : List ℕ) (i : ℕ) → take (length s - i) (drop i s) ≡ drop i s
rest-whole s i = take_all (length s - i) (drop i s) (omega (arith, length-drop i s))

-- where the list of n cells begins, cell k stands as it did when the file has the cells before it
pub next-cell : (was : List ℕ) (from n finish : ℕ) {k sum : ℕ} {d : List ℕ} → from + 6 * n ≡ 512 * blocks_for n → k < n
    → Filled 0 (cells_at in_list (drop from was) 0 n) finish was k sum d
    → cell_at (cells_at in_list (drop from was) 0 n) k ≡ cell_from (drop from d) (6 * k)
next-cell was from n finish {k} {sum} {d} h l u =
    let net = cells_at in_list (drop from was) 0 n in
    let N = cells-length in_list (drop from was) 0 n in
    let B = blocks (k / 84) 0 (length net) finish net in
    let F = cell_bytes (first_of net (k / 84) (k % 84)) in
    let lB : length B ≡ 512 * (k / 84) = blocks-length (k / 84) 0 (length net) finish net in
    let lF : length F ≤ 6 * (k % 84) =
    omega (arith, bytes-length (first_of net (k / 84) (k % 84)), length-take (k % 84) (drop (84 * (k / 84)) net)) in
    let some : k / 84 + 1 ≤ blocks_for n = omega (arith, l) in
    let room : 6 * n + 8 * blocks_for n ≤ 512 * blocks_for n = omega arith in
    let e : drop (from + 6 * k) d ≡ drop (from + 6 * k) was =
    ap (drop (from + 6 * k)) (u.part (omega (arith, N)))
    ∙ drop-sets F (sets was 0 B) (512 * (k / 84) + 8) (from + 6 * k) (omega (arith, lF, some, room, h))
    ∙ drop-sets B was 0 (from + 6 * k) (omega (arith, lB, some, room, h)) in
    cell-of in_list (drop from was) n k l ∙ sym (cell-behind d was from (6 * k) e)
