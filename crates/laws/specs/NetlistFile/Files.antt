-- Netlist files: a file that was written is accepted and read as it was written, and an accepted file is what is written of its netlist.
-- Assumes nothing.
use Rattle.model.specs.Refusals.{Accepted}
use Rattle.std.specs.Prelude.{◌≡◌, false, List, eqb, ltb, get_or, drop}
use Rattle.std.proofs.Math.Path.{refl, sym, ap}
use Rattle.std.proofs.Common.{◌∙◌, zero-add, arith, length-drop}
use Prim.Native.Nat.{ℕ, ◌+◌, ◌-◌, ◌*◌, ◌/◌, ◌%◌, ◌<◌, ◌≤◌, min}
use Rattle.std.proofs.Math.Decide.{dec_lt}
use Rattle.std.proofs.Math.ListN.{length, take, length-take, get_or-eq_default}
use Rattle.std.proofs.Math.Seq.{get_or-take, get_or-drop}
use borrow.Author.Tests.{ne_eqb, le-ltb, ltb-false}
use Rattle.model.specs.declared.Cell.{Cell}
use Rattle.model.specs.Circuit.{cell_at, no_cell}
use Rattle.model.specs.NetlistFile.{cell_limit, file_limit, cell_from, cells_at, in_file, block, block_at, blocks_for, file_of, rest_bytes, count_of, finish_of, cells_of, file_length_wrong, sum_fault, count_wrong, header_fault, net_check, file_check, first_number, pulse_of, pulse_wrong}
use Rattle.model.specs.FilePromises.{FewestBlocks}
use Rattle.model.specs.Word.{Bytes}
use Rattle.laws.specs.Refusals.Laws.{or-false, faultless}
use Rattle.laws.specs.NetlistFile.Passed.{FilePassed, file-passed, pulse-right, count-range, count-cells}
use Rattle.laws.specs.NetlistFile.CellBytes.{same-cell, cells_are, cell-of}
use Rattle.laws.specs.NetlistFile.RunningSum.{running-sum}
use Rattle.laws.specs.NetlistFile.Blocks.{in_block, block-sum, headed-written, block-at, blocks-length, count-is, pulse-is, finish-is, block_back, header_of, blocks-back, take_short}

pub fewest-blocks : (n : ℕ) → FewestBlocks n
fewest-blocks n = record { room = omega arith; needed = λ l. omega (arith, l) }

-- Cells of a block are cells of the file -----------------------------------------------------------------------------------------------

byte-of-block : (s : List ℕ) (b i : ℕ) → i < 512 → get_or (block_at s b) i 0 ≡ get_or s (512 * b + i) 0
byte-of-block s b i l = get_or-take 512 (drop (512 * b) s) i 0 l ∙ get_or-drop (512 * b) s i 0

cell-of-block : (s : List ℕ) (b i : ℕ) → i < 84 → cell_from (block_at s b) (8 + 6 * i) ≡ cell_from s (in_file (84 * b + i))
cell-of-block s b i l =
    let e : 512 * b + (8 + 6 * i) ≡ in_file (84 * b + i) = omega arith in
    same-cell (block_at s b) s (8 + 6 * i) (in_file (84 * b + i))
    (λ j h.
    let z : 512 * b + (8 + 6 * i + j) ≡ in_file (84 * b + i) + j = omega (arith, e) in
    byte-of-block s b (8 + 6 * i + j) (omega arith) ∙ ap (λ (k : ℕ). get_or s k 0) z)

-- What was written ---------------------------------------------------------------------------------------------------------------------

module _ (w : ℕ) (net : List Cell) (f : ℕ) (some : 0 < length net) where
  pub count-written : count_of (file_of w net f) ≡ length net
  unfolding file_of
  count-written = count-is (length net) f (blocks_for (length net)) (first_number w) net (omega arith)

  pub finish-written : finish_of (file_of w net f) ≡ f
  unfolding file_of
  finish-written = finish-is (length net) f (blocks_for (length net)) (first_number w) net (omega arith)

  pub pulse-written : 1 ≤ w → pulse_of (file_of w net f) ≡ w
  unfolding file_of
  pulse-written pos = pulse-is (length net) f (blocks_for (length net)) w net (omega arith) pos

  written_at : (b : ℕ) → b < blocks_for (length net) → block_at (file_of w net f) b ≡ block (first_number w + b) (length net) f (take 84 (drop (84 * b) net))
  unfolding file_of
  written_at b l = block-at (blocks_for (length net)) (first_number w) (length net) f net b l

  cell-at : (k : ℕ) → k < length net → cell_from (file_of w net f) (in_file k) ≡ cell_at net k
  cell-at k l =
      let b = k / 84 in
      let i = k % 84 in
      let e : 84 * b + i ≡ k = omega arith in
      let part = take 84 (drop (84 * b) net) in
      let h : i < length part = rw (length-take 84 (drop (84 * b) net), length-drop (84 * b) net) (omega arith) in
      ap (λ (k : ℕ). cell_from (file_of w net f) (in_file k)) (sym e)
      ∙ sym (cell-of-block (file_of w net f) b i (omega arith))
      ∙ ap (λ (s : List ℕ). cell_from s (8 + 6 * i)) (written_at b (omega arith))
      ∙ in_block (first_number w + b) (length net) f part i h
      ∙ get_or-take 84 (drop (84 * b) net) i no_cell (omega arith)
      ∙ get_or-drop (84 * b) net i no_cell
      ∙ ap (cell_at net) e

  pub cells-written : cells_of (file_of w net f) ≡ net
  unfolding cells_of
  cells-written =
      ap (λ (n : ℕ). cells_at in_file (file_of w net f) 0 n) count-written
      ∙ cells_are in_file (file_of w net f) net 0 (length net) refl (λ i l. rw (zero-add i) (cell-at i l))

pub file-length : (w : ℕ) (net : List Cell) (f : ℕ) → length (file_of w net f) ≡ 512 * blocks_for (length net)
unfolding file_of
file-length w net f = blocks-length (blocks_for (length net)) (first_number w) (length net) f net

length-right : (s : List ℕ) (m : ℕ) → length s ≡ 512 * m → 1 ≤ m → m ≤ 196 → file_length_wrong s ≡ false
unfolding file_length_wrong
length-right s m e l h =
    let z : length s % 512 ≡ 0 = omega arith in
    rw (ne_eqb (length s) 0 (λ x. omega arith), le-ltb file_limit (length s) (omega arith), z)

module _ (w : ℕ) (pulse : pulse_wrong w ≡ false) (net : List Cell) (f : ℕ) (c : count_wrong (blocks_for (length net)) (length net) f ≡ false)
    (k : net_check net f ≡ Accepted) where
  abbrev m : ℕ
  m = blocks_for (length net)

  pub some-cells : 0 < length net
  some-cells = omega (arith, (count-range m (length net) f c).0)

  sum-right : (b : ℕ) → b < m → sum_fault (file_of w net f) b ≡ 0
  unfolding sum_fault
  sum-right b l =
      let part = take 84 (drop (84 * b) net) in
      rw (written_at w net f some-cells b l, (running-sum (first_number w + b) (length net) f).same part, block-sum (first_number w + b) (length net) f (rest_bytes part))

  header-right : (b : ℕ) → b < m → header_fault (file_of w net f) b ≡ 0
  unfolding header_fault
  header-right b l =
      rw (
        pulse-written w net f some-cells (pulse-right w pulse).0,
        count-written w net f some-cells,
        finish-written w net f some-cells,
        written_at w net f some-cells b l,
        headed-written w b (length net) f (drop (84 * b) net) (length-drop (84 * b) net),
      )

  pub file-accepted : file_check (file_of w net f) ≡ Accepted
  unfolding file_check
  file-accepted =
      let r = count-range m (length net) f c in
      let e : length (file_of w net f) / 512 ≡ m = omega (arith, file-length w net f) in
      rw (
        length-right (file_of w net f) m (file-length w net f) (omega (arith, r.0)) (omega (arith, r.1)),
        e,
        faultless (sum_fault (file_of w net f)) 0 m (λ b l h. sum-right b (omega arith)),
        faultless (header_fault (file_of w net f)) 0 m (λ b l h. header-right b (omega arith)),
        pulse-written w net f some-cells (pulse-right w pulse).0,
        count-written w net f some-cells,
        finish-written w net f some-cells,
        cells-written w net f some-cells,
        pulse,
        c,
        k,
      )

-- What was accepted --------------------------------------------------------------------------------------------------------------------

module _ (s : List ℕ) (bytes : Bytes s) (e : file_check s ≡ Accepted) where
  p : FilePassed s
  p = file-passed s e

  range : (27 ≤ count_of s) × (count_of s ≤ cell_limit) × (length s / 512 ≡ blocks_for (count_of s)) × (finish_of s < count_of s)
  range = count-range _ _ _ p.count

  whole-blocks : length s ≡ 512 * (length s / 512)
  unfolding file_length_wrong
  whole-blocks =
      let o = or-false (ltb file_limit (length s)) _ (or-false (eqb (length s) 0) _ p.lengths).1 in
      omega (arith, ltb-false 0 (length s % 512) o.1)

  block-bytes : (b i : ℕ) → get_or (block_at s b) i 0 < 256
  block-bytes b i = go (dec_lt i 512)
    where
      go : Dec (i < 512) → get_or (block_at s b) i 0 < 256
      go (yes l) = rw (byte-of-block s b i l) (bytes (512 * b + i))
      go (no l) =
          rw (get_or-eq_default (block_at s b) 0 {n = i} (rw (length-take 512 (drop (512 * b) s)) (omega arith))) (omega arith)

  -- bytes from the last cell on, and past the block
  zero-after : (b j : ℕ) → length (block_at s b) ≡ 512 → ((i : ℕ) → 8 + 6 * (count_of s - 84 * b) ≤ i → get_or (block_at s b) i 0 ≡ 0)
      → 8 + 6 * min 84 (count_of s - 84 * b) ≤ j → get_or (block_at s b) j 0 ≡ 0
  zero-after b j B z l = go (dec_lt j 512)
    where
      go : Dec (j < 512) → get_or (block_at s b) j 0 ≡ 0
      go (yes h) = z j (omega arith)
      go (no h) = get_or-eq_default (block_at s b) 0 {n = j} (omega arith)

  block_same : (b : ℕ) → b < length s / 512 → block (first_number (pulse_of s) + b) (count_of s) (finish_of s) (take 84 (drop (84 * b) (cells_of s))) ≡ block_at s b
  unfolding cells_of
  block_same b l =
      let part = take 84 (drop (84 * b) (cells_of s)) in
      let n : length part ≡ min 84 (count_of s - 84 * b) =
      length-take 84 (drop (84 * b) (cells_of s)) ∙ ap (min 84) (length-drop (84 * b) (cells_of s) ∙ ap (λ (k : ℕ). k - 84 * b) (count-cells s)) in
      let h = header_of (pulse_of s) (count_of s) (finish_of s) b (block_at s b) (p.headers b l) in
      let B : length (block_at s b) ≡ 512 = length-take 512 (drop (512 * b) s) ∙ ap (min 512) (length-drop (512 * b) s) ∙ omega (arith, whole-blocks) in
      block_back (first_number (pulse_of s) + b) (count_of s) (finish_of s) part (block_at s b) B (block-bytes b) h.0 h.1 h.2 (p.sums b l) (take_short (drop (84 * b) (cells_of s)))
      (λ i g.
      get_or-take 84 (drop (84 * b) (cells_of s)) i no_cell (omega (arith, n))
      ∙ get_or-drop (84 * b) (cells_of s) i no_cell
      ∙ cell-of in_file s 0 (count_of s) (84 * b + i) (omega (arith, n))
      ∙ ap (λ (k : ℕ). cell_from s (in_file k)) (zero-add (84 * b + i))
      ∙ sym (cell-of-block s b i (omega (arith, n))))
      (λ j g. zero-after b j B h.3 (omega (arith, n)))

  pub file-back : file_of (pulse_of s) (cells_of s) (finish_of s) ≡ s
  unfolding file_of
  file-back =
      rw (count-cells s, sym range.2)
      (blocks-back (length s / 512) (first_number (pulse_of s)) (count_of s) (finish_of s) (cells_of s) s whole-blocks block_same)
