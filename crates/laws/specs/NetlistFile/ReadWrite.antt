-- Reading and writing netlists as calls: what was written is read back, and what was read is written as the file that it was read from.
-- Assumes nothing.
use Rattle.std.specs.Prelude.{◌≡◌, refl, ◌||◌, ℕ, ◌*◌, ◌/◌, ◌%◌, ◌≤◌, drop, Result, Ok, Err}
use Rattle.std.proofs.Common.{sym, ◌∙◌, zero-add, arith, drop_of_length-le}
use Rattle.std.proofs.Math.Path.{ap, ap₂}
use Rattle.std.proofs.Math.Bool.{false}
use mathlib.Core.List.{List, [], ◌++◌, append-nil}
use Rattle.std.proofs.Math.Dec.{ltb}
use Rattle.std.proofs.Math.ListN.{length, take}
use Rattle.std.proofs.Math.Seq.{take-append_seam}
use borrow.Author.Tests.{ltb-false, le-ltb}
use Rattle.model.specs.declared.Refusal.{Refusal}
use Rattle.model.specs.declared.Cell.{Cell}
use Rattle.model.specs.declared.Written.{Written}
use Rattle.model.specs.Refusals.{first, Checked, Accepted, Done}
use Rattle.model.specs.NetlistFile.{cell_bytes, cell_from, in_list, file_of, count_of, finish_of, cells_of, count_wrong, blocks_for, net_check, file_check, pulse_of, pulse_wrong}
use Rattle.model.specs.Calls.{Returned, overwrite, writing, cells_in, write_checks, write_call, read_checks, read_call, written_verdict}
use Rattle.model.specs.Word.{Bytes}
use Rattle.model.specs.CircuitPromises.{SameFile}
use Rattle.laws.specs.Refusals.Laws.{or-false, all-accept, refuse-unless}
use Rattle.laws.specs.NetlistFile.Passed.{file-passed, pulse-right, count-range, count-cells, length-cells}
use Rattle.laws.specs.NetlistFile.CellBytes.{bytes-length, from_bytes, cells_are, cell-of, cells-back}
use Rattle.laws.specs.NetlistFile.Files.{count-written, pulse-written, finish-written, cells-written, some-cells, file-accepted, file-back}

-- A call that writes -------------------------------------------------------------------------------------------------------------------

is-done : Result Written Refusal → ℕ
is-done (Ok w) = 1
is-done (Err r) = 0

done-count : Result Written Refusal → ℕ
done-count (Ok w) = w.count
done-count (Err r) = 0

done-finish : Result Written Refusal → ℕ
done-finish (Ok w) = w.finish
done-finish (Err r) = 0

-- what an answer says of refusals is what the checks found
pub writing-verdict : (c : Checked) (result : List ℕ) (n f : ℕ) (lent : List ℕ) → written_verdict (writing c result n f lent).answer ≡ c
unfolding writing written_verdict
writing-verdict (Ok _) result n f lent = refl
writing-verdict (Err r) result n f lent = refl

-- a call that is done was accepted, and did what it says
pub record Wrote (c : Checked) (result : List ℕ) (n f : ℕ) (lent : List ℕ) (k g : ℕ) : Type 0 where
  pub accepted : c ≡ Accepted
  pub count : k ≡ n
  pub finish : g ≡ f
  pub told : writing c result n f lent ≡ record { answer = Done n f; lent = overwrite result lent }

pub wrote : (c : Checked) (result : List ℕ) (n f : ℕ) (lent : List ℕ) (k g : ℕ) → (writing c result n f lent).answer ≡ Done k g
    → Wrote c result n f lent k g
unfolding writing is-done done-count done-finish
wrote (Ok _) result n f lent k g e =
    record { accepted = refl; count = sym (ap done-count e); finish = sym (ap done-finish e); told = refl }
wrote (Err r) result n f lent k g e = absurd (omega (arith, ap is-done e))

-- Cells in a list ----------------------------------------------------------------------------------------------------------------------

-- bytes of whole cells are what is written of them
cells_same : (cells : List ℕ) → Bytes cells → length cells % 6 ≡ 0 → cell_bytes (cells_in cells) ≡ cells
cells_same cells y e =
    let n = length-cells in_list cells 0 (length cells / 6) in
    let z : 6 * length (cells_in cells) ≡ length cells = rw n (omega arith) in
    sym (append-nil (cell_bytes (cells_in cells)))
    ∙ ap (λ (r : List ℕ). cell_bytes (cells_in cells) ++ r) (sym (drop_of_length-le cells {i = 6 * length (cells_in cells)} (omega (arith, z))))
    ∙ cells-back (cells_in cells) cells y
    (λ i l. cell-of in_list cells 0 (length cells / 6) i (omega (arith, n)) ∙ ap (λ (k : ℕ). cell_from cells (6 * k)) (zero-add i)) (omega (arith, z))

-- and what is written of cells has those cells
pub cells-in-bytes : (cs : List Cell) → cells_in (cell_bytes cs) ≡ cs
cells-in-bytes cs =
    let e : length cs ≡ length (cell_bytes cs) / 6 = omega (arith, bytes-length cs) in
    cells_are in_list (cell_bytes cs) cs 0 (length (cell_bytes cs) / 6) e
    (λ i l.
    ap₂ (λ (s : List ℕ) (k : ℕ). cell_from s (6 * k)) (sym (append-nil (cell_bytes cs))) (zero-add i) ∙ from_bytes cs [] i (omega (arith, e)))

-- The two calls ------------------------------------------------------------------------------------------------------------------------

module _ (w : ℕ) (cells for_file for_cells : List ℕ) (f n g : ℕ) (bytes : Bytes cells) (done : (write_call w cells f for_file).answer ≡ Done n g) where
  abbrev net : List Cell
  net = cells_in cells

  written : Wrote (first (write_checks w cells f for_file)) (file_of w net f) (length (file_of w net f)) f for_file n g
  unfolding write_call
  written = wrote (first (write_checks w cells f for_file)) (file_of w net f) (length (file_of w net f)) f for_file n g done

  counted : (length cells % 6 ≡ 0) × (count_wrong (blocks_for (length net)) (length net) f ≡ false)
  counted =
      let c = count_wrong (blocks_for (length net)) (length net) f in
      let p = or-false (ltb 0 (length cells % 6)) c (refuse-unless (ltb 0 (length cells % 6) || c) 11 0 (all-accept (write_checks w cells f for_file) written.accepted 1)) in
      (omega (arith, ltb-false 0 (length cells % 6) p.0), p.1)

  right : pulse_wrong w ≡ false
  right = refuse-unless (pulse_wrong w) 27 0 (all-accept (write_checks w cells f for_file) written.accepted 0)

  kept : net_check net f ≡ Accepted
  kept = all-accept (write_checks w cells f for_file) written.accepted 2

  file-is : take n (write_call w cells f for_file).lent ≡ file_of w net f
  unfolding write_call
  file-is =
      ap₂ (λ (k : ℕ) (r : Returned (Result Written Refusal)). take k r.lent) written.count written.told ∙ take-append_seam (file_of w net f) (drop (length (file_of w net f)) for_file)

  pub read_back : length cells ≤ length for_cells →
      let file = take n (write_call w cells f for_file).lent in
      (read_call file for_cells ≡ record { answer = Done (length cells / 6) f; lent = overwrite cells for_cells }) × (pulse_of file ≡ w)
  unfolding read_call writing
  read_back room =
      let some = some-cells w right net f counted.1 kept in
      let m = length-cells in_list cells 0 (length cells / 6) in
      let k : count_of (file_of w net f) ≡ length cells / 6 = count-written w net f some ∙ m in
      let r : ltb (length for_cells) (6 * (length cells / 6)) ≡ false = le-ltb (length for_cells) (6 * (length cells / 6)) (omega arith) in (
        rw (file-is, file-accepted w right net f counted.1 kept, k, r, finish-written w net f some, cells-written w net f some, cells_same cells bytes counted.0),
        ap (λ (s : List ℕ). pulse_of s) file-is ∙ pulse-written w net f some (pulse-right w right).0,
      )

module _ (file for_cells for_file : List ℕ) (n f : ℕ) (bytes : Bytes file) (done : (read_call file for_cells).answer ≡ Done n f) where
  abbrev cs : List Cell
  cs = cells_of file

  r : Wrote (first (read_checks file for_cells)) (cell_bytes cs) (count_of file) (finish_of file) for_cells n f
  unfolding read_call
  r = wrote (first (read_checks file for_cells)) (cell_bytes cs) (count_of file) (finish_of file) for_cells n f done

  accepted : file_check file ≡ Accepted
  accepted = all-accept (read_checks file for_cells) r.accepted 0

  cells-are-read : take (6 * n) (read_call file for_cells).lent ≡ cell_bytes cs
  unfolding read_call
  cells-are-read =
      let e : 6 * n ≡ length (cell_bytes cs) = omega (arith, bytes-length cs, count-cells file, r.count) in
      ap₂ (λ (k : ℕ) (t : Returned (Result Written Refusal)). take k t.lent) e r.told ∙ take-append_seam (cell_bytes cs) (drop (length (cell_bytes cs)) for_cells)

  pub write-back : length file ≤ length for_file
      → write_call (pulse_of file) (take (6 * n) (read_call file for_cells).lent) f for_file ≡ record { answer = Done (length file) f; lent = overwrite file for_file }
  unfolding write_call writing
  write-back room =
      let p = file-passed file accepted in
      let six : length (cell_bytes cs) % 6 ≡ 0 = omega (arith, bytes-length cs) in
      let blocks = (count-range _ _ _ p.count).2 in
      let c : count_wrong (blocks_for (count_of file)) (count_of file) (finish_of file) ≡ false = rw (← blocks) p.count in
      let room_for : ltb (length for_file) (length file) ≡ false = le-ltb _ _ room in
      rw (cells-are-read, p.pulse, r.finish, cells-in-bytes cs, six, count-cells file, c, p.cells, file-back file bytes accepted, room_for)

pub same-file : SameFile
same-file =
    record {
      read = λ w cells for_file for_cells f n g y e. read_back w cells for_file for_cells f n g y e;
      written = λ file for_cells for_file n f y e. write-back file for_cells for_file n f y e;
    }
