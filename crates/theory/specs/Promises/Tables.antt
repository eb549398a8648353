-- Tables of operator times: the file of times in range loads with those times, and no other file of bytes loads.
-- Assumes nothing.
use Rattle.std.specs.Prelude.{◌≡◌, false, not, ◌||◌, ℕ, zero, suc, ◌+◌, ◌-◌, ◌%◌, ◌<◌, ◌≤◌, eqb, ltb, length, drop}
use Rattle.std.proofs.Math.Path.{refl, sym, ap, ap₂}
use Rattle.std.proofs.Common.{◌∙◌, length-drop, get_or-drop, drop-cons}
use mathlib.Core.List.{List, ◌∷◌, ◌++◌}
use native.Mathlib.Omega.{arith}
use Rattle.std.proofs.Math.ListN.{get_or, replicate, length-replicate, get_or-eq_default}
use borrow.Author.Tests.{eqb-true, eqb-false, ltb-false, ne_eqb, le-ltb, le-leb, lt-leb}
use Rattle.model.specs.Word.{bytes16, Bytes}
use Rattle.model.specs.Refusals.{first_fault, Checked, Accepted}
use Rattle.model.specs.NetlistFile.{word_sum}
use Rattle.model.specs.TimeTables.{byte_wrong, table_fault, table_sum_wrong, table_checks, times_in, given, load, verdict_of, times_of, beside}
use Rattle.model.specs.Calls.{listed}
use Rattle.model.specs.TablePromises.{table_file, InRange, Tables}
use Rattle.laws.specs.Refusals.Laws.{by_le, or-false, not-false, all-accept, refuse-unless, fault-unless, no-fault, faultless}
use Rattle.laws.specs.NetlistFile.Blocks.{block-sum, block_of, zero-tail, zeros-back}

-- The rules of a byte ------------------------------------------------------------------------------------------------------------------

time-byte : (i b : ℕ) → 10 ≤ i → i ≤ 17 → byte_wrong i b ≡ false → (1 ≤ b) × (b ≤ 200)
unfolding byte_wrong
time-byte i b l h e =
    let o : (eqb b 0 ≡ false) × (ltb 200 b ≡ false) =
    or-false _ _ (rw (ne_eqb i 2 (λ e. omega arith), ne_eqb i 6 (λ e. omega arith), ne_eqb i 7 (λ e. omega arith), le-leb 10 i l, le-leb i 17 h) at e) in
    let n = eqb-false b 0 o.0 in
    (omega (arith, n), ltb-false 200 b o.1)

late-byte : (i b : ℕ) → 18 ≤ i → byte_wrong i b ≡ not (eqb b 0)
unfolding byte_wrong
late-byte i b l =
    rw (ne_eqb i 2 (λ e. omega arith), ne_eqb i 6 (λ e. omega arith), ne_eqb i 7 (λ e. omega arith), le-leb 10 i (omega arith), lt-leb i 17 l)

-- The file of times in range -----------------------------------------------------------------------------------------------------------

module _ (τ : ℕ → ℕ) (range : InRange τ) where
  time-right : (k : ℕ) → 3 ≤ k → k ≤ 10 → (eqb (τ k) 0 || ltb 200 (τ k)) ≡ false
  time-right k l h =
      let r = range.2 k l h in
      rw (ne_eqb (τ k) 0 (λ e. omega arith), le-ltb 200 (τ k) r.1)

  front-right : first_fault (table_fault (table_file τ)) 0 18 ≡ Accepted
  unfolding first_fault table_fault byte_wrong table_file bytes16 listed
  front-right =
      rw (
        range.0,
        range.1,
        time-right 3 (omega arith) (omega arith),
        time-right 4 (omega arith) (omega arith),
        time-right 5 (omega arith) (omega arith),
        time-right 6 (omega arith) (omega arith),
        time-right 7 (omega arith) (omega arith),
        time-right 8 (omega arith) (omega arith),
        time-right 9 (omega arith) (omega arith),
        time-right 10 (omega arith) (omega arith),
      )

  late-zero : (i : ℕ) → 18 ≤ i → get_or (table_file τ) i 0 ≡ 0
  unfolding table_file bytes16 listed
  late-zero i l =
      let z : 18 + (i - 18) ≡ i = omega arith in
      ap (λ (j : ℕ). get_or (table_file τ) j 0) (sym z) ∙ sym (get_or-drop 18 (table_file τ) (i - 18) 0) ∙ zero-tail 494 (i - 18)

  byte-right : (i : ℕ) → table_fault (table_file τ) i ≡ 0
  unfolding table_fault
  byte-right i =
      by_le 18 i (λ l. rw (late-byte i (get_or (table_file τ) i 0) l, late-zero i l)) (λ l. no-fault (table_fault (table_file τ)) 18 front-right i l)

  file-length : length (table_file τ) ≡ 512
  unfolding table_file bytes16 listed
  file-length = omega (arith, length-replicate {A = ℕ} 494 0)

  file-sum : word_sum (table_file τ) % 65536 ≡ 0
  unfolding table_file
  file-sum = block-sum 0 10 0 (listed τ 1 10 ++ replicate 494 0)

  file-checked : verdict_of (given (table_file τ)) ≡ Accepted
  unfolding verdict_of table_sum_wrong
  file-checked = rw (file-length, file-sum, faultless (table_fault (table_file τ)) 0 512 (λ i l h. byte-right i))

  file-times : times_of (given (table_file τ)) ≡ 0 ∷ listed τ 1 10
  unfolding times_of times_in table_file bytes16 listed
  file-times = refl

  file-loads : (k w : ℕ) → load (beside (given (table_file τ)) k w) ≡ record { checked = Accepted; times = 0 ∷ listed τ 1 10; procedures = k; pulse = w }
  unfolding load
  file-loads k w = ap₂ (λ (c : Checked) (times : List ℕ). record { checked = c; times = times; procedures = k; pulse = w }) file-checked file-times

-- A file that loads --------------------------------------------------------------------------------------------------------------------

-- n bytes of a list, one after another
listed-bytes : (s : List ℕ) (n x : ℕ) → x + n ≤ length s → drop x s ≡ listed (λ i. get_or s i 0) x n ++ drop (x + n) s
unfolding listed
listed-bytes s zero x l = let z : x ≡ x + 0 = omega arith in ap (λ (k : ℕ). drop k s) z
listed-bytes s (suc n) x l =
    let y : suc x ≡ x + 1 = omega arith in
    let z : x + 1 + n ≡ x + suc n = omega arith in
    drop-cons s x 0 (omega arith) ∙ ap (λ (r : List ℕ). get_or s x 0 ∷ r) (rw (y, sym z) (listed-bytes s n (x + 1) (omega arith)))

module _ (file : List ℕ) (bytes : Bytes file) (accepted : verdict_of (given file) ≡ Accepted) where
  checks : (j : ℕ) → get_or (table_checks file) j Accepted ≡ Accepted
  unfolding verdict_of
  checks = all-accept (table_checks file) accepted

  whole : length file ≡ 512
  whole = eqb-true _ _ (not-false (eqb (length file) 512) (refuse-unless (not (eqb (length file) 512)) 19 0 (checks 0)))

  sum : word_sum file % 65536 ≡ 0
  unfolding table_sum_wrong
  sum = eqb-true _ _ (not-false (eqb (word_sum file % 65536) 0) (refuse-unless (not (eqb (word_sum file % 65536) 0)) 20 0 (checks 1)))

  abbrev byte_at : ℕ → ℕ
  byte_at i = get_or file i 0

  right : (i : ℕ) → i < 512 → byte_wrong i (byte_at i) ≡ false
  unfolding table_fault
  right i l = fault-unless (byte_wrong i (byte_at i)) 21 (omega arith) (no-fault (table_fault file) 512 (checks 2) i l)

  byte-is : (i v : ℕ) → i < 512 → byte_wrong i (byte_at i) ≡ not (eqb (byte_at i) v) → byte_at i ≡ v
  byte-is i v l e = eqb-true _ _ (not-false (eqb (byte_at i) v) (sym e ∙ right i l))

  late-bytes : drop 18 file ≡ replicate 494 0
  late-bytes = zeros-back 494 (drop 18 file) (rw (length-drop 18 file, whole)) (λ i. get_or-drop 18 file i 0 ∙ late (18 + i) (omega arith))
    where
      late : (i : ℕ) → 18 ≤ i → byte_at i ≡ 0
      late i l = by_le 512 i (λ h. get_or-eq_default file 0 {n = i} (omega (arith, whole))) (λ h. byte-is i 0 h (late-byte i (byte_at i) l))

  -- the times that it has
  abbrev time_of : ℕ → ℕ
  time_of k = byte_at (7 + k)

  in-range : InRange time_of
  unfolding byte_wrong
  in-range = (
    byte-is 8 0 (omega arith) refl,
    byte-is 9 0 (omega arith) refl,
    λ k l h. time-byte (7 + k) (time_of k) (omega arith) (omega arith) (right (7 + k) (omega arith)),
  )

  byte-by-byte : file ≡ 0 ∷ 0 ∷ 10 ∷ 0 ∷ 0 ∷ 0 ∷ byte_at 6 ∷ byte_at 7 ∷ (listed time_of 1 10 ++ replicate 494 0)
  unfolding byte_wrong listed
  byte-by-byte =
      listed-bytes file 18 0 (omega (arith, whole))
      ∙ rw (
        late-bytes,
        byte-is 0 0 (omega arith) refl,
        byte-is 1 0 (omega arith) refl,
        byte-is 2 10 (omega arith) refl,
        byte-is 3 0 (omega arith) refl,
        byte-is 4 0 (omega arith) refl,
        byte-is 5 0 (omega arith) refl,
      )

  file-back : file ≡ table_file time_of
  unfolding table_file
  file-back =
      byte-by-byte
      ∙ sym (block_of 0 10 0 0 0 10 0 0 0 (byte_at 6) (byte_at 7) _ (omega arith) (omega arith) (omega arith) (bytes 6) (bytes 7) refl refl refl (rw (sym byte-by-byte) sum))

pub tables : Tables
tables =
    record {
      loads = λ τ k w r. file-loads τ r k w;
      only = λ file k w bytes e. unfold load in (time_of file bytes e, in-range file bytes e, file-back file bytes e);
    }
