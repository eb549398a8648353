-- Refusals 9 to 12 of a file: how `fileCheck` comes out, test by test, and what a file that passes a test has. Assumes nothing.
use Rattle.std.proofs.Common.{◌≡◌, ℕ, zero, suc, ◌*◌, ◌/◌, ◌%◌, ◌<◌, ◌≤◌, Bool, true, false, ◌&&◌, ◌||◌, List, [], ◌∷◌, length, get_or, refl, arith, ltb-false, ltb-true, eqb-true, leb-true, Ok, Err}
use borrow.Author.Tests.{eqb-false, not-false}
use Rattle.model.specs.declared.Refusal.{Refusal}
use Rattle.model.specs.Refusals.{refuse, refuse_if, first, first_fault, Checked, Accepted}
use Rattle.model.specs.NetlistFile.{cell_limit, file_limit, pulse_of, pulse_wrong, cells_at, in_file, blocks_for, count_of, finish_of, cells_of, file_length_wrong, sum_fault, count_wrong, header_fault, net_check, file_checks, file_check}
use Rattle.laws.specs.NetlistFile.Passed.{pulse-right}
use Rattle.netlist.specs.declared.cells.Layout.TheVariants.{InFile}
use Rattle.netlist.specs.Offsets.{Room}

-- the last of several checks
alone : (c : Checked) → c ≡ first (c ∷ [])
alone (Ok _) = refl
alone (Err r) = refl

-- Outcomes -----------------------------------------------------------------------------------------------------------------------------

module _ (s : List ℕ) where
  abbrev m : ℕ
  m = length s / 512

  pub length-refused : file_length_wrong s ≡ true → refuse 9 0 ≡ file_check s
  unfolding file_check
  length-refused l = rw l refl

  module _ (l : file_length_wrong s ≡ false) where
    pub sums-refused : {r : Refusal} → first_fault (sum_fault s) 0 m ≡ Err r → Err r ≡ file_check s
    unfolding file_check
    sums-refused e = rw (l, e) refl

    module _ (sums : first_fault (sum_fault s) 0 m ≡ Accepted) {n f w : ℕ} (en : n ≡ count_of s) (ef : f ≡ finish_of s) (ew : w ≡ pulse_of s) where
      pub count-refused : (count_wrong m n f || pulse_wrong w) ≡ true → refuse 11 0 ≡ file_check s
      unfolding file_check
      count-refused e = rw (l, sums, ← en, ← ef, ← ew, e) refl

      module _ (right : (count_wrong m n f || pulse_wrong w) ≡ false) where
        pub headers-refused : {r : Refusal} → first_fault (header_fault s) 0 m ≡ Err r → Err r ≡ file_check s
        unfolding file_check
        headers-refused e = rw (l, sums, ← en, ← ef, ← ew, right, e) refl

        pub cells-decide : {r : Checked} → first_fault (header_fault s) 0 m ≡ Accepted → r ≡ net_check (cells_at in_file s 0 n) f → r ≡ file_check s
        unfolding file_check cells_of
        cells-decide {r} e g = rw (l, sums, ← en, ← ef, ← ew, right, e, ← g) (alone r)

-- What a test tells --------------------------------------------------------------------------------------------------------------------

-- a file of whole blocks, and not too many
pub record Whole (s : List ℕ) : Type 0 where
  pub some : 512 ≤ length s
  pub few : length s ≤ file_limit
  pub whole : 512 * (length s / 512) ≡ length s

-- a number of cells that fits the number of blocks, and a finish among them
pub record Counted (m count finish : ℕ) : Type 0 where
  pub low : 27 ≤ count
  pub high : count ≤ cell_limit
  pub blocks : m ≡ blocks_for count
  pub among : finish < count

both : (x y : Bool) → (x && y) ≡ true → (x ≡ true) × (y ≡ true)
both true y e = (refl, e)
both false y e = absurd (let z : ◌≡◌ {A = ℕ} 0 1 = cc in omega arith)

pub neither : (x y : Bool) → (x || y) ≡ false → (x ≡ false) × (y ≡ false)
neither true y e = absurd (let z : ◌≡◌ {A = ℕ} 0 1 = cc in omega arith)
neither false y e = (refl, e)

pub whole-file : (s : List ℕ) → file_length_wrong s ≡ false → Whole s
unfolding file_length_wrong
whole-file s e =
    let (a, f) = neither _ _ e in
    let (b, c) = neither _ _ f in
    let nonzero = eqb-false (length s) 0 a in
    let few = ltb-false file_limit (length s) b in
    let even = ltb-false 0 (length s % 512) c in
    record { some = omega arith; few = few; whole = omega arith }

pub counted : (m count finish : ℕ) → count_wrong m count finish ≡ false → Counted m count finish
unfolding count_wrong
counted m count finish e =
    let (a, f) = both _ _ (not-false _ e) in
    let (b, g) = both _ _ f in
    let (c, d) = both _ _ g in
    record { low = leb-true 27 count a; high = leb-true count cell_limit b; blocks = eqb-true m (blocks_for count) c; among = ltb-true finish count d }

pub counted-room : {s : List ℕ} {count finish : ℕ} → Whole s → Counted (length s / 512) count finish → Room InFile s count
counted-room w c = record { few = c.high; fits = omega (arith, w.whole, c.blocks) }

-- What an accepted file has ------------------------------------------------------------------------------------------------------------

-- each check of a list that comes out accepted is passed
pub passed : (cs : List Checked) → first cs ≡ Accepted → (i : ℕ) → get_or cs i Accepted ≡ Accepted
passed [] e i = refl
passed (Ok _ ∷ cs) e zero = refl
passed (Ok _ ∷ cs) e (suc i) = passed cs e i
passed (Err r ∷ cs) e i = absurd (let z : ◌≡◌ {A = ℕ} 0 1 = cc in omega arith)

unless : (x : Bool) (number place : ℕ) → refuse_if x number place ≡ Accepted → x ≡ false
unless true number place e = absurd (let z : ◌≡◌ {A = ℕ} 0 1 = cc in omega arith)
unless false number place e = refl

module _ (s : List ℕ) (e : file_check s ≡ Accepted) where
  pub accepted-whole : Whole s
  unfolding file_check
  accepted-whole = whole-file s (unless (file_length_wrong s) 9 0 (passed (file_checks s) e 0))

  pub accepted-counted : Counted (length s / 512) (count_of s) (finish_of s)
  unfolding file_check
  accepted-counted =
      let m = length s / 512 in
      counted m (count_of s) (finish_of s) (neither (count_wrong m (count_of s) (finish_of s)) _ (unless (count_wrong m (count_of s) (finish_of s) || pulse_wrong (pulse_of s)) 11 0 (passed (file_checks s) e 2))).0

  -- a pulse length of 1 to 8
  pub accepted-pulse : (1 ≤ pulse_of s) × (pulse_of s ≤ 8)
  unfolding file_check
  accepted-pulse =
      let m = length s / 512 in
      pulse-right (pulse_of s)
      (neither (count_wrong m (count_of s) (finish_of s)) _ (unless (count_wrong m (count_of s) (finish_of s) || pulse_wrong (pulse_of s)) 11 0 (passed (file_checks s) e 2))).1

  pub accepted-room : Room InFile s (count_of s)
  accepted-room = counted-room accepted-whole accepted-counted
