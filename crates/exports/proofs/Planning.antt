-- What reading behind other cells answers, outcome by outcome, and what it puts in. Assumes nothing.
use Rattle.model.specs.Refusals.{first, Checked, Accepted, Done}
use Rattle.std.proofs.Common.{◌≡◌, ℕ, ◌+◌, ◌%◌, ◌≤◌, true, false, ltb, List, [], ◌∷◌, ◌++◌, length, take, drop, refl, ap, ◌∙◌, append_assoc, arith, ltb-false, Result, Ok, Err}
use lib.ListN.{length-map}
use lib.Seq.{sets, sets-eq}
use Rattle.std.specs.Result.{is_ok}
use Rattle.model.specs.declared.Cell.{Cell}
use Rattle.model.specs.declared.Refusal.{Refusal}
use Rattle.model.specs.declared.Written.{Written}
use Rattle.model.specs.NetlistFile.{cells_at, in_file, count_of, finish_of, cells_of, file_check}
use Rattle.model.specs.CellSlices.{renumbered, rewired, moved, behind, placing, read_cells_checks, read_cells_call}
use Rattle.reply.proofs.Rooms.{left}
use Rattle.netlist.specs.declared.cells.Layout.TheVariants.{InFile}
use Rattle.netlist.specs.Offsets.{Room}
use Rattle.laws.specs.Refusals.Laws.{not-both, all-accept, refuse-unless}
use Rattle.netlist.proofs.Calls.{refused}
use Rattle.netlist.proofs.Bytes.{cells-length}
use Rattle.netlist.proofs.FileChecks.{accepted-room}

-- Numbers ------------------------------------------------------------------------------------------------------------------------------

later-wraps : (k j : ℕ) → renumbered (k % 65536) j ≡ renumbered k j
later-wraps k j = omega arith

pub moved-wraps : (k : ℕ) (cs : List Cell) → behind (k % 65536) cs ≡ behind k cs
unfolding rewired
moved-wraps k [] = refl
moved-wraps k (c ∷ cs) = rw (later-wraps k c.a, later-wraps k c.b, moved-wraps k cs) refl

-- Outcomes -----------------------------------------------------------------------------------------------------------------------------

module _ (file : List ℕ) (at : ℕ) (lent : List Cell) where
  pub read-refused : {r : Refusal} → file_check file ≡ Err r → Err r ≡ (read_cells_call file at lent).answer
  unfolding read_cells_call placing
  read-refused e = rw e refl

  module _ (e : file_check file ≡ Accepted) {n room : ℕ} (count : n ≡ count_of file) (l : length lent ≡ room) where
    pub read-short : ltb room (at + n) ≡ true → refused 14 ≡ (read_cells_call file at lent).answer
    unfolding read_cells_call placing
    read-short h = rw (e, l, ← count, h) refl

    pub read-done : {f : ℕ} → f ≡ finish_of file → ltb room (at + n) ≡ false → Done n f ≡ (read_cells_call file at lent).answer
    unfolding read_cells_call placing
    read-done finish h = rw (e, l, ← count, ← finish, h) refl

-- what is left in the lent list, by the answer
counted : Result Written Refusal → ℕ
counted (Ok w) = w.count
counted (Err r) = 0

module _ (k : ℕ) (cs : List Cell) (n f : ℕ) (lent : List Cell) where
  leaves : (c : Checked) {r : Refusal} → Err r ≡ (placing c k cs n f lent).answer → lent ≡ (placing c k cs n f lent).lent
  unfolding placing
  leaves (Ok _) e = not-both (ap is_ok e) refl
  leaves (Err r) e = refl

  puts : (c : Checked) {w : Written} → Ok w ≡ (placing c k cs n f lent).answer
      → (c ≡ Accepted) × (w.count ≡ n) × ((take k lent ++ (cs ++ drop (k + length cs) lent)) ≡ (placing c k cs n f lent).lent)
  unfolding placing counted
  puts (Ok _) e = (refl, ap counted e, refl)
  puts (Err r) e = not-both refl (ap is_ok e)

module _ (file : List ℕ) (at : ℕ) (lent : List Cell) where
  abbrev read : List Cell
  read = behind at (cells_of file)

  pub left-refused : {r : Refusal} → Err r ≡ (read_cells_call file at lent).answer → lent ≡ (read_cells_call file at lent).lent
  unfolding read_cells_call
  left-refused e = leaves at read (count_of file) (finish_of file) lent (first (read_cells_checks file at lent)) e

  module _ {w : Written} (e : Ok w ≡ (read_cells_call file at lent).answer) where
    accepted : (first (read_cells_checks file at lent) ≡ Accepted) × (w.count ≡ count_of file) × ((take at lent ++ (read ++ drop (at + length read) lent)) ≡ (read_cells_call file at lent).lent)
    unfolding read_cells_call
    accepted = puts at read (count_of file) (finish_of file) lent (first (read_cells_checks file at lent)) e

    pub done-fits : (at + w.count ≤ length lent) × Room InFile file w.count
    done-fits =
        let (a, count, _) = accepted in
        let z = all-accept (read_cells_checks file at lent) a in
        let h = ltb-false (length lent) (at + count_of file) (refuse-unless (ltb (length lent) (at + count_of file)) 14 0 (z 1)) in
        rw count (h, accepted-room file (z 0))

    pub done-put : {out : List Cell} → out ≡ sets lent at (behind at (cells_at in_file file 0 w.count)) → out ≡ (read_cells_call file at lent).lent
    unfolding cells_of
    done-put {out} q =
        let (a, count, left) = accepted in
        let m : length read ≡ count_of file = length-map (cells_of file) (moved at) ∙ cells-length in_file file 0 (count_of file) in
        let s : sets lent at read ≡ (take at lent ++ read) ++ drop (at + length read) lent = sets-eq read lent at (omega (arith, m, done-fits.0, count)) in
        let p : out ≡ sets lent at read = rw count at q in
        p ∙ s ∙ append_assoc (take at lent) read (drop (at + length read) lent) ∙ left
