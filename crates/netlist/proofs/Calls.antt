-- The calls that write and that read, outcome by outcome: the answer, and the lent list afterwards. Assumes nothing.
use Rattle.std.proofs.Common.{◌≡◌, ℕ, ◌*◌, ◌/◌, ◌%◌, ◌<◌, ◌≤◌, Bool, true, false, ◌||◌, ltb, List, [], ◌∷◌, length, sym, refl, ap, ◌∙◌, arith, le-ltb, lt-ltb, Result, Err}
use lib.Seq.{sets}
use Rattle.model.specs.declared.Cell.{Cell}
use Rattle.model.specs.declared.Refusal.{Refusal}
use Rattle.model.specs.declared.Written.{Written}
use Rattle.model.specs.Refusals.{refuse_if, first, Accepted, Done}
use Rattle.model.specs.NetlistFile.{pulse_wrong, cell_bytes, cells_at, in_list, in_file, file_of, blocks_for, count_of, finish_of, cells_of, count_wrong, net_check, file_check}
use Rattle.model.specs.Calls.{Returned, short, writing, cells_in, write_call, read_call}
use Rattle.laws.specs.Refusals.Laws.{first_one}
use Rattle.laws.specs.NetlistFile.CellBytes.{bytes-length}
use Rattle.netlist.specs.declared.cells.Layout.TheVariants.{InList}
use Rattle.netlist.specs.Offsets.{Room}
use Rattle.netlist.specs.Blocks.{written_file}
use Rattle.word.proofs.Puts.{overwrite-sets}
use Rattle.netlist.proofs.Bytes.{cells-length}
use Rattle.laws.specs.NetlistFile.Files.{file-length}
use Rattle.netlist.proofs.FileChecks.{neither, counted}

-- what a call answers, and what it leaves in the lent list
abbrev pub Tells : Result Written Refusal → List ℕ → Returned (Result Written Refusal) → Type 0
Tells answer lent told = (answer ≡ told.answer) × (lent ≡ told.lent)

abbrev pub refused : ℕ → Result Written Refusal
refused number = Err (record { number = number; place = 0 })

-- Reading ------------------------------------------------------------------------------------------------------------------------------

module _ (file lent : List ℕ) where
  pub read-refused : {r : Refusal} → file_check file ≡ Err r → Tells (Err r) lent (read_call file lent)
  unfolding read_call writing
  read-refused e = rw e (refl, refl)

  module _ (e : file_check file ≡ Accepted) {n : ℕ} (count : n ≡ count_of file) where
    pub read_short : length lent < 6 * n → Tells (refused 14) lent (read_call file lent)
    unfolding read_call writing
    read_short h = rw (e, ← count, lt-ltb _ _ h) (refl, refl)

    pub read_done : {f : ℕ} {d : List ℕ} → f ≡ finish_of file → 6 * n ≤ length lent → d ≡ sets lent 0 (cell_bytes (cells_at in_file file 0 n))
        → Tells (Done n f) d (read_call file lent)
    unfolding read_call writing cells_of
    read_done finish h q =
        let bytes = cell_bytes (cells_at in_file file 0 n) in
        let l : length bytes ≡ 6 * n = bytes-length (cells_at in_file file 0 n) ∙ ap (λ (x : ℕ). 6 * x) (cells-length in_file file 0 n) in
        rw (e, ← count, ← finish, le-ltb _ _ h) (refl, q ∙ sym (overwrite-sets bytes lent (omega arith)))

-- Files --------------------------------------------------------------------------------------------------------------------------------

module _ (w : ℕ) (s : List ℕ) (n f : ℕ) (lent : List ℕ) where
  abbrev cs : List Cell
  cs = cells_at in_list s 0 n

  put-size : length (file_of w cs f) ≡ 512 * blocks_for n
  put-size = file-length w cs f ∙ ap (λ (x : ℕ). 512 * blocks_for x) (cells-length in_list s 0 n)

  pub file-short : length lent < 512 * blocks_for n → Tells (refused 14) lent (written_file w cs f lent)
  unfolding writing
  file-short h = rw (put-size, lt-ltb _ _ h) (refl, refl)

  pub file-done : {d : List ℕ} → 512 * blocks_for n ≤ length lent → d ≡ sets lent 0 (file_of w cs f) → Tells (Done (512 * blocks_for n) f) d (written_file w cs f lent)
  unfolding writing
  file-done h q = rw (put-size, le-ltb _ _ h) (refl, q ∙ sym (overwrite-sets (file_of w cs f) lent (omega (arith, put-size))))

-- Writing ------------------------------------------------------------------------------------------------------------------------------

module _ (w : ℕ) (cells : List ℕ) (f : ℕ) (lent : List ℕ) where
  abbrev n : ℕ
  n = length cells / 6

  abbrev count_test : Bool
  count_test = ltb 0 (length cells % 6) || count_wrong (blocks_for n) n f

  abbrev file : List ℕ
  file = file_of w (cells_in cells) f

  write_as : write_call w cells f lent
      ≡ writing (first (refuse_if (pulse_wrong w) 27 0 ∷ refuse_if count_test 11 0 ∷ net_check (cells_in cells) f ∷ short (length lent) (length file) ∷ [])) file (length file) f lent
  unfolding write_call
  write_as = rw (cells-length in_list cells 0 n) refl

  pub pulse-refused : pulse_wrong w ≡ true → Tells (refused 27) lent (write_call w cells f lent)
  unfolding writing
  pulse-refused e = rw (write_as, e) (refl, refl)

  pub count-refused : pulse_wrong w ≡ false → count_test ≡ true → Tells (refused 11) lent (write_call w cells f lent)
  unfolding writing
  count-refused p e = rw (write_as, p, e) (refl, refl)

  module _ (p : pulse_wrong w ≡ false) (e : count_test ≡ false) where
    pub list-room : Room InList cells n
    list-room = record { few = (counted (blocks_for n) n f (neither (ltb 0 (length cells % 6)) _ e).1).high; fits = omega arith }

    pub cells-refused : {r : Refusal} → net_check (cells_in cells) f ≡ Err r → Tells (Err r) lent (write_call w cells f lent)
    unfolding writing
    cells-refused g = rw (write_as, p, e, g) (refl, refl)

    -- what is accepted is written
    pub write-file : net_check (cells_in cells) f ≡ Accepted → write_call w cells f lent ≡ written_file w (cells_in cells) f lent
    write-file g = write_as ∙ rw (p, e, g, ← first_one (short (length lent) (length file))) refl
