-- Loops over the kinds of a file's cells, and what they tell of a compiled file. Assumes nothing.
use Rattle.model.specs.Refusals.{Accepted}
use mathlib.Core.Path.{◌≡◌, refl, sym, ap, ap₂, ◌∙◌}
use mathlib.Core.Bool.{Bool, true, false, cond, ◌&&◌}
use mathlib.Core.List.{List, [], ◌∷◌, ◌++◌}
use Prim.Native.Nat.{ℕ, zero, suc, ◌+◌, ◌-◌, ◌<◌, ◌≤◌}
use native.Mathlib.Omega.{arith}
use native.Mathlib.Nat.{zero-add, add-zero}
use lib.Dec.{eqb}
use lib.ListN.{length, take, drop, length-drop}
use lib.Seq.{take_all}
use Rattle.std.specs.List.{prefix_len}
use Rattle.model.specs.declared.Cell.{Cell}
use Rattle.model.specs.Word.{pick}
use Rattle.model.specs.Program.{Code}
use Rattle.model.specs.Numbering.{delay_count, walk_count, memory_at, walk_place, clocks_of, or_count_from, netlist}
use Rattle.model.specs.NetlistFile.{cell_from, cells_at, in_file, file_check, cells_of, count_of}
use Rattle.laws.specs.Program.Sequence.{one_root}
use Rattle.laws.specs.NetlistFile.Passed.{length-cells, count-cells, file-passed, count-range}
use Rattle.laws.specs.Numbering.Parts.{net-length}
use Rattle.netlist.specs.declared.cells.Layout.TheVariants.{InFile}
use Rattle.netlist.specs.Offsets.{Room}
use Rattle.netlist.proofs.FileChecks.{accepted-room}
use Rattle.joiner.specs.Kinds.{kind_run, trimmed}
use Rattle.joiner.specs.Stands.{Compiled, OwnOf}
use Rattle.joiner.proofs.Regions.{file-cells, memory-is, walk-count}
use Rattle.joiner.proofs.KindRuns.{delays-in, ors-in, walk-in, cut-last, keep-last}

pub run_short : (k : ℕ) (cs : List Cell) → kind_run k cs ≤ length cs
unfolding kind_run
run_short k [] = omega arith
run_short k (c ∷ cs) = go (eqb c.kind k) (run_short k cs)
  where
    go : (b : Bool) → kind_run k cs ≤ length cs → pick b (suc (kind_run k cs)) 0 ≤ suc (length cs)
    go true h = omega arith
    go false h = omega arith

-- a run as the length of a front whose cells all pass
abbrev pub of_kind : ℕ → Cell → Bool
of_kind k c = eqb c.kind k

pub run-prefix : (k : ℕ) (cs : List Cell) → kind_run k cs ≡ prefix_len (of_kind k) cs
unfolding kind_run
run-prefix k [] = refl
run-prefix k (c ∷ cs) = go (eqb c.kind k) (run-prefix k cs)
  where
    go : (b : Bool) {m n : ℕ} → m ≡ n → pick b (suc m) 0 ≡ cond b (1 + n) 0
    go true e = omega (arith, e)
    go false e = refl

-- the loop that cuts off: n cells are left
cells-snoc : (at : ℕ → ℕ) (s : List ℕ) (i n : ℕ) → cells_at at s i (suc n) ≡ cells_at at s i n ++ (cell_from s (at (i + n)) ∷ [])
unfolding cells_at
cells-snoc at s i zero = ap (λ (k : ℕ). cell_from s (at k) ∷ []) (sym (add-zero i))
cells-snoc at s i (suc n) =
    let e : i + 1 + n ≡ i + suc n = omega arith in
    ap (λ (l : List Cell). cell_from s (at i) ∷ l) (cells-snoc at s (i + 1) n ∙ ap (λ (k : ℕ). cells_at at s (i + 1) n ++ (cell_from s (at k) ∷ [])) e)

module _ (s : List ℕ) (n : ℕ) (l : 0 < n) {c : Cell} (e : c ≡ cell_from s (in_file (n - 1))) where
  last : cells_at in_file s 0 n ≡ cells_at in_file s 0 (n - 1) ++ (c ∷ [])
  last =
      let g : n ≡ suc (n - 1) = omega arith in
      ap (cells_at in_file s 0) g ∙ cells-snoc in_file s 0 (n - 1)
      ∙ ap (λ (k : ℕ). cells_at in_file s 0 (n - 1) ++ (cell_from s (in_file k) ∷ [])) (zero-add (n - 1))
      ∙ ap (λ (c : Cell). cells_at in_file s 0 (n - 1) ++ (c ∷ [])) (sym e)

  pub cut-more : c.kind ≡ 7 → trimmed (cells_at in_file s 0 n) ≡ trimmed (cells_at in_file s 0 (n - 1))
  cut-more k = ap trimmed last ∙ cut-last (cells_at in_file s 0 (n - 1)) c k

  pub cut-end : (c.kind ≡ 7 → ⊥) → trimmed (cells_at in_file s 0 n) ≡ n
  cut-end k = ap trimmed last ∙ keep-last (cells_at in_file s 0 (n - 1)) c k ∙ ap length (sym last) ∙ length-cells in_file s 0 n

pub cut-none : (s : List ℕ) (n : ℕ) → n ≤ 0 → trimmed (cells_at in_file s 0 n) ≡ 0
unfolding trimmed cells_at
cut-none s n l =
    let e : n ≡ 0 = omega arith in
    ap (λ (m : ℕ). trimmed (cells_at in_file s 0 m)) e

-- What they tell of a compiled file -----------------------------------------------------------------------------------------------------------

module _ {v : ℕ} {P : Code} {file : List ℕ} (C : Compiled v P file) where
  counted : count_of file ≡ length (netlist (one_root v P))
  counted = sym (count-cells file) ∙ ap length C.cells

  -- cells from k on, up to the last
  from : (k : ℕ) → k ≤ count_of file → cells_at in_file file k (count_of file - k) ≡ drop k (netlist (one_root v P))
  from k l =
      file-cells file k (count_of file - k) (omega arith) ∙ ap (λ (l : List Cell). take (count_of file - k) (drop k l)) C.cells
      ∙ take_all (count_of file - k) (drop k (netlist (one_root v P))) (omega (arith, counted, length-drop k (netlist (one_root v P))))

  long : 3 + delay_count P + or_count_from (clocks_of (one_root v P)) 0 20 + 24 + walk_count P ≤ count_of file
  long = omega (arith, counted, net-length (one_root v P), memory-is v P C.uncalled, walk-count v P C.uncalled)

  pub own_is : {delays ors_number end memory walk : ℕ} → delays ≡ kind_run 34 (cells_at in_file file 3 (count_of file - 3))
      → ors_number ≡ kind_run 35 (cells_at in_file file (3 + delays) (count_of file - (3 + delays))) → end ≡ trimmed (cells_at in_file file 0 (count_of file))
      → memory ≡ 3 + delays + ors_number → walk ≡ end - (memory + 24)
      → OwnOf v P file (record { memory = memory; delays = delays; walk = walk })
  unfolding cells_of
  own_is {delays} {ors_number} {end} {memory} {walk} ed eo ee em ew =
      let d : delays ≡ delay_count P = ed ∙ ap (kind_run 34) (from 3 (omega (arith, long))) ∙ delays-in v P C.uncalled in
      let o : ors_number ≡ or_count_from (clocks_of (one_root v P)) 0 20 =
      eo ∙ ap (λ (k : ℕ). kind_run 35 (cells_at in_file file (3 + k) (count_of file - (3 + k)))) d
      ∙ ap (kind_run 35) (from (3 + delay_count P) (omega (arith, long))) ∙ ors-in v P C.uncalled in
      let m : memory ≡ memory_at (one_root v P) = em ∙ ap₂ (λ (a b : ℕ). 3 + a + b) d o ∙ sym (memory-is v P C.uncalled) in
      let t : end ≡ walk_place (one_root v P) + walk_count P = ee ∙ ap trimmed (unfold cells_of in C.cells) ∙ walk-in v P C.uncalled in
      record { compiled = C; memory = m; delays = d; walk = ew ∙ omega (arith, t, m) }

-- What the code asks ----------------------------------------------------------------------------------------------------------------------------

pub trim-short : (cs : List Cell) → trimmed cs ≤ length cs
unfolding trimmed
trim-short [] = omega arith
trim-short (c ∷ cs) = go (eqb c.kind 7 && eqb (trimmed cs) 0) (trim-short cs)
  where
    go : (b : Bool) → trimmed cs ≤ length cs → pick b 0 (suc (trimmed cs)) ≤ suc (length cs)
    go true h = omega arith
    go false h = omega arith

module _ (file : List ℕ) (e : file_check file ≡ Accepted) where
  pub count_low : (27 ≤ count_of file) × (count_of file ≤ 16384)
  count_low = let r = count-range _ _ _ (file-passed file e).count in (r.0, r.1)

  pub head-room : 3 < length file
  head-room = let r = accepted-room file e in omega (arith, r.fits, count_low.0)

  module _ {n : ℕ} (en : n ≡ count_of file) where
    pub file-room : Room InFile file n
    file-room = rw en (accepted-room file e)

    pub run-low : (k i : ℕ) {r : ℕ} → i ≤ n → r ≡ kind_run k (cells_at in_file file i (n - i)) → i + r ≤ n
    run-low k i l q = omega (arith, q, run_short k (cells_at in_file file i (n - i)), length-cells in_file file i (n - i))

    pub end_low : {r : ℕ} → r ≡ trimmed (cells_at in_file file 0 n) → r ≤ n
    end_low q = omega (arith, q, trim-short (cells_at in_file file 0 n), length-cells in_file file 0 n)
