-- A part's cells, moved from its own netlist to where it stands in the whole, are those that its statement has there. Assumes nothing.
use mathlib.Core.Path.{◌≡◌, sym, ap, ◌∙◌}
use mathlib.Core.List.{List, map}
use Prim.Native.Nat.{ℕ, ◌+◌}
use native.Mathlib.Omega.{arith}
use lib.ListN.{length, take, drop}
use Rattle.model.specs.declared.Cell.{Cell}
use Rattle.model.specs.Program.{Code}
use Rattle.model.specs.Numbering.{memory_wires, delay_count, walk_count, finish_wire, delays, walk, memory_at, walk_place, finish_of_root, netlist, finish}
use Rattle.model.specs.NetlistFile.{cells_at, in_file, cells_of, count_of}
use Rattle.laws.specs.Program.Fit.{Formed, Earlier}
use Rattle.laws.specs.Program.Sequence.{one_root}
use Rattle.laws.specs.Numbering.Parts.{net-length}
use Rattle.laws.specs.NetlistFile.Passed.{count-cells}
use Rattle.model.specs.CellSlices.{rewired}
use Rattle.joiner.specs.Moving.{new_number}
use Rattle.joiner.proofs.Renumber.{Shift, finish-at, delays-at, walk_at}
use Rattle.joiner.proofs.NewNumbers.{new-start, new-ground, new-delays, new-wires, new-walk}
use Rattle.joiner.proofs.Regions.{delay-count, walk-count, memory-is, finish-is, delays-stand, walk-stands, file-cells}

-- of a statement without calls, where the whole's first memory is M and the part has the start s, delay cells from d on and walk cells from c on
module _ (v : ℕ) (P : Code) (w : Formed P) (n : Earlier 0 P) (M s d c : ℕ) where
  abbrev f : ℕ → ℕ
  f = new_number (memory_at (one_root v P)) M s d c

  on-delays : Shift f 3 (delay_count P) d
  on-delays = new-delays (memory_at (one_root v P)) M s d c (delay_count P) (omega (arith, memory-is v P n))

  on-walk : Shift f (walk_place (one_root v P)) (walk_count P) c
  on-walk =
      let e : memory_at (one_root v P) + 24 ≡ walk_place (one_root v P) = omega arith in
      rw e at (new-walk (memory_at (one_root v P)) M s d c (omega (arith, memory-is v P n)) (walk_count P))

  -- its cells in its file
  module _ (file : List ℕ) (own : cells_of file ≡ netlist (one_root v P)) where
    counted : count_of file ≡ length (netlist (one_root v P))
    counted = sym (count-cells file) ∙ ap length own

    pub delays-moved : map (rewired f) (cells_at in_file file 3 (delay_count P)) ≡ delays v P s d c
    delays-moved =
        ap (map (rewired f)) (file-cells file 3 (delay_count P) (omega (arith, counted, net-length (one_root v P), delay-count v P n)) ∙ ap (λ (l : List Cell). take (delay_count P) (drop 3 l)) own ∙ delays-stand v P n)
        ∙ delays-at f (new-ground (memory_at (one_root v P)) M s d c) v P 0 s 3 d (walk_place (one_root v P)) c (new-start (memory_at (one_root v P)) M s d c) on-delays on-walk

    pub walk-moved : (F : ℕ → ℕ) → map (rewired f) (cells_at in_file file (memory_at (one_root v P) + 24) (walk_count P)) ≡ walk (memory_wires M) F P s d c
    walk-moved F =
        ap (map (rewired f))
        (file-cells file (memory_at (one_root v P) + 24) (walk_count P) (omega (arith, counted, net-length (one_root v P), walk-count v P n))
        ∙ ap (λ (l : List Cell). take (walk_count P) (drop (memory_at (one_root v P) + 24) l)) own ∙ walk-stands v P n)
        ∙ walk_at f (new-ground (memory_at (one_root v P)) M s d c) (memory_wires (memory_at (one_root v P))) (memory_wires M)
        (new-wires (memory_at (one_root v P)) M s d c (omega (arith, memory-is v P n))) (finish_of_root (one_root v P)) F P w n 0 s 3 d (walk_place (one_root v P)) c
        (new-start (memory_at (one_root v P)) M s d c) on-delays on-walk

  pub finish-moved : f (finish (one_root v P)) ≡ finish_wire P s d c
  finish-moved =
      ap f (finish-is v P n)
      ∙ finish-at f (new-ground (memory_at (one_root v P)) M s d c) P 0 s 3 d (walk_place (one_root v P)) c (new-start (memory_at (one_root v P)) M s d c) on-delays on-walk
