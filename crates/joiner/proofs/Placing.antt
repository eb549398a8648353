-- One part put into the whole: what it asks of its file, and that what is put in is what its statement has there. Assumes nothing.
use mathlib.Core.Path.{◌≡◌, ap, ap₂, ◌∙◌}
use mathlib.Core.List.{List, map}
use Prim.Native.Nat.{ℕ, ◌+◌, ◌*◌, ◌<◌, ◌≤◌}
use native.Mathlib.Omega.{arith}
use lib.ListN.{length}
use lib.Seq.{sets}
use Rattle.model.specs.Program.{Code}
use Rattle.model.specs.NetlistFile.{cell_bytes, cells_at, in_file, count_of, finish_of}
use Rattle.laws.specs.NetlistFile.Passed.{file-passed, count-range}
use Rattle.netlist.specs.declared.cells.Layout.TheVariants.{InFile}
use Rattle.netlist.specs.Offsets.{Room}
use Rattle.netlist.proofs.FileChecks.{accepted-room}
use Rattle.compiler.specs.Writes.{write, both}
use Rattle.joiner.specs.declared.moving.Stand.{Stand}
use Rattle.joiner.specs.declared.moving.Own.{Own}
use Rattle.joiner.specs.declared.moving.Spot.{Spot}
use Rattle.model.specs.CellSlices.{rewired}
use Rattle.joiner.specs.Moving.{new_number}
use Rattle.joiner.specs.Stands.{moves, Fits, LowCells, PartReady, OwnOf, PartDone}
use Rattle.joiner.proofs.Lows.{file-low}
use Rattle.joiner.proofs.Moved.{delays-moved, walk-moved, finish-moved}

abbrev pub stand_at : Own → ℕ → Spot → Stand
stand_at own M at = record { own = own.memory; memory = M; start = at.wire; delay = at.delay; walk = at.cell }

module _ {file : List ℕ} {own : Own} {M : ℕ} {at : Spot} {n : ℕ} (R : PartReady file own M at n) where
  most : count_of file ≤ 16384
  most = (count-range _ _ _ (file-passed file R.accepted).count).1

  pub room_for : (k : ℕ) → k ≤ count_of file → Room InFile file k
  room_for k l = let r = accepted-room file R.accepted in record { few = omega (arith, most); fits = omega (arith, r.fits) }

  pub low-for : (k : ℕ) → k ≤ count_of file → LowCells file k
  low-for k l = record { low = λ j h. (file-low file R.accepted).low j (omega arith) }

  pub stand-fits : Fits (stand_at own M at)
  stand-fits =
      record {
        own = omega (arith, R.walk, most);
        memory = R.memory;
        delay = omega (arith, R.delay_room.0);
        walk = omega (arith, R.walk_room.0);
      }

  pub finish-low : finish_of file ≤ 16384
  finish-low = omega (arith, most, (count-range _ _ _ (file-passed file R.accepted).count).3)

  -- "4–5 its finish cell"
  pub header : 4 + 1 < length file
  header = let r = accepted-room file R.accepted in omega (arith, r.fits, (count-range _ _ _ (file-passed file R.accepted).count).0)

  pub put_in : (before : List ℕ) {mid after : List ℕ} {w : ℕ}
      → mid ≡ sets before (6 * at.delay) (cell_bytes (map (rewired (moves (stand_at own M at))) (cells_at in_file file 3 own.delays)))
      → after ≡ sets mid (6 * at.cell) (cell_bytes (map (rewired (moves (stand_at own M at))) (cells_at in_file file (own.memory + 24) own.walk)))
      → w ≡ moves (stand_at own M at) (finish_of file)
      → (v : ℕ) (P : Code) → OwnOf v P file own
      → PartDone v M P at before after (record { wire = w; delay = at.delay + own.delays; cell = at.cell + own.walk })
  unfolding both write
  put_in before {mid} {after} {w} e₁ e₂ e₃ v P O =
      let s = at.wire in
      let d = at.delay in
      let c = at.cell in
      let D = delays-moved v P O.compiled.formed O.compiled.uncalled M s d c file O.compiled.cells in
      let W = walk-moved v P O.compiled.formed O.compiled.uncalled M s d c file O.compiled.cells in
      record {
        cells = λ F. rw (e₁, O.memory, O.delays, O.walk, D, W F) at e₂;
        wire = e₃ ∙ ap₂ (λ (m j : ℕ). new_number m M s d c j) O.memory O.compiled.finishes ∙ finish-moved v P O.compiled.formed O.compiled.uncalled M s d c;
        delay = ap (λ (k : ℕ). d + k) O.delays;
        cell = ap (λ (k : ℕ). c + k) O.walk;
      }
