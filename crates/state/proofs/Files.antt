-- What a netlist file that is accepted gives those who look at its state: its size, its cells, and that they stand in the state.
-- Assumes nothing.
use Rattle.model.specs.Refusals.{Accepted}
use mathlib.Core.List.{List}
use mathlib.Core.Path.{◌≡◌, ◌∙◌, ap}
use Prim.Native.Nat.{ℕ, ◌+◌, ◌*◌, ◌<◌, ◌≤◌}
use native.Mathlib.Omega.{arith}
use native.Mathlib.Nat.{zero-add}
use lib.ListN.{length}
use Rattle.model.specs.declared.Format.{Format}
use Rattle.model.specs.Circuit.{cell_at}
use Rattle.model.specs.NetlistFile.{cell_limit, cell_from, in_file, blocks_for, count_of, finish_of, pulse_of, cells_of, file_check}
use Rattle.model.specs.State.{base}
use Rattle.laws.specs.Circuit.Ordered.{Ordered}
use Rattle.laws.specs.NetlistFile.Passed.{net-ordered, file-passed, count-cells}
use Rattle.laws.specs.NetlistFile.CellBytes.{cell-of}
use Rattle.netlist.proofs.FileChecks.{accepted-whole, accepted-counted, accepted-pulse}
use Rattle.state.specs.Stands.{Stands, Runs}
use Rattle.state.proofs.Standing.{stands-in}

pub record Sized (file : List ℕ) : Type 0 where
  pub some : 27 ≤ count_of file
  pub few : count_of file ≤ cell_limit
  pub finish : finish_of file < count_of file
  pub long : length file ≡ 512 * blocks_for (count_of file)
  pub pulse : pulse_of file ≤ 8

pub sized : (file : List ℕ) → file_check file ≡ Accepted → Sized file
sized file e =
    let whole = accepted-whole file e in
    let n = accepted-counted file e in
    record { some = n.low; few = n.high; finish = n.among; long = omega (arith, whole.whole, n.blocks); pulse = (accepted-pulse file e).1 }

pub file-cell : (file : List ℕ) (k : ℕ) → k < count_of file → cell_at (cells_of file) k ≡ cell_from file (in_file k)
unfolding cells_of
file-cell file k h = cell-of in_file file 0 (count_of file) k h ∙ ap (λ (j : ℕ). cell_from file (in_file j)) (zero-add k)

module _ (F : Format) (file s : List ℕ) (r : Runs F file s) where
  pub file-sized : Sized file
  file-sized = sized file r.accepted

  pub file-room : base F (count_of file) + 512 ≤ length s
  file-room = rw (count-cells file) at r.room

  -- cell k stands there
  pub file-stands : (k : ℕ) → k < count_of file → Stands F s k
  file-stands k h = stands-in F s k (count_of file) h file-sized.few (omega (arith, file-room))

  pub file-ordered : Ordered (cells_of file)
  file-ordered = net-ordered (cells_of file) (finish_of file) (file-passed file r.accepted).cells
