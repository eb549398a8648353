-- Where a part stands: what its code asks of numbers. Assumes nothing: definitions.
use Rattle.std.specs.Prelude.{◌≡◌, true, List, ℕ, ◌+◌, ◌*◌, ◌<◌, ◌≤◌}
use Rattle.model.specs.declared.Cell.{Cell}
use Rattle.model.specs.declared.Options.{Options}
use Rattle.model.specs.Refusals.{first, Accepted}
use Rattle.model.specs.PartCalls.{Part, part_checks}
use Rattle.model.specs.PartPromises.{whole_statement}
use Rattle.model.specs.Program.{Code, stmt_at}
use Rattle.model.specs.Circuit.{cell_row, names}
use Rattle.model.specs.Numbering.{memory_wires, delay_count, exit_count, walk_count, finish_wire, delays, walk, memory_at, netlist, finish}
use Rattle.model.specs.NetlistFile.{cell_from, in_file, file_check, cells_of, count_of, finish_of, pulse_of}
use Rattle.laws.specs.Program.Fit.{Formed, Earlier}
use Rattle.laws.specs.Program.Sequence.{one_root}
use Rattle.laws.specs.Program.Passed.{Readable}
use Rattle.compiler.specs.declared.walk.Place.{Place}
use Rattle.compiler.specs.Walk.{place, Ready}
use Rattle.compiler.specs.Whole.{behind_arrays}
use Rattle.compiler.specs.Writes.{both}
use Rattle.joiner.specs.declared.moving.Stand.{Stand}
use Rattle.joiner.specs.declared.moving.Own.{Own}
use Rattle.joiner.specs.declared.moving.Spot.{Spot}
use Rattle.joiner.specs.declared.parts.Parts.{Parts}
use Rattle.joiner.specs.Lent.{parts_with}
use Rattle.joiner.specs.Moving.{new_number}

-- the new number of wire j
abbrev pub moves : Stand → ℕ → ℕ
moves at j = new_number at.own at.memory at.start at.delay at.walk j

-- numbers of cells of a netlist
pub record Fits (at : Stand) : Type 0 where
  pub own : at.own ≤ 16384
  pub memory : at.memory ≤ 16384
  pub delay : at.delay ≤ 16384
  pub walk : at.walk ≤ 16384

-- a cell whose inputs are
pub record Low (c : Cell) : Type 0 where
  pub first : names (cell_row c.kind).a ≡ true → c.a ≤ 16384
  pub second : names (cell_row c.kind).b ≡ true → c.b ≤ 16384

pub record LowCells (s : List ℕ) (n : ℕ) : Type 0 where
  pub low : (k : ℕ) → k < n → Low (cell_from s (in_file k))

-- a part's file, what is known of it, and the place of the part in a list of n bytes; the first memory is M
pub record PartReady (file : List ℕ) (own : Own) (M : ℕ) (at : Spot) (n : ℕ) : Type 0 where
  pub accepted : file_check file ≡ Accepted
  pub delays : 3 + own.delays ≤ count_of file
  pub walk : own.memory + 24 + own.walk ≤ count_of file
  pub memory : M ≤ 16384
  pub delay_room : (at.delay + own.delays ≤ 16384) × (6 * (at.delay + own.delays) ≤ n)
  pub walk_room : (at.cell + own.walk ≤ 16384) × (6 * (at.cell + own.walk) ≤ n)

-- the file is that of P, a statement without calls, with pulses of v
pub record Compiled (v : ℕ) (P : Code) (file : List ℕ) : Type 0 where
  pub formed : Formed P
  pub uncalled : Earlier 0 P
  pub cells : cells_of file ≡ netlist (one_root v P)
  pub finishes : finish_of file ≡ finish (one_root v P)

-- and its regions are these
pub record OwnOf (v : ℕ) (P : Code) (file : List ℕ) (own : Own) : Type 0 where
  pub compiled : Compiled v P file
  pub memory : own.memory ≡ memory_at (one_root v P)
  pub delays : own.delays ≡ delay_count P
  pub walk : own.walk ≡ walk_count P

-- the cells that P has at its place are there, whatever F tells of procedures; and the place behind them
pub record PartDone (v M : ℕ) (P : Code) (at : Spot) (before after : List ℕ) (r : Spot) : Type 0 where
  pub cells : (F : ℕ → ℕ)
      → after ≡ both at.delay (delays v P at.wire at.delay at.cell) at.cell (walk (memory_wires M) F P at.wire at.delay at.cell) before
  pub wire : r.wire ≡ finish_wire P at.wire at.delay at.cell
  pub delay : r.delay ≡ at.delay + delay_count P
  pub cell : r.cell ≡ at.cell + walk_count P

-- a part's program and file, which is its program's, where its statement goes to place p of a list of n bytes; the first memory is M
pub record Placeable (M : ℕ) (program file : List ℕ) (p : Place) (n : ℕ) : Type 0 where
  pub readable : Readable 0 program
  pub accepted : file_check file ≡ Accepted
  pub compiled : Compiled (pulse_of file) (stmt_at program 0) file
  pub enclosed : exit_count (stmt_at program 0) ≡ 0
  pub ready : Ready M (stmt_at program 0) p n

-- parts that are accepted, and a list of n bytes for the cells of the whole
pub record Given (options : Options) (ps : List Part) (n : ℕ) : Type 0 where
  pub accepted : first (part_checks options ps) ≡ Accepted
  pub size : n ≡ 3762

-- and the whole's statement goes there; the first memory is M
pub record PartsReady (options : Options) (ps : List Part) (M n : ℕ) : Type 0 where
  pub given : Given options ps n
  pub ready : Ready M (whole_statement ps) (place 0 3 (behind_arrays M) 0 0) n

-- with some options and pulse lengths: those that are lent may be others, or none
pub record SomeGiven (ps : Parts) (n : ℕ) : Type 0 where
  pub options : Options
  pub pulses : List ℕ
  pub given : Given options (parts_with ps pulses) n

pub record SomeReady (ps : Parts) (M n : ℕ) : Type 0 where
  pub options : Options
  pub pulses : List ℕ
  pub parts-ready : PartsReady options (parts_with ps pulses) M n
