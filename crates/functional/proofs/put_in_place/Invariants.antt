-- `put_in_place` meets its contract. The invariant: the first k cells of the list are put in as the file; those that are left stand where they stood.
-- Assumes nothing.
use mathlib.Core.Path.{◌≡◌}
use lib.ListN.{length, drop}
use Rattle.model.specs.NetlistFile.{cells_at, in_list}
use Rattle.netlist.specs.Blocks.{Filled}
use Rattle.functional.proofs.put_in_place.Given as goal

abbrev pub invariant-loop-k : goal.invariant-loop-k
invariant-loop-k l = (length l.d ≡ length l.initial.d) × Filled 0 (cells_at in_list (drop l.from l.initial.d) 0 l.n) l.finish l.initial.d l.k l.sum l.d
