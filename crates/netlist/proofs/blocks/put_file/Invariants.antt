-- `blocks::put_file` meets its contract. The invariant: the first k cells are put in, and the others are left. Assumes nothing.
use Rattle.std.proofs.Common.{◌*◌, take}
use Rattle.model.specs.NetlistFile.{cells_at, in_list}
use Rattle.word.proofs.Chunks.{Cut}
use Rattle.netlist.specs.Blocks.{Filled}
use Rattle.netlist.proofs.blocks.put_file.Given as goal

abbrev pub invariant-loop-k : goal.invariant-loop-k
invariant-loop-k l =
    let at = l.k-iterator in
    Cut 6 (take (6 * l.n) l.cells) at.count at.iter × Filled l.first (cells_at in_list l.cells 0 l.n) l.finish l.initial.d at.count l.sum l.d
