-- `blocks::check_headers` meets its contract. The invariant: the answer from block 0 is the answer from block b, and the blocks from there on are left.
-- Assumes nothing.
use Rattle.std.proofs.Common.{◌*◌, take}
use Rattle.model.specs.NetlistFile.{header_fault}
use Rattle.laws.specs.Refusals.Search.{Searched}
use Rattle.word.proofs.Chunks.{Cut}
use Rattle.netlist.proofs.blocks.check_headers.Given as goal

abbrev pub invariant-loop-b : goal.invariant-loop-b
invariant-loop-b l = let at = l.b-iterator in Cut 512 (take (512 * l.m) l.s) at.count at.iter × Searched (header_fault l.s) l.m at.count
