-- `read_cells` meets its contract: the cells below k are in the lists. Assumes nothing.
use Rattle.model.specs.NetlistFile.{in_file, cells_at}
use Rattle.engine_laws.specs.Decoded.{Decoded}
use Rattle.engine_tables.proofs.cells.read_cells.Given as goal

abbrev pub invariant-loop-k : goal.invariant-loop-k
invariant-loop-k l = Decoded (cells_at in_file l.file 0 l.n) l.kind l.delay l.a l.b l.k
