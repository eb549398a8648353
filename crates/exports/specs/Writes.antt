-- A file as cells are put into it. Assumes nothing: definitions.
use Rattle.std.specs.Prelude.{ℕ, List, length}
use Rattle.model.specs.declared.Cell.{Cell}
use Rattle.model.specs.NetlistFile.{blocks, blocks_for}

-- the file of cells whose blocks are numbered from first on
abbrev pub numbered : ℕ → List Cell → ℕ → List ℕ
numbered first net finish = blocks (blocks_for (length net)) first (length net) finish net
