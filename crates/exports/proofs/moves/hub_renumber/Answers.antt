-- `moves::hub_renumber` renumbers where the list has the cells. Assumes nothing.
use Rattle.exports.proofs.moves.hub_renumber.Goals as goal

pub renumber_bytes-requires : goal.renumber_bytes-requires
renumber_bytes-requires c = (c.if-end-gt-MOST_CELLS.false, c.if-cells-end.false)
