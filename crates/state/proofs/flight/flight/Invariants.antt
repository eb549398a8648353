-- `flight` meets its contract: the sum so far and what the cells that are left add make the number. Assumes nothing.
use Rattle.std.proofs.Common.{◌≡◌, ◌+◌, drop}
use Rattle.model.specs.NetlistFile.{net_of, cells_of}
use Rattle.model.specs.State.{held_at, remaining_at, line_at, flight_in, flight}
use Rattle.netlist.specs.Left.{cells_left}
use Rattle.netlist.proofs.Bytes.{Standing}
use Rattle.state.proofs.flight.flight.Given as goal

abbrev pub invariant-loop-k : goal.invariant-loop-k
invariant-loop-k l =
    let at = l.k-iterator in
    Standing (cells_of l.file) at.count (cells_left at.iter)
    × (l.sum + flight_in (line_at l.format (net_of l.file) l.s) (held_at l.format l.s) (remaining_at l.format l.s) (drop at.count (cells_of l.file)) at.count
    ≡ flight l.format (net_of l.file) l.s)
