-- `ones` meets its contract: the sum so far is the ones of whole bytes. Assumes nothing.
use Rattle.std.proofs.Common.{◌≡◌, ◌*◌, ◌≤◌}
use Rattle.model.specs.declared.Format.TheVariants.{Full}
use Rattle.model.specs.State.{line_bit, ones}
use Rattle.state.proofs.flight.ones.Given as goal

abbrev pub invariant-loop-byte : goal.invariant-loop-byte
invariant-loop-byte l = (l.sum ≤ 8 * l.byte-index) × (l.sum ≡ ones (line_bit Full l.s l.k l.d) (8 * l.byte-index))
