-- `line_in` meets its contract: the inputs of the first k bytes are in the wheel. Assumes nothing.
use Rattle.std.proofs.Common.{◌*◌}
use Rattle.engine_laws.specs.Lines.{Lined}
use Rattle.engine.specs.Lent.{SameLists}
use Rattle.engine.proofs.wheel.Wheel.line_in.Given as goal

abbrev pub invariant-loop-k : goal.invariant-loop-k
invariant-loop-k l =
    let old = l.fn.self in
    Lined l.state l.at l.d old.width l.r (8 * l.k) old.rows.now old.tag.now l.self.rows.now l.self.tag.now
    × SameLists old l.self
