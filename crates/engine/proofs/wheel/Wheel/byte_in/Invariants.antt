-- `byte_in` meets its contract: the first i inputs of the byte are in the wheel. Assumes nothing.
use Rattle.std.proofs.Common.{◌≡◌, ℕ, ◌+◌, ◌*◌, List, get_or}
use Rattle.engine_laws.specs.Lines.{Lined}
use Rattle.engine.specs.Lent.{SameLists}
use Rattle.engine.proofs.wheel.Wheel.byte_in.Given as goal

abbrev pub invariant-loop-i : goal.invariant-loop-i
invariant-loop-i l =
    let old = l.fn.self in
    ((s : List ℕ) (at : ℕ) (rows tag : List ℕ) → get_or s (at + l.k) 0 ≡ l.byte
    → Lined s at l.d old.width l.r (8 * l.k) rows tag old.rows.now old.tag.now → Lined s at l.d old.width l.r (8 * l.k + l.i) rows tag l.self.rows.now l.self.tag.now)
    × SameLists old l.self
