-- `next_due` meets its contract: the instants up to w are free; each turn goes to the end of w's word. Assumes nothing.
use Rattle.std.proofs.Common.{◌+◌, ◌*◌, ◌%◌, ◌<◌, ◌≤◌}
use Rattle.engine_laws.specs.Sets.{Free}
use Rattle.engine.proofs.wheel.next_due.Given as goal

abbrev pub invariant-loop : goal.invariant-loop
invariant-loop l = Free l.occupied l.t l.w × (l.t < l.w) × (l.t + 258 + l.w % 64 + 64 * l.counter ≤ l.w + 320) × (l.w ≤ l.t + 1 + 64 * l.counter)
