-- `words::value` meets its contract. The invariant: going on from v at byte c comes out as from 0 at the start. No value on the way
-- is above the last one, which has five digits. Assumes nothing.
use Rattle.std.proofs.Common.{◌≡◌, drop}
use Rattle.model.specs.Text.{value_from}
use Rattle.scanner.proofs.value.Given as goal

abbrev pub invariant-loop-c : goal.invariant-loop-c
invariant-loop-c l = value_from 0 l.w ≡ value_from l.v (drop l.c-index l.w)
