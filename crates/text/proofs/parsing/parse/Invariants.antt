-- `parsing::parse` meets its contract. The invariant: with the words that are left the reading goes on as from the first.
-- Assumes nothing.
use Rattle.std.proofs.Common.{◌≡◌}
use Rattle.text.specs.Shown.{lists}
use Rattle.text.specs.Parsing.{Going}
use Rattle.text.proofs.parsing.parse.Given as goal

abbrev pub invariant-loop-w : goal.invariant-loop-w
invariant-loop-w l =
    let ws = l.w-iterator in (ws.text.now ≡ l.text) × Going l.text ws.at ws.previous l.m (lists l.stack l.nodes)
