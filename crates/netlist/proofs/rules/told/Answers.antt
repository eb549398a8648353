-- `rules::told` meets its contract. Assumes nothing.
use Rattle.std.proofs.Common.{◌∙◌}
use Rattle.netlist.proofs.CellChecks.{rules-broken, count-wrong, finish-right, finish-wrong}
use Rattle.netlist.proofs.rules.told.Goals as goal

pub returns-then-s : goal.returns-then-s
returns-then-s c = λ net f p. c.refuse.ensures ∙ rules-broken p c.if-s.true

pub returns-then-s-cut_off : goal.returns-then-s-cut_off
returns-then-s-cut_off c = λ net f p. c.refuse-then-s-cut_off.ensures ∙ count-wrong p c.if-s.false (rw c.cut_off.ensures at c.if-s-cut_off.true)

pub returns-then-s-2 : goal.returns-then-s-2
returns-then-s-2 c = λ net f p. finish-right p c.if-s.false (rw c.cut_off.ensures at c.if-s-cut_off.false) c.if-s-2.true

pub returns : goal.returns
returns c = λ net f p. c.refuse-2.ensures ∙ finish-wrong p c.if-s.false (rw c.cut_off.ensures at c.if-s-cut_off.false) c.if-s-2.false
