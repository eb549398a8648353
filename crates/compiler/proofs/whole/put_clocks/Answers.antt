-- `whole::put_clocks` meets its contract. Assumes nothing.
use mathlib.Core.List.{[]}
use Rattle.compiler.proofs.Assembly.{first-ready, no-callers, all-put}
use Rattle.compiler.proofs.whole.put_clocks.Goals as goal

pub put_roots-first-requires : goal.put_roots-first-requires
put_roots-first-requires c = first-ready c.requires.0

pub join_clocks-requires : goal.join_clocks-requires
join_clocks-requires c =
    let pre = c.requires in
    let walk = c.put_roots-first in
    record { program = _; before = _; ms = _; put = all-put pre.0 (walk.ensures [] no-callers) pre.1 walk.auto.cells }

pub returns : goal.returns
returns c =
    let pre = c.requires in
    let walk = c.put_roots-first in
    c.join_clocks.ensures _ _ _ (all-put pre.0 (walk.ensures [] no-callers) pre.1 walk.auto.cells)
