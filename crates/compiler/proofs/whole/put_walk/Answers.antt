-- `whole::put_walk` meets its contract. Assumes nothing.
use mathlib.Core.Path.{refl}
use Rattle.compiler.proofs.Assembly.{walk-ready, all-put}
use Rattle.compiler.proofs.whole.put_walk.Goals as goal

pub put_roots-end-requires : goal.put_roots-end-requires
put_roots-end-requires c =
    let pre = c.requires in
    walk-ready pre.0 pre.1 _ pre.2

pub join_words-requires : goal.join_words-requires
join_words-requires c =
    let pre = c.requires in
    let walk = c.put_roots-end in
    record { program = _; before = _; ms = _; put = all-put pre.0 (rw pre.1 at (walk.ensures _ pre.2)) refl walk.auto.cells }

pub returns : goal.returns
returns c =
    let pre = c.requires in
    let walk = c.put_roots-end in
    c.join_words.ensures _ _ _ (all-put pre.0 (rw pre.1 at (walk.ensures _ pre.2)) refl walk.auto.cells)
