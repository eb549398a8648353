-- `put_moved` meets its contract. The invariant: putting the rest in comes out as at the start. Assumes nothing.
use Rattle.std.proofs.Common.{◌≡◌, ◌+◌, ◌-◌, ◌*◌, ◌<◌, refl, sym, subst, ◌∙◌, inl, arith}
use Rattle.model.specs.NetlistFile.{in_file}
use Rattle.model.specs.CellSlices.{rewired}
use Rattle.netlist.proofs.Bytes.{cells-length, cells-get, cell-here, standing-first, cell-among, standing-next}
use Rattle.joiner.specs.Stands.{moves, Low}
use Rattle.joiner.proofs.Putting.{moved_more, moved-done}
use Rattle.joiner.proofs.moving.put_moved.Goals as goal
use Rattle.joiner.proofs.moving.put_moved.Goals.{In-Some}

pub loop-j-init-derived : goal.loop-j-init-derived
loop-j-init-derived c =
    let items = c.enumerate-j-items.ensures in
    rw (c.into_iter-j-iterator.ensures.into_iter_gives, items.count, items.source)
    ((tt, tt, inl (omega (arith, cells-length in_file c.args.file.now c.args.k (c.args.k + c.args.n - c.args.k), c.requires.0.few))), tt)

-- the cell that is given is one of the n
given : (c : In-Some) → c.in-Some.j < c.args.n
given c =
    let steps = c.in-Some.ensures.steps in
    omega (arith, cell-among c.loop-j.invariant.0 steps.0, steps.1, cells-length in_file c.args.file.now c.args.k c.args.n)

pub overflow_mul-j : goal.overflow_mul-j
overflow_mul-j c = omega (arith, given (goal.at.overflow_mul-j c).In-Some, c.requires.0.few)

pub overflow_add-i : goal.overflow_add-i
overflow_add-i c = omega (arith, given (goal.at.overflow_add-i c).In-Some, c.requires.1)

pub loop-j-init : goal.loop-j-init
loop-j-init c =
    let items = c.enumerate-j-items.ensures in
    let to : c.args.i + 6 * 0 ≡ c.args.i = omega arith in
    let left : c.args.k + c.args.n - c.args.k ≡ c.args.n = omega arith in
    rw (c.into_iter-j-iterator.ensures.into_iter_gives, items.count, items.source, to) (standing-first _ (rw left refl), rw left refl)

pub put_cell-requires : goal.put_cell-requires
put_cell-requires c = omega (arith, given (goal.at.put_cell-requires c).In-Some, c.requires.1)

pub rewired-moved-requires : goal.rewired-moved-requires
rewired-moved-requires c =
    let args = c.args in
    let known = c.loop-j.invariant.0 in
    let first = c.in-Some.ensures.steps.0 in
    let at = c.loop-j.j-iterator.count in
    let l : at < args.n = omega (arith, cell-among known first, cells-length in_file args.file.now args.k args.n) in
    let is = sym (cells-get in_file args.file.now args.k args.n at l) ∙ cell-here known first in
    (c.requires.2, subst Low is (c.requires.3.low (args.k + at) (omega (arith, l))))

pub loop-j-preserved : goal.loop-j-preserved
loop-j-preserved c =
    let known = c.loop-j.invariant in
    let steps = c.in-Some.ensures.steps in
    let to : c.args.i + 6 * c.loop-j.j-iterator.count + 6 ≡ c.args.i + 6 * (c.loop-j.j-iterator.count + 1) = omega arith in
    let put = rw steps.1 at c.put_cell.ensures.put in
    rw steps.2 (
      standing-next known.0 steps.0,
      known.1 ∙ rw to at (moved_more (rewired (moves c.args.at)) c.in-Some.c steps.0 c.rewired-moved.ensures c.loop-j.cells (c.args.i + 6 * c.loop-j.j-iterator.count) put),
    )

pub returns : goal.returns
returns c =
    let known = c.loop-j.invariant in
    sym (known.1 ∙ moved-done (rewired (moves c.args.at)) c.in-None.ensures.steps.0.0 c.loop-j.cells (c.args.i + 6 * c.loop-j.j-iterator.count))
