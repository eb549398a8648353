-- `cells::put_cells` meets its contract. Assumes nothing.
use Rattle.std.proofs.Common.{◌≡◌, ◌+◌, ◌-◌, ◌*◌, ◌<◌, refl, sym, ◌∙◌, inl, arith}
use Rattle.netlist.specs.Offsets.{offset}
use Rattle.netlist.proofs.Bytes.{cells-length, standing-first, cell-among, standing-next, put-more, put-done}
use Rattle.netlist.proofs.cells.put_cells.Goals as goal
use Rattle.netlist.proofs.cells.put_cells.Goals.{In-Some}

pub loop-j-init-derived : goal.loop-j-init-derived
loop-j-init-derived c =
    let items = c.enumerate-j-items.ensures in
    rw (c.into_iter-j-iterator.ensures.into_iter_gives, items.count, items.source)
    ((tt, tt, inl (omega (arith, cells-length (offset c.args.layout) c.args.s.now c.args.k (c.args.k + c.args.n - c.args.k), c.requires.0.few))), tt)

-- the cell that is given is one of the n
given : (c : In-Some) → c.in-Some.j < c.args.n
given c =
    let steps = c.in-Some.ensures.steps in
    omega (arith, cell-among c.loop-j.invariant.0 steps.0, steps.1, cells-length (offset c.args.layout) c.args.s.now c.args.k c.args.n)

pub overflow_mul-j : goal.overflow_mul-j
overflow_mul-j c = omega (arith, given (goal.at.overflow_mul-j c).In-Some, c.requires.0.few)

pub overflow_add-i : goal.overflow_add-i
overflow_add-i c = omega (arith, given (goal.at.overflow_add-i c).In-Some, c.requires.1)

pub loop-j-init : goal.loop-j-init
loop-j-init c =
    let items = c.enumerate-j-items.ensures in
    let to : c.args.i + 6 * 0 ≡ c.args.i = omega arith in
    let left : c.args.k + c.args.n - c.args.k ≡ c.args.n = omega arith in
    rw (c.into_iter-j-iterator.ensures.into_iter_gives, items.count, items.source, to) (standing-first _ (rw left refl), rw left refl)

pub put_cell-requires : goal.put_cell-requires
put_cell-requires c = omega (arith, given (goal.at.put_cell-requires c).In-Some, c.requires.1)

pub loop-j-preserved : goal.loop-j-preserved
loop-j-preserved c =
    let known = c.loop-j.invariant in
    let steps = c.in-Some.ensures.steps in
    let to : c.args.i + 6 * c.loop-j.j-iterator.count + 6 ≡ c.args.i + 6 * (c.loop-j.j-iterator.count + 1) = omega arith in
    let put = rw steps.1 at c.put_cell.ensures.put in
    rw steps.2 (standing-next known.0 steps.0, known.1 ∙ rw to at (put-more c.in-Some.c steps.0 c.loop-j.d (c.args.i + 6 * c.loop-j.j-iterator.count) put))

pub returns : goal.returns
returns c =
    let known = c.loop-j.invariant in
    sym (known.1 ∙ put-done c.in-None.ensures.steps.0.0 c.loop-j.d (c.args.i + 6 * c.loop-j.j-iterator.count))
