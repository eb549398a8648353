-- `rules::check_last` meets its contract. Assumes nothing.
use Rattle.std.proofs.Common.{◌≡◌, ◌+◌, ◌-◌, ◌<◌, refl, sym, ◌∙◌, inl, arith}
use Rattle.model.specs.Circuit.{cell_at}
use Rattle.model.specs.NetlistFile.{cells_at, last_check}
use Rattle.laws.specs.Refusals.Search.{fault-here, fault-next, faults-end}
use Rattle.netlist.specs.Offsets.{offset}
use Rattle.netlist.proofs.Bytes.{cells-length, cells-get, cell-of, standing-first, passed, cell-among, standing-next, cell-here}
use Rattle.netlist.proofs.LastChecks.{searched-early, last-wrong, last-right}
use Rattle.netlist.proofs.rules.check_last.Goals as goal
use Rattle.netlist.proofs.rules.check_last.Goals.{In-Some}

-- the cell that is given
given : (c : In-Some) → (c.first_last-first.result + c.loop-k.k-iterator.count < c.args.n)
    × (cell_at (cells_at (offset c.args.layout) c.args.s.now 0 c.args.n) (c.first_last-first.result + c.loop-k.k-iterator.count) ≡ c.in-Some.c)
given c =
    let at = offset c.args.layout in
    let s = c.args.s.now in
    let first = c.first_last-first.result in
    let k = c.loop-k.k-iterator.count in
    let known = c.loop-k.invariant in
    let steps = c.in-Some.ensures.steps in
    let among = cell-among known.2 steps.0 in
    let low : first + k < c.args.n = omega (arith, among, cells-length at s first (c.args.n - first)) in
    (low, cell-of at s c.args.n (first + k) low ∙ sym (cells-get at s first (c.args.n - first) k (omega (arith, low))) ∙ cell-here known.2 steps.0)

pub loop-k-init-derived : goal.loop-k-init-derived
loop-k-init-derived c =
    let items = c.enumerate-k-items.ensures in
    let first = c.first_last-first.result in
    rw (c.into_iter-k-iterator.ensures.into_iter_gives, items.count, items.source)
    ((tt, tt, inl (omega (arith, cells-length (offset c.args.layout) c.args.s.now first (c.args.n - first)))), tt)

pub overflow_add-first : goal.overflow_add-first
overflow_add-first c =
    let it = given (goal.at.overflow_add-first c).In-Some in
    omega (arith, it.0, c.in-Some.ensures.steps.1)

pub loop-k-init : goal.loop-k-init
loop-k-init c =
    let args = c.args in
    let start = c.first_last-first.ensures in
    let items = c.enumerate-k-items.ensures in
    let net = cells_at (offset args.layout) args.s.now 0 args.n in
    let l = cells-length (offset args.layout) args.s.now 0 args.n in
    let z : c.first_last-first.result + 0 ≡ c.first_last-first.result = omega arith in
    rw (c.into_iter-k-iterator.ensures.into_iter_gives, items.count, items.source, z) (
      omega (arith, start),
      rw l at (searched-early net c.first_last-first.result (omega (arith, start, l))),
      standing-first _ refl,
    )

pub returns-then-not-carries : goal.returns-then-not-carries
unfolding last_check
returns-then-not-carries c =
    let args = c.args in
    let known = c.loop-k.invariant in
    let it = given (goal.at.returns-then-not-carries c).In-Some in
    let net = cells_at (offset args.layout) args.s.now 0 args.n in
    let l = cells-length (offset args.layout) args.s.now 0 args.n in
    rw c.in-Some.ensures.steps.1 at c.refuse.ensures ∙ rw l
    (fault-here known.1 12 it.0 (omega arith)
    (last-wrong net _ (omega (arith, l, known.0)) it.1 (sym c.carries.ensures ∙ c.if-not-carries.true)))

pub loop-k-preserved : goal.loop-k-preserved
loop-k-preserved c =
    let args = c.args in
    let known = c.loop-k.invariant in
    let steps = c.in-Some.ensures.steps in
    let it = given (goal.at.loop-k-preserved c).In-Some in
    let net = cells_at (offset args.layout) args.s.now 0 args.n in
    let l = cells-length (offset args.layout) args.s.now 0 args.n in
    let z : c.first_last-first.result + c.loop-k.k-iterator.count + 1 ≡ c.first_last-first.result + (c.loop-k.k-iterator.count + 1) = omega arith in
    rw steps.2 (
      omega (arith, known.0),
      rw z at (fault-next known.1 it.0 (last-right net _ (omega (arith, l, known.0)) it.1 (sym c.carries.ensures ∙ c.if-not-carries.false))),
      standing-next known.2 steps.0,
    )

pub returns : goal.returns
unfolding last_check
returns c =
    let args = c.args in
    let known = c.loop-k.invariant in
    let at = offset args.layout in
    let past = passed known.2 c.in-None.ensures.steps.0.0 in
    rw (cells-length at args.s.now 0 args.n)
    (faults-end known.1 (omega (arith, past, cells-length at args.s.now c.first_last-first.result (args.n - c.first_last-first.result))))
