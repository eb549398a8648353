-- `marks::put_marks` meets its contract. The invariant: putting in what is left comes out as putting in all. Assumes nothing.
use Rattle.std.proofs.Common.{◌≡◌, ◌+◌, ◌-◌, ◌<◌, length, refl, sym, ap, ◌∙◌, inl, arith}
use lib.ListN.{length-append}
use lib.Seq.{sets}
use Rattle.model.specs.NetlistFile.{in_list}
use Rattle.netlist.specs.Left.{cells_left}
use Rattle.netlist.proofs.Bytes.{cells-length, standing-first, cell-among, standing-next}
use Rattle.joiner.specs.Gates.{gate, gate_marks}
use Rattle.joiner.proofs.Marking.{no-gate, a-gate, no_cells, put-behind}
use Rattle.joiner.proofs.marks.put_marks.Goals as goal
use Rattle.joiner.proofs.marks.put_marks.Goals.{In-Some}

pub loop-j-init-derived : goal.loop-j-init-derived
loop-j-init-derived c =
    let items = c.enumerate-j-items.ensures in
    rw (c.into_iter-j-iterator.ensures.into_iter_gives, items.count, items.source)
    ((tt, tt, inl (omega (arith, cells-length in_list c.args.cells.now c.args.from (c.args.end - c.args.from), c.requires.0.few))), tt)

-- the cell that is given is one of the walk's
given : (c : In-Some) → c.args.from + c.in-Some.j < c.args.end
given c =
    let steps = c.in-Some.ensures.steps in
    omega (arith, cell-among c.loop-j.invariant.0 steps.0, steps.1, cells-length in_list c.args.cells.now c.args.from (c.args.end - c.args.from))

pub overflow_add-from : goal.overflow_add-from
overflow_add-from c = omega (arith, given (goal.at.overflow_add-from c).In-Some, c.requires.0.few)

pub overflow_cast-from : goal.overflow_cast-from
overflow_cast-from c = omega (arith, given (goal.at.overflow_cast-from c).In-Some, c.requires.0.few)

pub loop-j-init : goal.loop-j-init
loop-j-init c =
    let items = c.enumerate-j-items.ensures in
    let z : c.args.from + 0 ≡ c.args.from = omega arith in
    rw (c.into_iter-j-iterator.ensures.into_iter_gives, items.count, items.source, z) (standing-first _ refl, refl, refl)

pub put_gate-next-requires : goal.put_gate-next-requires
put_gate-next-requires c =
    let known = c.loop-j.invariant in
    let steps = c.in-Some.ensures.steps in
    let got = c.first_or-x in
    let i = c.args.from + c.loop-j.j-iterator.count in
    let rest = cells_left c.next.new.self.iter in
    let one = a-gate i c.loop-j.left.now c.in-Some.c steps.0 c.if-c-eq41.true got.ensures.first got.ensures.behind in
    rw steps.1 (
      omega (arith, c.requires.2, known.1, ap length one, length-append (gate got.result.0 c.in-Some.c.a i) (gate_marks (i + 1) rest got.result.1.now)),
      omega (arith, c.requires.0.few, given (goal.at.put_gate-next-requires c).In-Some, steps.1),
    )

pub loop-j-preserved-then-c-eq41 : goal.loop-j-preserved-then-c-eq41
loop-j-preserved-then-c-eq41 c =
    let known = c.loop-j.invariant in
    let steps = c.in-Some.ensures.steps in
    let got = c.first_or-x in
    let i = c.args.from + c.loop-j.j-iterator.count in
    let e : c.args.from + (c.loop-j.j-iterator.count + 1) ≡ i + 1 = omega arith in
    let x = gate got.result.0 c.in-Some.c.a i in
    let left = gate_marks (i + 1) (cells_left c.next.new.self.iter) got.result.1.now in
    let one = a-gate i c.loop-j.left.now c.in-Some.c steps.0 c.if-c-eq41.true got.ensures.first got.ensures.behind in
    let next = rw steps.1 at c.put_gate-next.ensures.next in
    let put = rw steps.1 at c.put_gate-next.ensures.put in
    rw (steps.2, e) (
      standing-next known.0 steps.0,
      omega (arith, known.1, ap length one, length-append x left, next),
      known.2 ∙ ap (sets c.loop-j.marks c.loop-j.next) one ∙ put-behind x left c.loop-j.marks c.loop-j.next put next,
    )

pub loop-j-preserved : goal.loop-j-preserved
loop-j-preserved c =
    let known = c.loop-j.invariant in
    let steps = c.in-Some.ensures.steps in
    let i = c.args.from + c.loop-j.j-iterator.count in
    let e : c.args.from + (c.loop-j.j-iterator.count + 1) ≡ i + 1 = omega arith in
    let none = no-gate i c.loop-j.left.now c.in-Some.c steps.0 c.if-c-eq41.false in
    rw (steps.2, e)
    (standing-next known.0 steps.0, omega (arith, known.1, ap length none), known.2 ∙ ap (sets c.loop-j.marks c.loop-j.next) none)

pub returns : goal.returns
returns c =
    let known = c.loop-j.invariant in
    let none = no_cells (c.args.from + c.loop-j.j-iterator.count) c.loop-j.left.now c.in-None.ensures.steps.0.0 in
    record { next = omega (arith, known.1, ap length none); put = sym (known.2 ∙ ap (sets c.loop-j.marks c.loop-j.next) none) }
