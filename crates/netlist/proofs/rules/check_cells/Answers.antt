-- `rules::check_cells` meets its contract. Assumes nothing.
use Rattle.std.proofs.Common.{◌≡◌, ◌-◌, ◌<◌, length, refl, arith}
use Rattle.model.specs.NetlistFile.{cells_at}
use Rattle.netlist.specs.Offsets.{offset}
use Rattle.netlist.proofs.Bytes.{cells-length, kind-input, input-fits, standing-first, passed, cell-among, standing-next, cell-here}
use Rattle.netlist.proofs.rules.check_cells.Goals as goal

pub loop-k-init : goal.loop-k-init
loop-k-init c =
    let items = c.enumerate-k-items.ensures in
    let z : c.args.n - 0 ≡ c.args.n = omega arith in
    rw (c.into_iter-k-iterator.ensures.into_iter_gives, items.count, items.source) (standing-first _ (rw z refl), c.begin-scan.ensures _ (cells-length _ _ 0 _))

pub kind_at-a-requires : goal.kind_at-a-requires
kind_at-a-requires c =
    let steps = c.in-Some.ensures.steps in
    let low : c.in-Some.k < c.args.n = omega (arith, cell-among c.loop-k.invariant.0 steps.0, steps.1, cells-length (offset c.args.layout) c.args.s.now 0 c.args.n) in
    input-fits c.requires _ _ c.input.ensures low

pub kind_at-b-requires : goal.kind_at-b-requires
kind_at-b-requires c =
    let steps = c.in-Some.ensures.steps in
    let low : c.in-Some.k < c.args.n = omega (arith, cell-among c.loop-k.invariant.0 steps.0, steps.1, cells-length (offset c.args.layout) c.args.s.now 0 c.args.n) in
    input-fits c.requires _ _ c.input-in-loop-k.ensures low

pub step-scan-requires : goal.step-scan-requires
step-scan-requires c =
    let known = c.loop-k.invariant in
    let steps = c.in-Some.ensures.steps in
    (omega (arith, known.1.count, cell-among known.0 steps.0, steps.1), omega (arith, known.1.few, steps.1))

pub loop-k-preserved : goal.loop-k-preserved
loop-k-preserved c =
    let known = c.loop-k.invariant in
    let steps = c.in-Some.ensures.steps in
    let at = offset c.args.layout in
    let s = c.args.s.now in
    let n = c.args.n in
    let step = rw steps.1 at (c.step-scan.ensures (cells_at at s 0 n) c.args.finish) in
    let one = rw steps.1 at c.input.ensures in
    let other = rw steps.1 at c.input-in-loop-k.ensures in
    rw steps.2 (
      standing-next known.0 steps.0,
      step (record {
        here = cell-here known.0 steps.0;
        first = kind-input at s n c.in-Some.c.a _ one c.kind_at-a.ensures;
        second = kind-input at s n c.in-Some.c.b _ other c.kind_at-b.ensures;
      }) known.1,
    )

pub returns : goal.returns
returns c =
    let known = c.loop-k.invariant in
    let net = cells_at (offset c.args.layout) c.args.s.now 0 c.args.n in
    let all : c.loop-k.k-iterator.count ≡ length net = omega (arith, passed known.0 c.in-None.ensures.steps.0.0, known.0.all) in
    c.told.ensures net c.args.finish (rw all at known.1)
