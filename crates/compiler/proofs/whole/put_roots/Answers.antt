-- `whole::put_roots` meets its contract: what is still to be put in from root r on comes out as at the start. Assumes nothing.
use mathlib.Core.Path.{refl}
use native.Mathlib.Omega.{arith}
use Rattle.compiler.proofs.Roots.{rooting-start}
use Rattle.compiler.proofs.Assembly.{few-procedures, root-ready, root-further, roots-end}
use Rattle.compiler.proofs.whole.put_roots.Goals as goal

pub loop-r-init : goal.loop-r-init
loop-r-init c =
    (omega arith, refl, refl, refl, λ cs T. rooting-start _ _ _ _ _ _ refl)

pub overflow_cast-root : goal.overflow_cast-root
overflow_cast-root c =
    let pre = c.requires in
    let loop-test = c.loop-r-test in
    omega (arith, few-procedures pre.given, loop-test.true)

pub put_root-at-requires : goal.put_root-at-requires
put_root-at-requires c =
    let pre = c.requires in
    let loop = c.loop-r in
    let C = loop.invariant.4 pre.calls pre.told in
    rw (loop.invariant.1, loop.invariant.2) (
      pre.given.laid,
      rw C.same (root-ready pre.given c.args.callers.now pre.told pre.apart C (omega arith) c.skip.ensures pre.room),
      omega (arith, few-procedures pre.given),
    )

pub offset_bounds-known-r : goal.offset_bounds-known-r
offset_bounds-known-r c =
    let pre = c.requires in
    let loop-test = c.loop-r-test in
    omega (arith, few-procedures pre.given, loop-test.true)

pub bounds-known-r : goal.bounds-known-r
bounds-known-r c =
    let pre = c.requires in
    let loop-test = c.loop-r-test in
    omega (arith, few-procedures pre.given, loop-test.true)

pub loop-r-preserved : goal.loop-r-preserved
loop-r-preserved c =
    let pre = c.requires in
    let loop = c.loop-r in
    let put = c.put_root-at in
    let done = rw (loop.invariant.1, loop.invariant.2, loop.invariant.3) at put.ensures in (
      omega arith,
      loop.invariant.1,
      loop.invariant.2,
      loop.invariant.3,
      λ cs T. root-further pre.given c.args.callers.now T pre.apart (loop.invariant.4 cs T) (omega arith) c.skip.ensures c.idle_start.ensures put.auto.cells done,
    )

pub shape_of-cells : goal.shape_of-cells
shape_of-cells c =
    let pre = c.requires in
    let loop = c.loop-r in
    (loop.invariant.4 pre.calls pre.told).same

pub returns : goal.returns
returns c =
    let pre = c.requires in
    let loop = c.loop-r in
    λ cs T. roots-end pre.given (loop.invariant.4 cs T) (omega (arith, loop.invariant.0))

pub returns-2 : goal.returns-2
returns-2 c =
    let pre = c.requires in
    let loop = c.loop-r in
    let put = c.put_root-at in
    let done = rw (loop.invariant.1, loop.invariant.2, loop.invariant.3) at put.ensures in
    λ cs T.
    roots-end pre.given
    (root-further pre.given c.args.callers.now T pre.apart (loop.invariant.4 cs T) (omega arith) c.skip.ensures c.idle_start.ensures put.auto.cells done)
    (omega arith)
