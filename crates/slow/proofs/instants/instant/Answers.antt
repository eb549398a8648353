-- `instant` meets its contract: the cells below k have been evaluated. Assumes nothing.
use Prim.Native.Nat.{ℕ}
use native.Mathlib.Omega.{arith}
use mathlib.Core.Path.{◌≡◌, refl, subst, ◌∙◌}
use Rattle.model.specs.Circuit.{memories}
use Rattle.slow.specs.Ring.{KeptIn}
use Rattle.slow.proofs.Ends.{works-with}
use Rattle.slow.proofs.instants.instant.Goals as goal

pub loop-k-init : goal.loop-k-init
unfolding memories
loop-k-init c = (refl, refl, c.requires.1)

pub evaluate-memory-requires : goal.evaluate-memory-requires
evaluate-memory-requires c =
    let start = c in
    let args = start.args in
    let loop = c.loop-k in (
      works-with args.net.now.cells.now args.net.now.n args.net.now.words.now args.work.now loop.work start.requires.0 loop.invariant.0,
      loop.invariant.2,
      omega arith,
      loop.invariant.1,
    )

pub loop-k-preserved : goal.loop-k-preserved
loop-k-preserved c =
    let loop = c.loop-k in
    let r = c.evaluate-memory in
    (c.evaluate-memory.auto.work ∙ loop.invariant.0, c.evaluate-memory.ensures.memory, c.evaluate-memory.ensures.kept)

pub shape_of-work : goal.shape_of-work
shape_of-work c = c.loop-k.invariant.0

pub returns : goal.returns
returns c =
    let args = c.args in
    let loop = c.loop-k in
    let e : loop.k ≡ args.net.now.n = omega arith in
    subst (λ (k : ℕ). KeptIn args.net.now.cells.now args.net.now.n args.net.now.ors args.net.now.times.now args.net.now.words.now args.t k loop.work) e loop.invariant.2
