-- The arrays are right from node i on.
use Rattle.std.proofs.Common.{refl, ◌∙◌, ap, arith, ◌+◌, ◌-◌, ◌<◌, length-set}
use Rattle.model.specs.declared.kinds.Row.{Row}
use Rattle.model.specs.Program.{node_count, time_in}
use Rattle.program.specs.Ends.{skips}
use Rattle.program.specs.Shape.{shaped-more}
use Rattle.program.proofs.measure.Goals as goal

pub loop-i-init : goal.loop-i-init
loop-i-init c = (refl, refl, λ j l m. absurd (omega arith))

pub loop-i-preserved : goal.loop-i-preserved
loop-i-preserved c =
    let loop = c.loop-i in
    let s = c.args.program.now in
    let i = loop.i - 1 in
    let h : i < node_count s = omega (arith, c.loop-i-test.true) in
    let k : i < 200 = omega (arith, h, c.requires.short) in
    let e = c.skip-end.ensures ∙ ap (λ (r : Row). skips loop.told.ends (node_count s) (r.exprs + r.stmts) (i + 1)) c.kind_row-row.ensures in (
      simp length-set loop.invariant.0,
      simp length-set loop.invariant.1,
      shaped-more (time_in c.args.options.now.times) s loop.told.times loop.told.ends i (λ j p q. loop.invariant.2 j (omega (arith, p)) q) h
          (omega (arith, k, loop.invariant.0)) (omega (arith, k, loop.invariant.1)) _ c.read_node.ensures _ c.time_at-time.ensures _ e,
    )
