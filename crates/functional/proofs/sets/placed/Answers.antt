-- `sets::placed` meets its contract. Assumes nothing.
use mathlib.Core.Path.{◌≡◌, refl, sym, ◌∙◌}
use mathlib.Core.Bool.{true, false}
use Prim.Native.Nat.{◌<◌}
use native.Mathlib.Omega.{arith}
use Rattle.model.specs.Functional.{placed}
use Rattle.functional.specs.Sets.{has, wired}
use Rattle.functional.proofs.Bits.{rank-none, rank-in, rank-out, upto-none, upto_next, upto-end}
use Rattle.functional.proofs.sets.placed.Goals as goal
use Rattle.functional.proofs.sets.placed.Goals.{then-has, else-has}

pub loop-x-init : goal.loop-x-init
loop-x-init c = (upto-none _ _ _ (omega arith) (λ y. refl), rank-none _ _, omega arith)

pub loop-x-preserved : goal.loop-x-preserved
loop-x-preserved c =
    let S = has c.args.set in
    let x = c.loop-x.x in
    let inv = c.loop-x.invariant in
    let F = placed S c.args.from (wired c.args.ws.of) in
    let G = wired c.args.ws.of in
    let test : x < 16 = omega arith in
    elim c.if-has.branch [
      | then-has w ↦
          let e : S x ≡ true = sym c.has.ensures ∙ w.if-has.true in
          let put : c.loop-x.at ≡ F x = rw e inv.1 in
          rw (w.at-is, w.wire-items-is) (upto_next F G _ x _ test put inv.0, omega (arith, inv.1, rank-in S x e), omega (arith, inv.2))
      | else-has w ↦
          let e : S x ≡ false = sym c.has.ensures ∙ w.if-has.false in
          let kept : G x ≡ F x = rw e refl in
          rw (w.at-is, w.wire-items-is) (upto_next F G _ x _ test (inv.0.left x (omega arith) ∙ kept) inv.0, omega (arith, inv.1, rank-out S x e), omega (arith, inv.2))
    ]

pub returns : goal.returns
returns c = upto-end _ _ _ _ (omega arith) c.loop-x.invariant.0
