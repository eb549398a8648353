-- `rows::put_each` meets its contract: putting in the cells that are left comes out as at the start. Assumes nothing.
use mathlib.Core.Path.{◌≡◌, refl, sym, ◌∙◌, ap}
use mathlib.Core.Bool.{true, false}
use Prim.Native.Nat.{◌<◌}
use native.Mathlib.Omega.{arith}
use Rattle.compiler.specs.Writes.{write}
use Rattle.functional.specs.Sets.{has}
use Rattle.functional.proofs.Bits.{among-in, among-out, among-end, rows_in, rows_out, rows_of-end}
use Rattle.functional.proofs.rows.put_each.Goals as goal
use Rattle.functional.proofs.rows.put_each.Goals.{then-has, else-has}

pub loop-x-init : goal.loop-x-init
loop-x-init c = (refl, refl, refl, omega arith)

pub put-requires : goal.put-requires
put-requires c =
    let inv = c.loop-x.invariant in
    let a = among-in (has c.args.set) c.loop-x.x (omega arith) (sym c.has.ensures ∙ c.if-has.true) in
    omega (arith, c.requires.0, inv.1, inv.2, a)

pub loop-x-preserved : goal.loop-x-preserved
loop-x-preserved c =
    let inv = c.loop-x.invariant in
    let test : c.loop-x.x < 16 = omega arith in
    elim c.if-has.branch [
      | then-has w ↦
          let e : has c.args.set c.loop-x.x ≡ true = sym c.has.ensures ∙ w.if-has.true in
          let a = among-in (has c.args.set) c.loop-x.x test e in
          rw (w.cells-is, w.at-is) (
            ap (write _ _) w.put.ensures ∙ sym (rows_in _ _ _ _ _ test e) ∙ inv.0,
            omega (arith, inv.1, a),
            w.put.auto.cells ∙ inv.2,
            omega (arith, inv.3),
          )
      | else-has w ↦
          let e : has c.args.set c.loop-x.x ≡ false = sym c.has.ensures ∙ w.if-has.false in
          let a = among-out (has c.args.set) c.loop-x.x test e in
          rw (w.cells-is, w.at-is) (sym (rows_out _ _ _ _ _ test e) ∙ inv.0, omega (arith, inv.1, a), inv.2, omega (arith, inv.3))
    ]

pub returns : goal.returns
returns c =
    let inv = c.loop-x.invariant in
    let a = among-end (has c.args.set) c.loop-x.x (omega arith) in
    record { cells = sym (rows_of-end _ _ _ _ _ (omega arith)) ∙ inv.0; next = omega (arith, inv.1, a) }
