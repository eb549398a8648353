-- `walk::put_switches` meets its contract. Assumes nothing.
use native.Mathlib.Omega.{arith}
use Rattle.compiler.proofs.Exprs.{switches-done}
use Rattle.compiler.proofs.walk.put_switches.Goals as goal

pub put-requires : goal.put-requires
put-requires g c =
    let some = g.met.W.Words.some_wires c.args.words.now in
    let ready = c.requires.1 in
    omega (arith, ready.room, (c.put_expr-e.ensures some.0 some.1).cell, c.put_expr-e.auto.cells)

pub overflow_add-e : goal.overflow_add-e
overflow_add-e g c =
    let some = g.met.W.Words.some_wires c.args.words.now in
    let ready = c.requires.1 in
    omega (arith, ready.room, ready.expr.small, (c.put_expr-e.ensures some.0 some.1).cell)

pub put-requires-2 : goal.put-requires-2
put-requires-2 g c =
    let some = g.met.W.Words.some_wires c.args.words.now in
    let ready = c.requires.1 in
    omega (arith, ready.room, (c.put_expr-e.ensures some.0 some.1).cell, c.put_expr-e.auto.cells, c.put.auto.cells)

pub returns : goal.returns
returns g c = λ ws come. switches-done (c.put_expr-e.ensures ws come) c.put.ensures c.put-2.ensures
