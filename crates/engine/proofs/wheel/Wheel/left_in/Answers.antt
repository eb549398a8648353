-- `left_in` meets its contract. Assumes nothing.
use Rattle.std.proofs.Common.{◌≡◌, arith}
use Rattle.engine_laws.specs.Lines.{numbered-none, numbered-one}
use Rattle.engine.proofs.wheel.Wheel.left_in.Goals as goal

pub returns-then-left-gt0-clause-numbered : goal.returns-then-left-gt0-clause-numbered
returns-then-left-gt0-clause-numbered c =
    let a = c.args in
    let pre = c.requires in
    let e = c.enter.ensures in
    rw (e.rows, e.tag)
    (numbered-one a.self.now.width a.r a.self.now.rows.now a.self.now.tag.now pre.4 pre.3 pre.0.0 pre.0.2 pre.2 a.left (omega arith) (omega arith))

pub returns-else-left-gt0-clause-numbered : goal.returns-else-left-gt0-clause-numbered
returns-else-left-gt0-clause-numbered c =
    let a = c.args in
    let z : a.left ≡ 0 = omega arith in
    rw z (numbered-none a.self.now.width a.r a.self.now.rows.now a.self.now.tag.now c.requires.4)
